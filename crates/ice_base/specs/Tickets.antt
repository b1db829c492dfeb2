-- What is known of a work on a thread until it is joined.
use Rattle.std.specs.Prelude.{◌≡◌}
use Rattle.ice_base.specs.declared.handle_ticket.Came.{Came}
use Rattle.ice_base.specs.declared.handle_ticket.Place.{Place}

-- what a thread leaves that was handed a work: a value that the work gives, or the work
abbrev pub Comes : {W D : Type 0} → (W → D → Type 0) → W → Came W D → Type 0
Comes gives work (Came.Done done) = gives work done
Comes gives work (Came.Back given) = given ≡ work

-- the values that are still to come: what the work of a handle gives, or else the value that is here
abbrev pub Allows : {H D : Type 0} → (H → D → Type 0) → Place H D → D → Type 0
Allows gives (Place.Away handle) done = gives handle done
Allows gives (Place.Here given) done = done ≡ given
