-- The flash and the runner, moved by what was asked of both.
use Rattle.std.specs.Prelude.{◌≡◌, ◌≤◌, ℕ, List, [], ◌∷◌}
use Rattle.ice_base.specs.Counts.{Rose}
use Rattle.debug_spec.specs.Device.{Outcome, made, failed, denied, Asked, write, launch}
use Rattle.debug_spec.specs.Moved.{Flash, IsWrite}

-- the flash, and how many launches have failed, up to the greatest u64
pub record Outside (F : Type 0) : Type 0 where
  pub flash : F
  pub faults : ℕ

abbrev pub outside : {F : Type 0} → F → ℕ → Outside F
outside flash faults = record { flash = flash; faults = faults }

-- a launch that was made, or one that was refused: the count rose in it
abbrev pub IsLaunch : Outcome → ℕ → ℕ → Type 0
IsLaunch made before after = before ≤ after
IsLaunch (failed left) before after = ⊥
IsLaunch denied before after = Rose before after

-- both moved by all that was asked, one by one; a launch leaves the flash as it is
abbrev pub MovesBoth : {F : Type 0} → Flash F → Outside F → List Asked → Outside F → Type 0
MovesBoth flash from [] to = (to.flash ≡ from.flash) × (from.faults ≤ to.faults)
MovesBoth {F} flash from (write page content outcome ∷ asked) to =
    (between : F) × IsWrite flash from.flash page content outcome between × MovesBoth flash (outside between from.faults) asked to
MovesBoth flash from (launch outcome ∷ asked) to =
    (between : ℕ) × IsLaunch outcome from.faults between × MovesBoth flash (outside from.flash between) asked to
