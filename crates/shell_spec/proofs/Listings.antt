-- A stream has one listing, since it has one cut.
use Rattle.std.proofs.Common.{◌≡◌, ℕ, List, refl, sym, ◌∙◌, ap₂}
use Rattle.line_spec.specs.Frames.{IsBytes}
use Rattle.line_spec.specs.Cut.{Item}
use Rattle.line_spec.proofs.Cuts.{has_cut, same_cut}
use Rattle.shell_spec.specs.Listing.{IsListing, listing}

pub every-listing : (bytes : List ℕ) → IsBytes bytes → (text : List ℕ) × IsListing bytes text
every-listing bytes h =
    let cut = has_cut bytes h in
    (listing cut.0 cut.1, record { items = cut.0; rest = cut.1; cut = cut.2; is = refl })

pub one-listing : (bytes text other : List ℕ) → IsListing bytes text → IsListing bytes other → text ≡ other
one-listing bytes text other a b =
    let same = same_cut bytes a.rest b.rest a.items b.items a.cut b.cut in
    a.is ∙ ap₂ (λ (items : List Item) (rest : List ℕ). listing items rest) same.0 same.1 ∙ sym b.is
