use Rattle.std.proofs.Common.{◌≡◌, ℕ, ◌<◌, ◌≤◌, true, false, inl, inr, sym, ap, ◌∙◌, arith}
use Rattle.std.proofs.lemmas.Bool.{cases_lt}
use Rattle.host_session.specs.Awaiting.{kept_limit}
use Rattle.host_session.proofs.awaiting.hear.Goals as goal

no_room : (n room : ℕ) → room ≡ kept_limit → n ≤ kept_limit → (n < room → false ≡ true) → n ≡ kept_limit
no_room n room r h less = elim (cases_lt n room) [
  | inl some ↦ (let e : false ≡ true = less some in cc)
  | inr none ↦ omega (arith, r, h, none)
]

pub returns-in-Err-clause-heard : goal.returns-in-Err-clause-heard
returns-in-Err-clause-heard c =
    let event = c.in-Ok.ensures in (
      c.if-frame-wanted.false,
      (c.if-frame.false, (event.0, sym c.as_slice.ensures.value ∙ event.1)),
      no_room _ _ c.requires.room c.requires.fits c.in-Err.ensures.variant.1,
      ap (λ (b : _). b.items) c.in-Err.ensures.err.1,
    )
