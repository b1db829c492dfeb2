use Rattle.std.proofs.Common.{◌≡◌, Bool, true, false, not, ◌&&◌, if◌then◌else◌, None, sym, ap, ◌∙◌}
use Rattle.avr_spec.specs.Interrupts.{pending}
use Rattle.avr_spec.specs.Kept.{Kept}
use Rattle.avr_spec.specs.Memory.{has_flag}
use Rattle.avr_core.proofs.state.Core.due.Goals as goal
use Rattle.avr_core.proofs.state.Core.due.Goals.{else-has_flag-via-then-has_flag+else-not-is_held, else-has_flag-via-else-has_flag}

pub returns-then-not-is_held-clause-due : goal.returns-then-not-is_held-clause-due
returns-then-not-is_held-clause-due c = λ part p h.
    let flag : has_flag p 7 ≡ true = sym (c.has_flag.ensures part p h) ∙ c.if-has_flag.true in
    let held : c.is_held.result ≡ p.hold = c.is_held.ensures ∙ ap (λ (k : Kept). k.hold) h in
    let free : not p.hold ≡ true = ap not (sym held ∙ c.if-not-is_held.true) in
    c.pending.ensures.first part p.io (c.io.ensures ∙ ap (λ (k : Kept). k.io) h) ∙
    sym (ap (λ (b : Bool). if b && not p.hold then pending part p.io else None) flag ∙
    ap (λ (b : Bool). if true && b then pending part p.io else None) free)

pub returns-else-has_flag-clause-due : goal.returns-else-has_flag-clause-due
returns-else-has_flag-clause-due c = λ part p h.
    elim c.else-has_flag.branch [
      | else-has_flag-via-then-has_flag+else-not-is_held w ↦
          let flag : has_flag p 7 ≡ true = sym (c.has_flag.ensures part p h) ∙ w.if-has_flag.true in
          let held : w.is_held.result ≡ p.hold = w.is_held.ensures ∙ ap (λ (k : Kept). k.hold) h in
          let kept_back : not p.hold ≡ false = ap not (sym held ∙ w.if-not-is_held.false) in
          sym (ap (λ (b : Bool). if b && not p.hold then pending part p.io else None) flag ∙
          ap (λ (b : Bool). if true && b then pending part p.io else None) kept_back)
      | else-has_flag-via-else-has_flag w ↦
          let flag : has_flag p 7 ≡ false = sym (c.has_flag.ensures part p h) ∙ w.if-has_flag.false in
          sym (ap (λ (b : Bool). if b && not p.hold then pending part p.io else None) flag)
    ]
