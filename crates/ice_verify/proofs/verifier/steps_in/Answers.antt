use Rattle.std.proofs.Common.{sym, ap, ◌∙◌, subst}
use Rattle.record_spec.specs.Lines.{Line}
use Rattle.record_spec.specs.Fits.{steps_in}
use Rattle.ice_verify.specs.Told.{Tells, counted}
use Rattle.ice_verify.specs.declared.lines.Told.{Told}
use Rattle.ice_verify.proofs.verifier.steps_in.Goals as goal

pub returns-in-Comes : goal.returns-in-Comes
returns-in-Comes c = record { steps = λ line t. ap (λ (l : Line). counted (steps_in l)) (sym (subst (λ (k : Told). Tells k line) c.in-Comes.is t)) }

pub returns-in-Waits : goal.returns-in-Waits
returns-in-Waits c = record { steps = λ line t. ap (λ (l : Line). counted (steps_in l)) (sym (subst (λ (k : Told). Tells k line) c.in-Waits.is t)) }

pub returns-in-LineEnds : goal.returns-in-LineEnds
returns-in-LineEnds c = record { steps = λ line t. ap (λ (l : Line). counted (steps_in l)) (sym (subst (λ (k : Told). Tells k line) c.in-LineEnds.is t)) }

pub returns-in-Halts : goal.returns-in-Halts
returns-in-Halts c = record {
  steps = λ line t.
      let told = subst (λ (k : Told). Tells k line) c.in-Halts.is t in told.1 ∙ ap (λ (l : Line). counted (steps_in l)) (sym told.2);
}

pub returns-in-Out : goal.returns-in-Out
returns-in-Out c = record { steps = λ line t. ap (λ (l : Line). counted (steps_in l)) (sym (subst (λ (k : Told). Tells k line) c.in-Out.is t)) }
