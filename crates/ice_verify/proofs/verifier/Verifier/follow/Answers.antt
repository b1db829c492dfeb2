use Rattle.std.proofs.Common.{◌≡◌, ℕ, List, length, sym, ap, ◌∙◌, subst, arith}
use Rattle.record_spec.specs.Lines.{Line, event, comes, halts, out, IsText}
use Rattle.record_spec.specs.Fits.{steps_in}
use Rattle.ice_answer.specs.Values.{why_of}
use Rattle.ice_verify.specs.Told.{Tells}
use Rattle.ice_verify.specs.declared.lines.Told.{Told}
use Rattle.ice_verify.proofs.Followed.{placed_event, placed_out, followed_as}
use Rattle.ice_verify.proofs.verifier.Verifier.follow.Goals as goal

pub come-requires-clause-told : goal.come-requires-clause-told
come-requires-clause-told c =
    let told = c.requires.told.1 in
    placed_event _ _ told.0 _ (subst (λ (k : Told). Tells k told.0) c.in-Comes.is told.1) (c.requires.placed told.0 told.1)

pub come-requires-clause-some : goal.come-requires-clause-some
come-requires-clause-some c =
    let told = c.requires.told.1 in
    let is = subst (λ (k : Told). Tells k told.0) c.in-Comes.is told.1 in
    let text = subst (λ (l : Line). IsText c.requires.told.0 l) is told.2 in
    omega (arith, text.0, ap length c.as_slice.ensures.value)

pub wait-requires-clause-told : goal.wait-requires-clause-told
wait-requires-clause-told c =
    let told = c.requires.told.1 in
    placed_event _ _ told.0 _ (subst (λ (k : Told). Tells k told.0) c.in-Waits.is told.1) (c.requires.placed told.0 told.1)

pub end_line-requires-clause-told : goal.end_line-requires-clause-told
end_line-requires-clause-told c =
    let told = c.requires.told.1 in
    placed_event _ _ told.0 _ (subst (λ (k : Told). Tells k told.0) c.in-LineEnds.is told.1) (c.requires.placed told.0 told.1)

pub halt-requires-clause-told : goal.halt-requires-clause-told
halt-requires-clause-told c =
    let told = c.requires.told.1 in
    placed_event _ _ told.0 _ (subst (λ (k : Told). Tells k told.0) c.in-Halts.is told.1).2 (c.requires.placed told.0 told.1)

pub tell_sent-requires-clause-owes : goal.tell_sent-requires-clause-owes
tell_sent-requires-clause-owes c =
    let told = c.requires.told.1 in
    placed_out _ _ told.0 _ (subst (λ (k : Told). Tells k told.0) c.in-Out.is told.1) (c.requires.placed told.0 told.1)

pub returns-in-Comes-clause-follows : goal.returns-in-Comes-clause-follows
returns-in-Comes-clause-follows c = λ line t.
    followed_as (event (comes c.as_slice.result.now)) line _ _ _
    (ap (λ (b : List ℕ). event (comes b)) c.as_slice.ensures.value ∙ sym (subst (λ (k : Told). Tells k line) c.in-Comes.is t)) c.come.ensures.follows

pub returns-in-Waits-clause-follows : goal.returns-in-Waits-clause-follows
returns-in-Waits-clause-follows c = λ line t.
    followed_as _ line _ _ _ (sym (subst (λ (k : Told). Tells k line) c.in-Waits.is t)) c.wait.ensures.follows

pub returns-in-LineEnds-clause-follows : goal.returns-in-LineEnds-clause-follows
returns-in-LineEnds-clause-follows c = λ line t.
    followed_as _ line _ _ _ (sym (subst (λ (k : Told). Tells k line) c.in-LineEnds.is t)) c.end_line.ensures.follows

pub returns-in-Halts-clause-follows : goal.returns-in-Halts-clause-follows
returns-in-Halts-clause-follows c = λ line t.
    let told = subst (λ (k : Told). Tells k line) c.in-Halts.is t in
    let few = c.requires.few line t in
    let all = ap steps_in told.2 in
    let same : c.in-Halts.steps ≡ told.0 = omega (arith, few, all, told.1) in
    followed_as _ line _ _ _ (ap (λ (n : ℕ). event (halts (record { steps = n; cause = why_of c.in-Halts.cause }))) same ∙ sym told.2)
    c.halt.ensures.follows

pub returns-in-Out-clause-follows : goal.returns-in-Out-clause-follows
returns-in-Out-clause-follows c = λ line t.
    followed_as (out c.as_slice-in-Out.result.now) line _ _ _
    (ap (λ (b : List ℕ). out b) c.as_slice-in-Out.ensures.value ∙ sym (subst (λ (k : Told). Tells k line) c.in-Out.is t)) c.tell_sent.ensures.follows
