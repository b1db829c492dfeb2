use Rattle.std.proofs.Common.{subst}
use Rattle.ice_verify.specs.Told.{Tells}
use Rattle.ice_verify.specs.declared.lines.Told.{Told}
use Rattle.ice_verify.proofs.Followed.{event_placed, out_placed}
use Rattle.ice_verify.proofs.verifier.Verifier.is_placed.Goals as goal

pub returns-in-Comes : goal.returns-in-Comes
returns-in-Comes c = λ line t.
    event_placed c.args.self.now.owes c.args.self.now.sent.items line _ (subst (λ (k : Told). Tells k line) c.in-Comes.is t)

pub returns-in-Waits : goal.returns-in-Waits
returns-in-Waits c = λ line t.
    event_placed c.args.self.now.owes c.args.self.now.sent.items line _ (subst (λ (k : Told). Tells k line) c.in-Waits.is t)

pub returns-in-LineEnds : goal.returns-in-LineEnds
returns-in-LineEnds c = λ line t.
    event_placed c.args.self.now.owes c.args.self.now.sent.items line _ (subst (λ (k : Told). Tells k line) c.in-LineEnds.is t)

pub returns-in-Halts : goal.returns-in-Halts
returns-in-Halts c = λ line t.
    event_placed c.args.self.now.owes c.args.self.now.sent.items line _ (subst (λ (k : Told). Tells k line) c.in-Halts.is t).2

pub returns-in-Out : goal.returns-in-Out
returns-in-Out c = λ line t.
    out_placed c.args.self.now.owes c.args.self.now.sent.items line _ (subst (λ (k : Told). Tells k line) c.in-Out.is t)
