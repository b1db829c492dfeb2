use Rattle.std.proofs.Common.{[], sym, ◌∙◌, subst, Bool}
use Rattle.ice_recv.specs.Receiving.{Tells}
use Rattle.ice_verify.proofs.Followed.{waited_so, none_waited, not_heard}
use Rattle.ice_verify.proofs.verifier.Verifier.wait.Goals as goal

pub returns-then-not-waits-clause-follows : goal.returns-then-not-waits-clause-follows
returns-then-not-waits-clause-follows c =
    none_waited c.args.self.now _ (sym c.listens.ensures ∙ c.if-not-listens.false)
    (subst (λ (b : Bool). Tells b c.args.self.now.receiver.held) c.if-not-waits.true c.waits.ensures)

pub returns-clause-follows : goal.returns-clause-follows
returns-clause-follows c =
    waited_so c.args.self.now c.take_waiting.new.self c.requires.told (sym c.listens.ensures ∙ c.if-not-listens.false)
    (c.requires.sound.told c.requires.told)
    (subst (λ (b : Bool). Tells b c.args.self.now.receiver.held) c.if-not-waits.false c.waits.ensures) c.take_waiting.ensures.calm
    c.take_waiting.ensures.takes

pub returns-then-not-listens-clause-follows : goal.returns-then-not-listens-clause-follows
returns-then-not-listens-clause-follows c = (not_heard c.args.self.now _ [] (sym c.listens.ensures ∙ c.if-not-listens.true)).1
