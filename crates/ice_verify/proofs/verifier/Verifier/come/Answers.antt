use Rattle.std.proofs.Common.{refl, sym, ◌∙◌}
use Rattle.ice_verify.proofs.Followed.{came_so, came_late, not_heard}
use Rattle.ice_verify.proofs.verifier.Verifier.come.Goals as goal

pub returns-then-used-bytes-clause-follows : goal.returns-then-used-bytes-clause-follows
returns-then-used-bytes-clause-follows c =
    came_late c.args.self.now _ _ c.args.bytes.now c.feed-used.result (sym c.listens.ensures ∙ c.if-not-listens.false) c.if-used-bytes.true
    c.feed-used.ensures.feeds

pub returns-clause-follows : goal.returns-clause-follows
returns-clause-follows c =
    came_so c.args.self.now _ c.take_waiting.new.self c.args.bytes.now c.feed-used.result c.requires.told
    (sym c.listens.ensures ∙ c.if-not-listens.false) c.if-used-bytes.false c.feed-used.ensures.feeds c.feed-used.ensures.range
    c.feed-used.ensures.counts (refl, refl) (c.requires.sound.told c.requires.told) c.take_waiting.ensures.calm c.take_waiting.ensures.takes

pub returns-then-not-listens-clause-follows : goal.returns-then-not-listens-clause-follows
returns-then-not-listens-clause-follows c = (not_heard c.args.self.now _ c.args.bytes.now (sym c.listens.ensures ∙ c.if-not-listens.true)).0
