use Rattle.std.proofs.Common.{sym, ◌∙◌}
use Rattle.flash_patch.specs.Asking.{seen}
use Rattle.ice_emul.proofs.TakingBytes.{taken_bytes, ignored_bytes, used_up}
use Rattle.ice_emul.proofs.emulator.Emulator.take_bytes.Goals as goal

pub returns-then-not-listens-clause-takes : goal.returns-then-not-listens-clause-takes
returns-then-not-listens-clause-takes g c = λ job held.
    ignored_bytes (seen g.F.Flash.words g.F.Flash.journal g.F.Flash.faults g.F.Flash.writes) g.F.Flash.part c.args.self.now job
    c.args.bytes.now
    c.args.out.now.items c.requires.empty held (sym c.listens.ensures ∙ c.if-not-listens.true)

pub returns-clause-takes : goal.returns-clause-takes
returns-clause-takes g c = λ job held.
    taken_bytes (seen g.F.Flash.words g.F.Flash.journal g.F.Flash.faults g.F.Flash.writes) g.F.Flash.part c.args.self.now job
    c.args.bytes.now
    c.feed-used.result c.feed-used.new.receiver held (sym c.listens.ensures ∙ c.if-not-listens.false) c.feed-used.ensures.range
    c.feed-used.ensures.feeds
    c.feed-used.new.tool c.take_waiting.result c.take_waiting.new.out.items c.take_waiting.new.self c.feed-used.ensures.counts
    c.take_waiting.ensures.takes

pub returns-clause-uses : goal.returns-clause-uses
returns-clause-uses g c = used_up c.args.self.now.receiver c.feed-used.new.receiver c.args.bytes.now c.feed-used.result c.take_waiting.new.self
    c.feed-used.ensures.feeds c.take_waiting.result c.take_waiting.ensures.off
