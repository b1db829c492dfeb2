use Rattle.std.proofs.Common.{refl}
use Rattle.flash_patch.specs.Asking.{seen}
use Rattle.made_session.proofs.Sessions.{makes}
use Rattle.made_session.proofs.session.make_session.Goals as goal

pub returns : goal.returns
returns g c = λ own there.
    makes (seen g.F.Flash.words g.F.Flash.journal g.F.Flash.faults g.F.Flash.writes) g.F.Flash.part c.args.emulator own c.args.seed c.args.count
    c.requires.few c.replay-end.result c.made_stops.result.items _ _ _ _ c.made_stops.ensures.items c.of-line.ensures c.new-tally.ensures
    (c.replay-end.ensures.replays own there) c.replay-end.new.sink.count c.replay-end.new.sink.counts _ refl refl c.restored_by.ensures
    c.summary_line.ensures
