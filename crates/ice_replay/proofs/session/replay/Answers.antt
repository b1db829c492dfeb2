use Rattle.std.proofs.Common.{[], ap, arith}
use Rattle.flash_patch.specs.Asking.{seen}
use Rattle.ice_emul.specs.Launching.{rests}
use Rattle.ice_replay.proofs.Finishing.{kept_start, own_of, closed_target, finished}
use Rattle.ice_replay.proofs.session.replay.Goals as goal

pub run-end-requires-clause-placed : goal.run-end-requires-clause-placed
run-end-requires-clause-placed g c =
    let own = own_of c.args.emulator.target c.args.emulator.tool.mode c.requires.sound.here (ap rests c.requires.begun) in (
      own.0,
      [],
      kept_start (seen g.F.Flash.words g.F.Flash.journal g.F.Flash.faults g.F.Flash.writes) g.F.Flash.part c.args.emulator c.of-runner.result own.0 own.1 c.requires.begun c.requires.sound
          c.of-runner.ensures.sound c.of-runner.ensures.free (omega (arith, c.of-runner.ensures.counts.0, c.of-runner.ensures.counts.1)),
    )

pub returns-clause-replays : goal.returns-clause-replays
returns-clause-replays g c = λ own there.
    let kept = kept_start (seen g.F.Flash.words g.F.Flash.journal g.F.Flash.faults g.F.Flash.writes) g.F.Flash.part c.args.emulator c.of-runner.result own there c.requires.begun c.requires.sound
    c.of-runner.ensures.sound c.of-runner.ensures.free (omega (arith, c.of-runner.ensures.counts.0, c.of-runner.ensures.counts.1)) in
    let run = c.run-end.ensures.ends own [] kept in
    finished (seen g.F.Flash.words g.F.Flash.journal g.F.Flash.faults g.F.Flash.writes) g.F.Flash.part c.args.emulator c.run-end.new.emulator c.of-runner.result c.run-end.new.runner own c.args.stops.items
    c.of-runner.ensures.stops c.of-runner.ensures.counts.0 c.run-end.result _ _ run c.run-end.ensures.closed
    c.finish-flash.result.0 c.finish-flash.result.1
    (c.finish-flash.ensures run.takes.job (closed_target g.F.Flash.part c.run-end.new.emulator run.takes.job run.takes.kept.sound
    c.run-end.ensures.closed run.takes.kept.held))
