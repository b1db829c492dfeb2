use Rattle.std.proofs.Common.{subst}
use Rattle.part_spec.specs.Chip.{chip_of}
use Rattle.flash_patch.specs.Asking.{seen}
use Rattle.debug_shell.specs.Endings.{scene}
use Rattle.ice_script.specs.Leaving.{LeavesBehind}
use Rattle.ice_script.specs.Wires.{WireState}
use Rattle.ice_script.proofs.Finishing.{finished}
use Rattle.ice_script.proofs.Running.{ran_by}
use Rattle.ice_script.proofs.session.run_session.Goals as goal

pub returns-clause-scripts : goal.returns-clause-scripts
returns-clause-scripts g c = λ stops own fresh there.
    finished (seen g.F.Flash.words g.F.Flash.journal g.F.Flash.faults g.F.Flash.writes) g.F.Flash.part stops c.args.host
    c.run_script-end.new.host own fresh there c.run_script-end.result _ _
    (ran_by (seen g.F.Flash.words g.F.Flash.journal g.F.Flash.faults g.F.Flash.writes) g.F.Flash.part
    (chip_of c.args.host.standing.link.side.emulator.tool.plan.part) stops
    (scene c.args.host (g.S.Source.left c.args.source.now) (g.S.Source.faults c.args.source.now) (g.K.Sink.written c.args.sink.now)
    (g.K.Sink.faults c.args.sink.now))
    (scene c.run_script-end.new.host (g.S.Source.left c.run_script-end.new.source) (g.S.Source.faults c.run_script-end.new.source)
    (g.K.Sink.written c.run_script-end.new.sink) (g.K.Sink.faults c.run_script-end.new.sink)) c.run_script-end.result
    c.run_script-end.ensures.ends) c.finish-signed.result
    (subst (λ (w : WireState g.row.F.Denot). LeavesBehind (seen g.F.Flash.words g.F.Flash.journal g.F.Flash.faults g.F.Flash.writes)
    g.F.Flash.part w c.finish-signed.result) c.finish.ensures c.finish-signed.ensures.leaves)
