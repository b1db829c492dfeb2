use Rattle.std.proofs.Common.{refl}
use Rattle.ice_top.proofs.Shells.{RunsShell-of, OpensShell-ran}
use Rattle.ice_top.proofs.connect.open.Goals as goal

pub returns-in-Ok-clause-opens : goal.returns-in-Ok-clause-opens
returns-in-Ok-clause-opens g c =
    OpensShell-ran _ _ _ _ _ _ c.run_script-end.result c.status_behind.ensures
    (RunsShell-of _ _ _ _ _ _ c.in-Ok.host c.run_script-end.new.host c.in-Ok.ensures.ok c.run_script-end.ensures.ends c.finish.ensures)
    (refl, refl)
