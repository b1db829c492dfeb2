use Rattle.std.proofs.Common.{subst, arith}
use Rattle.avr_core.specs.Stands.{StandsForSome}
use Rattle.avr_core.proofs.Standing.{stands}
use Rattle.avr_core.proofs.state.stands_for_a_state.Goals as goal

pub returns : goal.returns
returns c =
    let s = c.core.inside in
    subst StandsForSome c.core.view_is
    (stands s.part s.pc s.registers s.io s.sram s.steps s.hold s.mask s.sram_end c.core.invariant c.cycles-cycles.ensures.kept (omega arith))
