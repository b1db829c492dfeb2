use Rattle.std.proofs.Common.{ap, ◌∙◌, false}
use Rattle.avr_spec.specs.Machine.{restarted_io}
use Rattle.avr_spec.specs.Kept.{Kept}
use Rattle.avr_core.proofs.Standing.{kept_as, moved_io}
use Rattle.avr_core.proofs.state.Core.restart.Goals as goal

pub returns-clause-moves : goal.returns-clause-moves
returns-clause-moves c = λ part p h.
    let s = c.self.inside in
    let core = kept_as s.part s.pc s.registers s.io s.sram s.steps s.hold in
    let is = c.self.view_is ∙ h in
    let moved = c.restart.ensures.moves part p.io (ap (λ (k : Kept). k.io) is) in
    ap (λ (k : Kept). record k { pc = 0; hold = false }) (moved_io core c.restart.new.self part p (restarted_io p.io) is moved)
