use Rattle.std.proofs.Common.{ap, ◌∙◌}
use Rattle.avr_spec.specs.Interrupts.{take_flag}
use Rattle.avr_spec.specs.Kept.{Kept}
use Rattle.avr_core.proofs.Standing.{kept_as, moved_io}
use Rattle.avr_core.proofs.state.Core.take_flag.Goals as goal

pub returns-clause-cleared : goal.returns-clause-cleared
returns-clause-cleared c = λ part p h.
    let s = c.self.inside in
    let core = kept_as s.part s.pc s.registers s.io s.sram s.steps s.hold in
    let is = c.self.view_is ∙ h in
    let moved = c.take.ensures.moves part p.io (ap (λ (k : Kept). k.io) is) in
    moved_io core c.take.new.self part p (take_flag c.args.v p.io) is moved
