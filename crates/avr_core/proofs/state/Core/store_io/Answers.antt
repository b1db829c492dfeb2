use Rattle.std.proofs.Common.{ap, ◌∙◌}
use Rattle.avr_spec.specs.IoSpace.{store_io}
use Rattle.avr_spec.specs.Kept.{Kept}
use Rattle.avr_core.proofs.Standing.{kept_as, moved_io}
use Rattle.avr_core.proofs.state.Core.store_io.Goals as goal

pub returns : goal.returns
returns c = λ part p h.
    let s = c.self.inside in
    let core = kept_as s.part s.pc s.registers s.io s.sram s.steps s.hold in
    let is = c.self.view_is ∙ h in
    let moved = c.store.ensures.moves part p.io (ap (λ (k : Kept). k.io) is) in
    moved_io core c.store.new.self part p (store_io c.args.a c.args.byte p.io) is moved
