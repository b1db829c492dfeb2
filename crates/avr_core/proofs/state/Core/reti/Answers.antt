use Rattle.std.proofs.Common.{true, refl}
use Rattle.avr_spec.specs.Memory.{popped_pc, with_flag}
use Rattle.avr_core.proofs.state.Core.reti.Goals as goal

pub returns : goal.returns
returns c = λ part p h.
    let popped = popped_pc part p in
    (c.set_hold.ensures part (with_flag 7 true popped) (c.set_flag.ensures part popped (c.pop_pc.ensures part p h)), refl)
