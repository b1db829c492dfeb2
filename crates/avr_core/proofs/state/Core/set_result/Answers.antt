use Rattle.avr_spec.specs.Memory.{with_reg}
use Rattle.avr_core.proofs.state.Core.set_result.Goals as goal

pub returns : goal.returns
returns c = λ part p h. c.set_sreg.ensures part (with_reg c.args.d c.args.after.0 p) (c.set_reg.ensures part p h)
