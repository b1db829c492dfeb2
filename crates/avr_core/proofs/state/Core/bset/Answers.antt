use Rattle.std.proofs.Common.{true, refl}
use Rattle.avr_spec.specs.Memory.{with_flag}
use Rattle.avr_core.proofs.state.Core.bset.Goals as goal

pub returns : goal.returns
returns c = λ part p h. (c.set_hold.ensures part (with_flag c.args.s true p) (c.set_flag.ensures part p h), refl)
