use Rattle.std.proofs.Common.{rules, refl}
use Rattle.avr_core.proofs.state.Core.sp.Goals as goal

pub returns : goal.returns
returns c = λ part p h. search (rules, c.load_io.ensures part, c.load_io-2.ensures part, refl)
