use Rattle.std.proofs.Common.{rules, refl}
use Rattle.avr_core.proofs.state.Core.ld_x.Goals as goal

pub returns : goal.returns
returns c = λ part p h. search (rules, c.pair-address.ensures part, c.load_to.ensures part, refl)
