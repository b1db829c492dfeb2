use Rattle.std.proofs.Common.{rules, refl}
use Rattle.avr_core.proofs.state.Core.sbis.Goals as goal

pub returns : goal.returns
returns g c = λ part p h. search (rules, c.load_io.ensures part, c.skip.ensures part, refl)
