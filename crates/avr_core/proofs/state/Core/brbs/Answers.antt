use Rattle.std.proofs.Common.{rules, refl}
use Rattle.avr_core.proofs.state.Core.brbs.Goals as goal

pub returns : goal.returns
returns c = λ part p h. search (rules, c.has_flag-taken.ensures part, c.branch-self.ensures part, refl)
