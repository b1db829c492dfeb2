use Rattle.std.proofs.Common.{rules, refl}
use Rattle.avr_core.proofs.state.Core.ijmp.Goals as goal

pub returns : goal.returns
returns c = λ part p h. search (rules, c.pair-z.ensures part, c.go_to.ensures part, refl)
