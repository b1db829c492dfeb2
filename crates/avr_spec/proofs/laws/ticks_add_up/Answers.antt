use Rattle.avr_spec.proofs.TickLemmas.{ticks_add, ticks_still}
use Rattle.avr_spec.proofs.laws.ticks_add_up.Goals as goal

pub returns-clause-add : goal.returns-clause-add
returns-clause-add c = ticks_add

pub returns-clause-still : goal.returns-clause-still
returns-clause-still c = ticks_still
