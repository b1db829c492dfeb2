use Rattle.avr_spec.proofs.VectorLemmas.{pending_is_lowest}
use Rattle.avr_spec.proofs.laws.lowest_vector_goes_first.Goals as goal

pub returns : goal.returns
returns c = pending_is_lowest
