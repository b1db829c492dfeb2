use Rattle.avr_spec.proofs.RingLemmas.{kept_is_ring, ring_has_outputs}
use Rattle.avr_spec.proofs.laws.kept_is_never_empty.Goals as goal

pub returns-clause-kept : goal.returns-clause-kept
returns-clause-kept c = kept_is_ring

pub returns-clause-behind : goal.returns-clause-behind
returns-clause-behind c = ring_has_outputs
