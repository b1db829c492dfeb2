use Rattle.debug_spec.proofs.CleanExact.{sets_have_elements}
use Rattle.debug_spec.proofs.clean_laws.sets_have_their_addresses.Goals as goal

pub returns : goal.returns
returns c = sets_have_elements
