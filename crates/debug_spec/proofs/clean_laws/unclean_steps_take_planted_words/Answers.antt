use Rattle.debug_spec.proofs.CleanExact.{unclean_steps_take_planted}
use Rattle.debug_spec.proofs.clean_laws.unclean_steps_take_planted_words.Goals as goal

pub returns : goal.returns
returns c = unclean_steps_take_planted
