use Rattle.std.proofs.Common.{rules}
use Rattle.part_spec.specs.Pages.{erased}
use Rattle.made_session.proofs.program.erased_words.Goals as goal

pub returns-clause-words : goal.returns-clause-words
unfolding erased
returns-clause-words c = search rules
