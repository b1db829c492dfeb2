use Rattle.debug_spec.proofs.HeadlineLemmas.{reads_show_program}
use Rattle.debug_spec.proofs.StepAlike.{stops_have_reasons}
use Rattle.debug_spec.proofs.laws.the_program_is_shown.Goals as goal

pub returns-clause-reads : goal.returns-clause-reads
returns-clause-reads c = reads_show_program

pub returns-clause-stops : goal.returns-clause-stops
returns-clause-stops c = stops_have_reasons
