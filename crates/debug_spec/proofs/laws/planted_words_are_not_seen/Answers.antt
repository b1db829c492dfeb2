use Rattle.debug_spec.proofs.StepAlike.{due_steps_alike, clean_steps_alike, stops_agree, planted_words_stop}
use Rattle.debug_spec.proofs.laws.planted_words_are_not_seen.Goals as goal

pub returns-clause-due : goal.returns-clause-due
returns-clause-due c = due_steps_alike

pub returns-clause-clean : goal.returns-clause-clean
returns-clause-clean c = clean_steps_alike

pub returns-clause-stops : goal.returns-clause-stops
returns-clause-stops c = stops_agree

pub returns-clause-words : goal.returns-clause-words
returns-clause-words c = planted_words_stop
