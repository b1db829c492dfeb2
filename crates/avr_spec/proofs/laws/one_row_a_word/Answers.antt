use Rattle.avr_spec.proofs.RowLemmas.{rows_exclude, each_word_decodes, first_word_tells}
use Rattle.avr_spec.proofs.FieldLemmas.{decoded_fields_fit}
use Rattle.avr_spec.proofs.laws.one_row_a_word.Goals as goal

pub returns-clause-exclude : goal.returns-clause-exclude
returns-clause-exclude c = rows_exclude

pub returns-clause-each : goal.returns-clause-each
returns-clause-each c = each_word_decodes

pub returns-clause-tells : goal.returns-clause-tells
returns-clause-tells c = first_word_tells

pub returns-clause-fields : goal.returns-clause-fields
returns-clause-fields c = decoded_fields_fit
