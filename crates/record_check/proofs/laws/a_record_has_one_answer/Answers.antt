use Rattle.record_check.proofs.OneAnswers.{one_answer}
use Rattle.record_check.proofs.laws.a_record_has_one_answer.Goals as goal

pub returns : goal.returns
returns c = record { one = one_answer }
