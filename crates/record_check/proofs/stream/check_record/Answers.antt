use Rattle.std.proofs.Common.{refl}
use Rattle.record_check.proofs.Reading.{checked_so}
use Rattle.record_check.proofs.stream.check_record.Goals as goal

pub returns-in-Answered-clause-checked : goal.returns-in-Answered-clause-checked
returns-in-Answered-clause-checked g c = λ part prog stands.
    let found = c.in-Answered.ensures.found part prog (c.of.ensures.taken part prog stands) in
    checked_so c.put_answer.result c.in-Answered.answer _ prog _ _ found.0 found.1 c.put_answer.ensures.puts

pub returns-in-Read-clause-checked : goal.returns-in-Read-clause-checked
returns-in-Read-clause-checked g c = λ part prog stands.
    let found = c.in-Read.ensures.found part prog (c.of.ensures.taken part prog stands) in (found.0, found.1, (refl, refl))

pub returns-in-TooLong-clause-checked : goal.returns-in-TooLong-clause-checked
returns-in-TooLong-clause-checked g c = λ part prog stands.
    let found = c.in-TooLong.ensures.found part prog (c.of.ensures.taken part prog stands) in (found.0, found.1, (refl, refl))
