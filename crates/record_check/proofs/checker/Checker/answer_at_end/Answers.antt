use Rattle.std.proofs.Common.{sym, subst}
use Rattle.part_spec.specs.Chip.{chip_of}
use Rattle.record_check.specs.Answers.{AnswersAtEnd}
use Rattle.record_check.specs.declared.answer.Answer.{Answer}
use Rattle.record_check.proofs.Taken.{answer_cut_off, answer_fits, answer_unclosed, none_held}
use Rattle.record_check.proofs.checker.Checker.answer_at_end.Goals as goal

pub returns-then-closed : goal.returns-then-closed
returns-then-closed c = record {
  answers = λ part prog taken h.
      answer_fits part prog taken c.args.self.now h (none_held _ c.is_empty.result c.is_empty.ensures c.if-not-is_empty.false)
      (sym (c.if-closed.ensures.closed part h.at h.stands c.requires.going.fresh));
}

pub returns : goal.returns
returns c = record {
  answers = λ part prog taken h.
      subst (λ (a : Answer). AnswersAtEnd (chip_of part) prog taken a) (sym c.fails-2.ensures)
      (answer_unclosed part prog taken c.args.self.now h (none_held _ c.is_empty.result c.is_empty.ensures c.if-not-is_empty.false)
      (sym (c.if-closed.ensures.closed part h.at h.stands c.requires.going.fresh)));
}
