use Rattle.std.proofs.Common.{arith, ap, length}
use Rattle.ice_text.proofs.Decimals.{length-decimal}
use Rattle.record_check.proofs.answer.answer_line.Goals as goal

pub push_decimal-requires : goal.push_decimal-requires
push_decimal-requires c = (
  omega arith,
  omega (
    arith,
    ap length c.new-line.ensures,
    c.word_of.ensures.short,
    c.push_text-in-Fails.ensures.size,
    c.push_text-in-Fails-2.ensures.size,
    length-decimal c.from.result (omega arith),
  ),
)
