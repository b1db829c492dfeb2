use Rattle.std.proofs.Common.{arith}
use Rattle.ice_text.proofs.Decimals.{length-decimal}
use Rattle.frame_listing.proofs.lines.push_count.Goals as goal

pub push_decimal-requires : goal.push_decimal-requires
push_decimal-requires c = (
  omega arith,
  omega (arith, c.requires.empty, c.requires.kind, c.push_text.ensures.size, c.push_text-2.ensures.size, length-decimal c.args.count (omega arith)),
)
