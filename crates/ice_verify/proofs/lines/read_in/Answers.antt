use Rattle.std.proofs.Common.{length, ap, arith}
use Rattle.hex.specs.Hex.{lower_digits}
use Rattle.hex.proofs.HexLemmas.{length-encode_with}
use Rattle.ice_verify.proofs.Texts.{in_none, not_dash}
use Rattle.ice_verify.proofs.lines.read_in.Goals as goal

pub returns-then-len-gt-IN_LIMIT : goal.returns-then-len-gt-IN_LIMIT
returns-then-len-gt-IN_LIMIT c = λ line h.
    in_none c.args.text.now (not_dash c.args.text.now _ _ c.as_slice.ensures c.eq.ensures c.if-eq.false)
    (λ bytes some few b e.
    absurd (omega (
      arith,
      few,
      c.if-len-gt-IN_LIMIT.true,
      c.len.ensures.value,
      ap length e,
      length-encode_with lower_digits bytes,
      ap length c.in-Some.ensures.2,
      length-encode_with lower_digits c.in-Some.bytes.items,
    )))
    line h
