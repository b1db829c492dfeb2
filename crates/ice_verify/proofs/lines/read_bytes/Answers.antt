use Rattle.std.proofs.Common.{◌≡◌, length, ap, ◌∙◌, arith}
use Rattle.hex.specs.Hex.{encode_lower, lower_digits}
use Rattle.hex.proofs.HexLemmas.{length-encode_with}
use Rattle.line_spec.proofs.Bytes.{IsBytes-along}
use Rattle.ice_verify.proofs.lines.read_bytes.Goals as goal

pub returns-then-digits-eq0 : goal.returns-then-digits-eq0
returns-then-digits-eq0 c = λ bytes some b e.
    absurd (omega (arith, some, c.if-digits-eq0.true, ap length e, length-encode_with lower_digits bytes))

pub returns-then-are_written : goal.returns-then-are_written
returns-then-are_written c =
    let e : c.args.digits.now ≡ encode_lower c.in-Some.bytes.items = c.are_written.ensures.written.0 c.if-are_written.true ∙ ap encode_lower c.as_slice.ensures.value in (
      omega (arith, c.if-digits-eq0.false, ap length e, length-encode_with lower_digits c.in-Some.bytes.items),
      IsBytes-along c.as_slice.result.now c.in-Some.bytes.items c.as_slice.ensures.value c.are_written.ensures.range,
      e,
    )
