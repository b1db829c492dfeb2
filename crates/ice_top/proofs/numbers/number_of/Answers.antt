use Rattle.std.proofs.Common.{◌+◌, ◌<◌, ◌≤◌, length, arith}
use Rattle.std.proofs.lemmas.List.Elements.{All-more}
use Rattle.ice_top.proofs.StopLemmas.{number_of-take-le, number_of_more}
use Rattle.ice_top.proofs.numbers.number_of.Goals as goal

pub returns-then-number-from : goal.returns-then-number-from
returns-then-number-from c =
    let text = c.args.text.now in
    let i = c.loop-byte.byte-index in
    let within : i < length text = omega arith in
    let more = number_of_more text i within in
    let less = number_of-take-le (i + 1) text in
    λ s. absurd (omega (arith, s.to_most))

pub loop-byte-preserved : goal.loop-byte-preserved
loop-byte-preserved c =
    let text = c.args.text.now in
    let i = c.loop-byte.byte-index in
    let within : i < length text = omega arith in
    let more = number_of_more text i within in
    record {
      number = omega arith;
      most = omega arith;
      digits = All-more (λ d. (48 ≤ d) × (d ≤ 57)) text i 0 within c.loop-byte.invariant.digits c.if-not-is_ascii_digit.ensures.cases;
    }
