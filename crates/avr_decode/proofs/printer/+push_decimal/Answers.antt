use Rattle.std.proofs.Common.{[], ◌∷◌, ◌++◌, length, decimal, ℕ, ◌/◌, ◌%◌, List, ap, ◌∙◌, arith, append_assoc}
use Rattle.std.proofs.Math.ListN.{length-append}
use Rattle.avr_spec.specs.Text.{hex_digit}
use Rattle.avr_decode.proofs.Decimals.{one_digit, more_digits}
use Rattle.avr_decode.proofs.printer.+push_decimal.Goals as goal

pub push_digit-requires-clause-room : goal.push_digit-requires-clause-room
push_digit-requires-clause-room t c = omega (arith, ap length (one_digit c.args.n (omega arith)))

pub returns-then-n-lt10 : goal.returns-then-n-lt10
returns-then-n-lt10 t c =
    c.push_digit.ensures ∙ ap (λ (ds : List ℕ). c.args.out.now.bytes ++ ds) (one_digit c.args.n (omega arith))

pub push_decimal-requires : goal.push_decimal-requires
push_decimal-requires t c =
    let more = more_digits c.args.n (omega arith) (omega arith) in
    (omega arith, omega (arith, ap length more, length-append (decimal (c.args.n / 10)) (hex_digit (c.args.n % 10) ∷ [])))

pub push_digit-requires-2-clause-room : goal.push_digit-requires-2-clause-room
push_digit-requires-2-clause-room t c =
    let more = more_digits c.args.n (omega arith) (omega arith) in
    omega (
      arith,
      ap length more,
      length-append (decimal (c.args.n / 10)) (hex_digit (c.args.n % 10) ∷ []),
      ap length c.push_decimal.ensures,
      length-append c.args.out.now.bytes (decimal (c.args.n / 10)),
    )

pub returns : goal.returns
returns t c =
    let more = more_digits c.args.n (omega arith) (omega arith) in
    c.push_digit-2.ensures ∙
    ap (λ (ds : List ℕ). ds ++ (hex_digit (c.args.n % 10) ∷ [])) c.push_decimal.ensures ∙
    append_assoc c.args.out.now.bytes (decimal (c.args.n / 10)) (hex_digit (c.args.n % 10) ∷ []) ∙
    ap (λ (ds : List ℕ). c.args.out.now.bytes ++ ds) more
