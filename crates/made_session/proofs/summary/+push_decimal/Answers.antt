use Rattle.std.proofs.Common.{List, ℕ, ◌/◌, ◌%◌, ◌+◌, ◌∷◌, [], ◌++◌, sym, ap, ◌∙◌, append_assoc, length, length-append, arith}
use Rattle.std.specs.Fmt.{decimal}
use Rattle.std.proofs.lemmas.Fmt.{decimal_step, decimal_digit}
use Rattle.made_session.proofs.Decimals.{length-decimal_tenth, length-decimal_digit, length-decimal}
use Rattle.made_session.proofs.summary.+push_decimal.Goals as goal

pub push-requires : goal.push-requires
push-requires t c = (omega arith, omega (arith, c.requires, length-decimal_digit c.args.number c.if-number-lt10.true))

pub returns-then-number-lt10-clause-items : goal.returns-then-number-lt10-clause-items
returns-then-number-lt10-clause-items t c =
    c.push.ensures.items ∙ ap (λ (digits : List ℕ). c.args.line.now.items ++ digits) (sym (decimal_digit c.args.number c.if-number-lt10.true))

pub push_decimal-requires : goal.push_decimal-requires
push_decimal-requires t c = (omega arith, omega (arith, c.requires, length-decimal_tenth c.args.number c.if-number-lt10.false (omega arith)))

pub push-requires-2 : goal.push-requires-2
push-requires-2 t c =
    let tenth = length-decimal_tenth c.args.number c.if-number-lt10.false (omega arith) in
    (omega arith, omega (arith, c.requires, tenth, ap length c.push_decimal.ensures.items, length-append c.args.line.now.items (decimal (c.args.number / 10))))

pub returns-clause-items : goal.returns-clause-items
returns-clause-items t c =
    let digit : List ℕ = (48 + c.args.number % 10) ∷ [] in
    let tenth : List ℕ = decimal (c.args.number / 10) in
    c.push-2.ensures.items ∙ ap (λ (line : List ℕ). line ++ digit) c.push_decimal.ensures.items ∙ append_assoc c.args.line.now.items tenth digit
    ∙ ap (λ (digits : List ℕ). c.args.line.now.items ++ digits) (sym (decimal_step c.args.number c.if-number-lt10.false (omega arith)))

pub returns-clause-size : goal.returns-clause-size
returns-clause-size t c =
    let tenth = length-decimal_tenth c.args.number c.if-number-lt10.false (omega arith) in
    let whole = length-decimal c.args.number (omega arith) in
    omega (arith, tenth, whole, c.push-2.ensures.len, ap length c.push_decimal.ensures.items, length-append c.args.line.now.items (decimal (c.args.number / 10)))
