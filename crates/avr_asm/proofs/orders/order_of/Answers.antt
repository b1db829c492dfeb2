use Rattle.std.proofs.Common.{◌≡◌, List, ℕ, true, false, sym, ap, ◌∙◌}
use Rattle.std.specs.List.{zip}
use Rattle.std.specs.Str.{bytes_eq}
use Rattle.part_spec.specs.Chip.{chip_of}
use Rattle.avr_spec.specs.Table.{table}
use Rattle.asm_spec.specs.Forms.{forms}
use Rattle.asm_spec.specs.Tokens.{Statement}
use Rattle.asm_spec.specs.Reading.{by_form, written_out}
use Rattle.avr_asm.specs.Orders.{capped_answer}
use Rattle.avr_asm.proofs.OrderTexts.{all_capped, org_text, says_form, says_origin, says_word, test_is, word_text}
use Rattle.avr_asm.proofs.orders.order_of.Goals as goal

pub returns-then-eq : goal.returns-then-eq
returns-then-eq c = λ operands few.
    let statement : Statement = record { name = c.args.statement.now.name.now; operands = operands } in
    let word : bytes_eq word_text c.args.statement.now.name.now ≡ true =
    test_is c.as_slice.result.now word_text c.args.statement.now.name.now c.eq.result true c.eq.ensures c.as_slice.ensures c.if-eq.true in
    c.word_of.ensures operands few ∙ sym (ap capped_answer (says_word (chip_of c.args.part) statement word))

pub returns-then-eq-2 : goal.returns-then-eq-2
returns-then-eq-2 c = λ operands few.
    let statement : Statement = record { name = c.args.statement.now.name.now; operands = operands } in
    let word : bytes_eq word_text c.args.statement.now.name.now ≡ false =
    test_is c.as_slice.result.now word_text c.args.statement.now.name.now c.eq.result false c.eq.ensures c.as_slice.ensures c.if-eq.false in
    let org : bytes_eq org_text c.args.statement.now.name.now ≡ true =
    test_is c.as_slice-2.result.now org_text c.args.statement.now.name.now c.eq-2.result true c.eq-2.ensures c.as_slice-2.ensures c.if-eq-2.true in
    c.origin_of.ensures operands few ∙ sym (ap capped_answer (says_origin (chip_of c.args.part) statement word org))

pub returns : goal.returns
returns c = λ operands few.
    let statement : Statement = record { name = c.args.statement.now.name.now; operands = operands } in
    let word : bytes_eq word_text c.args.statement.now.name.now ≡ false =
    test_is c.as_slice.result.now word_text c.args.statement.now.name.now c.eq.result false c.eq.ensures c.as_slice.ensures c.if-eq.false in
    let org : bytes_eq org_text c.args.statement.now.name.now ≡ false =
    test_is c.as_slice-2.result.now org_text c.args.statement.now.name.now c.eq-2.result false c.eq-2.ensures c.as_slice-2.ensures c.if-eq-2.false in
    let out = c.written_out.ensures operands few in
    c.by_form.ensures (written_out statement).operands out.1
    ∙ ap (λ (name : List ℕ). by_form (chip_of c.args.part) (record { name = name; operands = (written_out statement).operands }) (zip table forms)) out.0
    ∙ sym (all_capped (chip_of c.args.part) (written_out statement))
    ∙ sym (ap capped_answer (says_form (chip_of c.args.part) statement word org))
