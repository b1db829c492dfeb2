use Rattle.std.proofs.Common.{◌≡◌, ◌<◌, ◌+◌, List, ℕ, length, sym, ap, ◌∙◌, arith}
use Rattle.std.proofs.lemmas.List.{take_rest}
use Rattle.part_spec.specs.Chip.{chip_of}
use Rattle.asm_spec.specs.Tokens.{trimmed}
use Rattle.asm_spec.specs.Reading.{order_in}
use Rattle.avr_asm.specs.Orders.{answer_told, capped_answer}
use Rattle.avr_asm.proofs.Colons.{never_name, no_label, reading_is, with_label}
use Rattle.avr_asm.proofs.Fronts.{front_is, front_of}
use Rattle.avr_asm.proofs.readings.read_line.Goals as goal

pub returns-then-colon-said : goal.returns-then-colon-said
returns-then-colon-said c =
    let end : c.before-colon.result ≡ front_of 0x3a c.without_comment-said.result.now =
    front_is 0x3a c.before-colon.result c.without_comment-said.result.now c.before-colon.ensures.end in
    c.labelled.ensures
    ∙ no_label (chip_of c.args.part) c.without_comment-said.result.now c.before-colon.result end (answer_told c.order_in.result) (omega arith)
    (c.order_in.ensures ∙ ap (λ (l : List ℕ). capped_answer (order_in (chip_of c.args.part) l)) c.trimmed.ensures)
    ∙ reading_is (chip_of c.args.part) c.args.line.now c.without_comment-said.result.now c.without_comment-said.ensures

pub returns-then-not-is_name : goal.returns-then-not-is_name
returns-then-not-is_name c =
    let end : c.before-colon.result ≡ front_of 0x3a c.without_comment-said.result.now =
    front_is 0x3a c.before-colon.result c.without_comment-said.result.now c.before-colon.ensures.end in
    let inside : c.before-colon.result < length c.without_comment-said.result.now = omega (arith, c.before-colon.ensures.within, c.if-colon-said.false) in
    never_name (chip_of c.args.part) c.without_comment-said.result.now c.before-colon.result end c.behind_blanks-name.result.now inside
    c.behind_blanks-name.ensures (sym c.is_name.ensures ∙ c.if-not-is_name.true)
    ∙ reading_is (chip_of c.args.part) c.args.line.now c.without_comment-said.result.now c.without_comment-said.ensures

pub returns : goal.returns
returns c =
    let end : c.before-colon.result ≡ front_of 0x3a c.without_comment-said.result.now =
    front_is 0x3a c.before-colon.result c.without_comment-said.result.now c.before-colon.ensures.end in
    let inside : c.before-colon.result < length c.without_comment-said.result.now = omega (arith, c.before-colon.ensures.within, c.if-colon-said.false) in
    c.labelled-2.ensures
    ∙ with_label (chip_of c.args.part) c.without_comment-said.result.now c.before-colon.result end c.behind_blanks-name.result.now
    (answer_told c.order_in-2.result) inside c.behind_blanks-name.ensures (sym c.is_name.ensures ∙ c.if-not-is_name.false)
    (c.order_in-2.ensures ∙ ap (λ (l : List ℕ). capped_answer (order_in (chip_of c.args.part) l))
    (c.trimmed-2.ensures ∙ ap trimmed (take_rest c.without_comment-said.result.now (c.before-colon.result + 1))))
    ∙ reading_is (chip_of c.args.part) c.args.line.now c.without_comment-said.result.now c.without_comment-said.ensures
