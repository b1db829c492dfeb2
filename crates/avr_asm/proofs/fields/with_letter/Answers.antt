use Rattle.std.proofs.Common.{◌≤◌, ◌^◌, refl, arith}
use Rattle.avr_asm.specs.Encodings.{fields_told}
use Rattle.avr_asm.proofs.Making.{made_bit, weight_small, word_small}
use Rattle.avr_asm.proofs.fields.with_letter.Goals as goal

pub overflow_add-result : goal.overflow_add-result
overflow_add-result c =
    let few : c.args.made.weight ≤ 2 ^ 15 = weight_small c.args.letter c.args.behind.now c.args.made.weight c.requires.shown c.if-letter-eq32.false
    c.requires.bits c.requires.made.weight in
    omega (arith, word_small c.bit_of.result c.args.made.weight c.args.made.word c.bit_of.ensures.small few c.requires.made.less)

pub overflow_mul-result-2 : goal.overflow_mul-result-2
overflow_mul-result-2 c =
    omega (
      arith,
      weight_small c.args.letter c.args.behind.now c.args.made.weight c.requires.shown c.if-letter-eq32.false
          c.requires.bits c.requires.made.weight,
    )

pub returns : goal.returns
returns c =
    made_bit (fields_told c.args.settings.now).field c.args.behind.now c.args.letter c.bit_of.result c.args.made _ c.requires.shown
    c.if-letter-eq32.false c.bit_of.ensures.bit c.bit_of.ensures.small c.requires.made refl refl
