use Rattle.std.proofs.Common.{◌-◌, ◌+◌, arith}
use Rattle.std.proofs.lemmas.List.{take_rest}
use Rattle.avr_asm.proofs.Making.{bits_at}
use Rattle.avr_asm.proofs.fields.word_of.Goals as goal

pub with_letter-made-requires-clause-bits : goal.with_letter-made-requires-clause-bits
with_letter-made-requires-clause-bits c =
    bits_at c.args.letters.now _ (c.letters.start - 1) (omega arith) c.requires (take_rest c.args.letters.now (c.letters.start - 1 + 1))
