use Rattle.asm_spec.specs.Reading.{naming}
use Rattle.asm_spec.specs.Tokens.{register_number}
use Rattle.avr_asm.specs.Meanings.{named_told}
use Rattle.avr_asm.proofs.Registers.{mapped, naming_capped}
use Rattle.avr_asm.proofs.meanings.register.Goals as goal

pub returns-in-Some : goal.returns-in-Some
returns-in-Some c =
    mapped (naming (named_told c.args.named) c.args.limit) (register_number c.args.bytes.now) c.in-Some.number _ c.in-Some.ensures c.naming.ensures
    (λ k. naming_capped c.args.named c.args.limit k c.requires)
