use Rattle.std.proofs.Common.{sym, ◌∙◌}
use Rattle.avr_asm.specs.Meanings.{named_told}
use Rattle.avr_asm.proofs.Registers.{named_once, naming_none, naming_one}
use Rattle.avr_asm.proofs.meanings.naming.Goals as goal

pub returns-in-Some : goal.returns-in-Some
returns-in-Some c =
    c.limited.ensures
    ∙ sym (naming_one (named_told c.args.named) c.args.number c.args.limit c.in-Some.value c.in-Some.ensures
    (λ j same. named_once c.args.named j c.in-Some.value (same ∙ sym c.in-Some.ensures)))

pub returns-in-None : goal.returns-in-None
returns-in-None c = sym (naming_none (named_told c.args.named) c.args.number c.args.limit (λ j inside same. c.in-None.ensures j same))
