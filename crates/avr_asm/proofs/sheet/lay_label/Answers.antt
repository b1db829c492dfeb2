use Rattle.avr_asm.proofs.Keeping.{keeps_label}
use Rattle.avr_asm.proofs.sheet.lay_label.Goals as goal
use Rattle.std.proofs.Common.{refl}

pub returns-in-Ok : goal.returns-in-Ok
returns-in-Ok c = λ part laid keeps.
    keeps_label part c.args.sheet.now laid keeps c.args.label c.in-Some.name c.in-Some.is c.contains_key.result _ c.contains_key.ensures
    c.if-contains_key.false c.in-Ok.ensures.updates refl refl refl
