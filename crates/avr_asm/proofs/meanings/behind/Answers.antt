use Rattle.avr_asm.proofs.Registers.{behind_none, behind_some}
use Rattle.avr_asm.proofs.meanings.behind.Goals as goal

pub returns-then-number-eq0 : goal.returns-then-number-eq0
returns-then-number-eq0 c = behind_none c.args.values c.args.number c.if-number-eq0.true

pub returns : goal.returns
returns c = behind_some c.args.values c.args.number c.if-number-eq0.false c.if-number-values.false
