use Rattle.std.proofs.Common.{refl}
use Rattle.std.specs.Fmt.{digits}
use Rattle.avr_spec.specs.Text.{text}
use Rattle.avr_spec.specs.Decode.{decode}
use Rattle.avr_spec.proofs.values.texts.Goals as goal

pub returns-clause-lds : goal.returns-clause-lds
unfolding text decode digits
returns-clause-lds c = refl

pub returns-clause-ldd : goal.returns-clause-ldd
unfolding text decode digits
returns-clause-ldd c = refl

pub returns-clause-branch : goal.returns-clause-branch
unfolding text decode digits
returns-clause-branch c = refl

pub returns-clause-call : goal.returns-clause-call
unfolding text decode digits
returns-clause-call c = refl

pub returns-clause-none : goal.returns-clause-none
unfolding text decode digits
returns-clause-none c = refl
