use Rattle.std.proofs.Common.{refl, arith}
use Rattle.line_spec.specs.Frames.{unchecked, bytes_of}
use Rattle.line_spec.specs.Messages.{get_sign_on}
use Rattle.line_spec.proofs.Bodies.{written_belongs}
use Rattle.line_spec.proofs.heard.frames_of_the_last_numbers.Goals as goal

pub returns-clause-event : goal.returns-clause-event
unfolding unchecked bytes_of
returns-clause-event c = (refl, refl)

pub returns-clause-before : goal.returns-clause-before
returns-clause-before c = (λ e. omega (arith, e), refl, written_belongs get_sign_on tt)
