use Rattle.std.proofs.Common.{refl}
use Rattle.line_spec.specs.Check.{checked, check}
use Rattle.line_spec.specs.Frames.{unchecked, bytes_of}
use Rattle.line_spec.proofs.laws.bytes_of_the_sign_on_frame.Goals as goal

pub returns : goal.returns
unfolding checked check unchecked bytes_of
returns c = refl
