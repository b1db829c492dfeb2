use Rattle.std.proofs.Common.{refl}
use Rattle.line_spec.specs.Check.{checked, check}
use Rattle.line_spec.proofs.laws.check_of_nine_digits.Goals as goal

pub returns : goal.returns
unfolding checked check
returns c = refl
