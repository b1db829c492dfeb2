use Rattle.std.proofs.Common.{refl}
use Rattle.std.specs.Fmt.{digits}
use Rattle.hex.specs.Hex.{encode_with}
use Rattle.line_spec.specs.Check.{check, checked}
use Rattle.shell_spec.proofs.generator_values.generated_summaries.Goals as goal

pub returns-clause-none : goal.returns-clause-none
unfolding digits encode_with check checked
returns-clause-none c device = refl

pub returns-clause-one : goal.returns-clause-one
unfolding digits encode_with check checked
returns-clause-one c device = refl
