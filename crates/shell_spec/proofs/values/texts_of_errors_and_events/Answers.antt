use Rattle.std.proofs.Common.{refl}
use Rattle.std.specs.Fmt.{digits}
use Rattle.hex.specs.Hex.{encode_with}
use Rattle.shell_spec.proofs.values.texts_of_errors_and_events.Goals as goal

pub returns-clause-errors : goal.returns-clause-errors
unfolding digits
returns-clause-errors c = refl

pub returns-clause-events : goal.returns-clause-events
unfolding encode_with
returns-clause-events c = refl
