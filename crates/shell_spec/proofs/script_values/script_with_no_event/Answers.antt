use Rattle.std.proofs.Common.{refl}
use Rattle.shell_spec.proofs.script_values.script_with_no_event.Goals as goal

pub returns-clause-said : goal.returns-clause-said
returns-clause-said c = refl

pub returns-clause-ending : goal.returns-clause-ending
returns-clause-ending c = refl
