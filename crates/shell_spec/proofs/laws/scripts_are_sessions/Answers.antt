use Rattle.shell_spec.proofs.Scripts.{scripts_are_sessions as law}
use Rattle.shell_spec.proofs.laws.scripts_are_sessions.Goals as goal

pub returns : goal.returns
returns c = law
