use Rattle.line_spec.proofs.Bodies.{written_belongs}
use Rattle.line_spec.proofs.laws.a_written_command_belongs.Goals as goal

pub returns : goal.returns
returns c = written_belongs
