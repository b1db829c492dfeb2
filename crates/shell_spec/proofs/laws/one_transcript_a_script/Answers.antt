use Rattle.shell_spec.proofs.Texts.{one_transcript as law}
use Rattle.shell_spec.proofs.laws.one_transcript_a_script.Goals as goal

pub returns : goal.returns
returns c = law
