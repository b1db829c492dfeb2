use Rattle.shell_spec.proofs.ScriptsAlike.{transcripts_agree as law}
use Rattle.shell_spec.proofs.laws.transcripts_agree.Goals as goal

pub returns : goal.returns
returns c = law
