use Rattle.shell_spec.proofs.Cuttings.{every-cut}
use Rattle.shell_spec.proofs.laws.every_text_has_a_cut.Goals as goal

pub returns : goal.returns
returns c = every-cut
