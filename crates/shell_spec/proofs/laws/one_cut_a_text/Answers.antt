use Rattle.shell_spec.proofs.Cuttings.{one-cut}
use Rattle.shell_spec.proofs.laws.one_cut_a_text.Goals as goal

pub returns : goal.returns
returns c = one-cut
