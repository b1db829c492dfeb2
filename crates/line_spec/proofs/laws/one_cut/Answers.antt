use Rattle.line_spec.proofs.Cuts.{same_cut}
use Rattle.line_spec.proofs.laws.one_cut.Goals as goal

pub returns : goal.returns
returns c = λ bytes items others rest other_rest. same_cut bytes rest other_rest items others
