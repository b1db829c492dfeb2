use Rattle.line_spec.proofs.Cuts.{IsCut-more}
use Rattle.line_spec.proofs.laws.a_cut_goes_on.Goals as goal

pub returns : goal.returns
returns c = λ bytes more rest end items others first then_on. IsCut-more bytes more rest end items others first then_on
