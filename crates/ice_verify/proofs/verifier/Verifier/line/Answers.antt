use Rattle.ice_verify.proofs.Judged.{says_judged}
use Rattle.ice_verify.proofs.verifier.Verifier.line.Goals as goal

pub returns-clause-says : goal.returns-clause-says
returns-clause-says c = λ part at_ st.
    says_judged part at_ c.args.line.now c.judge-verdict.result c.judge-verdict.new.self c.is_some-self.result (c.judge-verdict.ensures.says part at_ st)
