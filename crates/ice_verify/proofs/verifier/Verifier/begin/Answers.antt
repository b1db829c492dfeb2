use Rattle.std.proofs.Common.{refl}
use Rattle.ice_verify.proofs.Begun.{begun}
use Rattle.ice_verify.proofs.verifier.Verifier.begin.Goals as goal

pub returns-clause-begins : goal.returns-clause-begins
returns-clause-begins c =
    begun c.args.part c.args.program.now c.in_ok-plan.plan _ (c.in_ok-plan.ensures.part c.args.part c.requires) c.in_ok-plan.ensures.program
    c.in_ok-plan.ensures.empty c.of-3.ensures c.in_ok-core.ensures refl c.in_ok-receiver.ensures refl refl
