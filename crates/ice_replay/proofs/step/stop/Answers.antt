use Rattle.std.proofs.Common.{false, refl}
use Rattle.ice_emul.specs.Standing.{held}
use Rattle.ice_replay.proofs.step.stop.Goals as goal

pub returns-clause-receiver : goal.returns-clause-receiver
returns-clause-receiver g c = c.settle.ensures.receiver

pub returns-clause-settles : goal.returns-clause-settles
returns-clause-settles g c = λ job pend is waits.
    c.settle.ensures.settles job _ false pend is (λ done given.
    waits.comes done (c.raise_stop.ensures.ends done given) (held c.args.emulator.now job) (record { job = refl; plan = refl; run_to = refl }))
