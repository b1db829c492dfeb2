use Rattle.std.proofs.Common.{ap}
use Rattle.avr_spec.specs.Kept.{Kept}
use Rattle.avr_core.proofs.state.Core.set_data_at.Goals as goal

pub returns-clause-part : goal.returns-clause-part
returns-clause-part c =
    let some = c.stands_for_a_state.ensures in ap (λ (k : Kept). k.part) (c.put_data.ensures c.args.self.now.part some.state some.is)
