use Rattle.std.proofs.Common.{◌∙◌, sym, ap}
use Rattle.ice_conform.proofs.tests.call.run_from.Goals as goal

pub ice2-ended-requires : goal.ice2-ended-requires
ice2-ended-requires c = record {
  part = λ form said says. c.part_of-part.ensures.said form said says ∙ sym (ap (λ flash. flash.part) c.in_ok-flash.ensures);
}
