use Rattle.std.proofs.Common.{ap}
use Rattle.part_spec.specs.Chip.{chip_of}
use Rattle.avr_io.proofs.Blank.{start_with_ring}
use Rattle.avr_io.proofs.space.Space.of.Goals as goal

pub invariant_of-result : goal.invariant_of-result
invariant_of-result c =
    let ring = c.in_ok-with_capacity.field-0 in
    let empty = c.in_ok-with_capacity.ensures in
    (ap (λ b. b.capacity) empty, start_with_ring (chip_of c.args.part) ring.items (ap (λ b. b.items) empty))
