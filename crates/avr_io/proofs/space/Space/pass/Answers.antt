use Rattle.std.proofs.Common.{arith, ◌+◌, ◌%◌, ◌^◌}
use Rattle.std.proofs.Math.Nat.{mod-lt}
use Rattle.part_spec.specs.Chip.{chip_of}
use Rattle.avr_io.proofs.KeptLemmas.{kept_of}
use Rattle.avr_io.proofs.QuietTicks.{put_twice_is_kept}
use Rattle.avr_io.proofs.space.Space.pass.Goals as goal

pub invariant_of-self : goal.invariant_of-self
invariant_of-self c =
    let s = c.self.inside in (
      c.self.invariant.0,
      put_twice_is_kept (kept_of (chip_of s.part) s.bytes s.cycles s.ring.items s.total) c.from.result c.from-2.result
          c.count_after-count0.result c.count_after-count2.result ((s.cycles + c.args.n) % 2 ^ 64) c.self.invariant.1
          (omega (arith, c.count_after-count0.type_inv)) (omega (arith, c.count_after-count2.type_inv)) (mod-lt _ (omega arith)),
    )
