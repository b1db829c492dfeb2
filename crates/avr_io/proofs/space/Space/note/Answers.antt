use Rattle.std.proofs.Common.{ℕ, ◌+◌, ◌%◌, ◌^◌, ◌∷◌, take, ap, ◌∙◌}
use Rattle.part_spec.specs.Chip.{chip_of}
use Rattle.avr_io.specs.Quiet.{with_write}
use Rattle.avr_io.proofs.KeptLemmas.{kept_of}
use Rattle.avr_io.proofs.space.Space.note.Goals as goal

pub returns-clause-after : goal.returns-clause-after
returns-clause-after c =
    let s = c.self.inside in
    ap (λ b. kept_of (chip_of s.part) s.bytes s.cycles b.items ((s.total + 1) % 2 ^ 64)) c.push_front.ensures.items ∙
    ap (λ (n : ℕ). kept_of (chip_of s.part) s.bytes s.cycles (take n (c.args.write ∷ s.ring.items)) ((s.total + 1) % 2 ^ 64)) c.self.invariant.0 ∙
    ap (with_write c.args.write) c.self.view_is
