use Rattle.avr_io.proofs.Blank.{blank_bytes}
use Rattle.avr_io.proofs.space.Space.restart.Goals as goal

pub invariant_of-self : goal.invariant_of-self
invariant_of-self c =
    let kept = c.self.invariant.1 in
    (c.self.invariant.0, record { shape = blank_bytes c.self.inside.cycles c.self.inside.ring.items kept.shape.cycles_fit; ring = kept.ring })
