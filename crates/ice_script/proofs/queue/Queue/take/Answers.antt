use Rattle.std.proofs.Common.{◌∙◌, take}
use Rattle.line_spec.proofs.Bytes.{IsBytes-along, IsBytes-right}
use Rattle.ice_script.proofs.queue.Queue.take.Goals as goal

pub invariant_of-self : goal.invariant_of-self
invariant_of-self c = (
  c.take_front-count.ensures.capacity ∙ c.self.invariant.0,
  λ full. absurd (cc),
  IsBytes-right (take c.take_front-count.result c.take_front-count.new.buf) c.take_front-count.new.bytes.items
      (IsBytes-along _ _ c.take_front-count.ensures.taken c.self.invariant.2),
)
