use Rattle.std.proofs.Common.{length, ap, sym, ◌∙◌, arith, length-append}
use Rattle.line_spec.proofs.Bytes.{IsBytes-along, IsBytes-append}
use Rattle.ice_script.proofs.queue.QueueSink.put.Goals as goal

pub invariant_of-self : goal.invariant_of-self
invariant_of-self c = (
  c.append.ensures.capacity ∙ c.self.invariant.0,
  λ full. omega (
    arith,
    c.self.invariant.1 full,
    ap length (c.append.ensures.all c.if-append.true),
    length-append c.self.inside.bytes.items c.args.piece.now,
  ),
  IsBytes-along _ _ (sym (c.append.ensures.all c.if-append.true))
      (IsBytes-append c.self.inside.bytes.items c.args.piece.now c.self.invariant.2 c.append.ensures.valid),
)
