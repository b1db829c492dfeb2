use Rattle.std.proofs.Common.{refl, arith}
use Rattle.record_check.proofs.Taken.{byte_kept, byte_too_many}
use Rattle.record_check.proofs.checker.Checker.take_byte.Goals as goal

pub returns-then-len-eq-LINE_LIMIT-clause-takes : goal.returns-then-len-eq-LINE_LIMIT-clause-takes
returns-then-len-eq-LINE_LIMIT-clause-takes c = λ part prog taken h.
    byte_too_many part prog taken c.args.byte c.args.self.now h c.if-byte-eq10.false
    (omega (arith, c.if-len-eq-LINE_LIMIT.true, c.len.ensures.value))

pub returns-clause-takes : goal.returns-clause-takes
returns-clause-takes c = λ part prog taken h.
    byte_kept part prog taken c.args.byte c.args.self.now _ h c.if-byte-eq10.false
    (omega (arith, h.short, c.if-len-eq-LINE_LIMIT.false, c.len.ensures.value)) c.push.ensures.items refl refl
