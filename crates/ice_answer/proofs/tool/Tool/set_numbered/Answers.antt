use Rattle.std.proofs.Common.{ℕ, suc, ◌-◌, ◌≡◌, arith, sym, ap}
use Rattle.debug_spec.specs.Breakpoints.{set_numbered}
use Rattle.part_spec.specs.Chip.{chip_of}
use Rattle.ice_answer.proofs.Doing.{same_does}
use Rattle.ice_answer.proofs.tool.Tool.set_numbered.Goals as goal

pub returns-then-number-eq0-clause-does : goal.returns-then-number-eq0-clause-does
returns-then-number-eq0-clause-does c = λ core.
    let number : 0 ≡ c.args.number = sym c.if-number-eq0.true in
    same_does (λ part. set_numbered part c.args.frame 0 c.args.address) (λ part. set_numbered part c.args.frame c.args.number c.args.address) _ _
    (λ part before s e. ap (λ (n : ℕ). set_numbered (chip_of part) c.args.frame n c.args.address s) number)
    (c.set_soft.ensures.does core c.args.comparators.now)

pub returns-clause-does : goal.returns-clause-does
returns-clause-does c = λ core.
    let number : suc (c.from.result - 1) ≡ c.args.number = omega (arith, c.if-number-eq0.false, c.from.ensures) in
    same_does (λ part. set_numbered part c.args.frame (suc (c.from.result - 1)) c.args.address) (λ part. set_numbered part c.args.frame c.args.number c.args.address) _ _
    (λ part before s e. ap (λ (n : ℕ). set_numbered (chip_of part) c.args.frame n c.args.address s) number)
    (c.set_comparator.ensures c.args.self.now core)
