use Rattle.std.proofs.Common.{◌≤◌, ℕ, ◌+◌, ap, subst, ◌∙◌}
use Rattle.avr_io.specs.Quiet.{later}
use Rattle.avr_io.proofs.Later.{later-ticks}
use Rattle.avr_io.proofs.io.Io.tick.Goals as goal

pub returns-then-passed-self-clause-moves : goal.returns-then-passed-self-clause-moves
returns-then-passed-self-clause-moves c = λ part io h.
    let s = c.self.inside in
    let ahead = c.self.invariant.ahead in
    let n = c.args.n in
    let within : s.passed + n ≤ s.limit = subst (λ (m : ℕ). s.passed + m ≤ s.limit) c.from.ensures c.if-passed-self.true in
    ap (λ (m : ℕ). later (s.passed + m) s.space) c.from.ensures ∙
    later-ticks part s.passed n s.space io ahead.kept (ahead.quiet s.passed ahead.within) (ahead.quiet (s.passed + n) within) (c.self.view_is ∙ h)
