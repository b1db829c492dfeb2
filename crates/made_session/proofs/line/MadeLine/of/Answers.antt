use Rattle.std.proofs.Common.{◌+◌, List, ℕ, ap, ◌∙◌, arith}
use Rattle.made_session.specs.Coming.{line_left}
use Rattle.made_session.proofs.Comings.{line_left-made}
use Rattle.made_session.proofs.line.MadeLine.of.Goals as goal

pub returns : goal.returns
returns c =
    let count = c.args.count + 1 in
    ap (λ (frame : List ℕ). line_left frame 0 c.args.seed 0 count) c.new.ensures ∙ line_left-made c.args.seed c.args.count count (omega arith)
