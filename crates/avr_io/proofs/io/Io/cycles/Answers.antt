use Rattle.std.proofs.Common.{subst}
use Rattle.avr_io.specs.Keeps.{IsKeptIo}
use Rattle.avr_io.proofs.QuietTicks.{later_is_kept}
use Rattle.avr_io.proofs.io.Io.cycles.Goals as goal

pub returns-clause-kept : goal.returns-clause-kept
returns-clause-kept c =
    let s = c.self.inside in
    let ahead = c.self.invariant.ahead in
    subst IsKeptIo c.self.view_is (later_is_kept s.passed s.space ahead.kept (ahead.quiet s.passed ahead.within))
