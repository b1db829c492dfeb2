use Rattle.std.proofs.Common.{◌≡◌}
use Rattle.avr_spec.specs.Timers.{ticks}
use Rattle.avr_io.specs.Keeps.{Moves}
use Rattle.avr_io.proofs.space.Space.tick.Given as goal

-- so many ticks as the loop has made, on the same part
abbrev pub invariant-loop-done : goal.invariant-loop-done
invariant-loop-done l = Moves l.fn.self l.self (ticks l._done) × (l.self.part ≡ l.fn.self.part)
