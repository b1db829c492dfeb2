use Rattle.std.proofs.Common.{◌≡◌}
use Rattle.avr_core.proofs.tests.firmware.run.Given as goal

-- the core keeps its part
abbrev pub invariant-loop-step : goal.invariant-loop-step
invariant-loop-step l = l.core.part ≡ l.fn.core.part
