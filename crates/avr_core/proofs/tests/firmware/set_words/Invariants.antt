use Rattle.std.proofs.Common.{◌≡◌}
use Rattle.avr_core.proofs.tests.firmware.set_words.Given as goal

-- the flash keeps its part
abbrev pub invariant-loop-page : goal.invariant-loop-page
invariant-loop-page l = l.flash.part ≡ l.fn.flash.part
