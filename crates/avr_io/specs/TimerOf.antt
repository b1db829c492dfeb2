-- The timers of the code as those of the book.
use Rattle.std.specs.Prelude.{ℕ, ◌<◌, Bool, ◌||◌, ◌==◌}
use Rattle.avr_spec.specs.IoSpace.{tccr0, tcnt0, ocr0, tccr2, tcnt2, ocr2}
use Rattle.avr_spec.specs.Timers.{Timer as BookTimer}
use Rattle.avr_io.specs.declared.timer.Timer.{Timer}

-- a timer, as the book has it
abbrev pub timer_of : Timer → BookTimer
timer_of t = record {
  control = t.control;
  counter = t.counter;
  compare = t.compare;
  overflow_flag = t.overflow_flag;
  compare_flag = t.compare_flag;
  divisors = t.divisors;
}

-- its addresses are I/O addresses, and its flags bits of a byte
pub record IsInIo (t : Timer) : Type 0 where
  pub control : t.control < 64
  pub counter : t.counter < 64
  pub compare : t.compare < 64
  pub overflow_flag : t.overflow_flag < 8
  pub compare_flag : t.compare_flag < 8

-- a register of a timer stands at an I/O address
abbrev pub is_timer : ℕ → Bool
is_timer a = (a == tccr0) || (a == tcnt0) || (a == ocr0) || (a == tccr2) || (a == tcnt2) || (a == ocr2)
