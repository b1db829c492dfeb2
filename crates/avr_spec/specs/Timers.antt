-- The two timers: what one cycle does. Source: ATmega16 datasheet, "8-bit Timer/Counter0 with PWM", "8-bit Timer/Counter2 with
-- PWM and Asynchronous Operation". Of the modes, clear timer on compare match is told apart; every other counts through 255.
use Rattle.std.specs.Prelude.{ℕ, suc, zero, ◌+◌, ◌%◌, ◌^◌, Bool, true, not, ◌&&◌, ◌==◌, nat_lt, if◌then◌else◌, List, [], ◌∷◌, slice_index}
use Rattle.std.specs.Prelude.{slice_set}
use Rattle.avr_spec.specs.Bytes.{has_bit, with_bit}
use Rattle.avr_spec.specs.IoSpace.{IoState, kept_byte, tifr, tccr0, tcnt0, ocr0, tccr2, tcnt2, ocr2}

-- a timer: the I/O addresses of control, counter and compare, the bits of its flags in TIFR, and its divisors by the low three
-- bits of the control byte, where 0 stands still
pub record Timer : Type 0 where
  pub control : ℕ
  pub counter : ℕ
  pub compare : ℕ
  pub overflow_flag : ℕ
  pub compare_flag : ℕ
  pub divisors : List ℕ

-- timer 0
abbrev pub timer0 : Timer
timer0 = record {
  control = tccr0;
  counter = tcnt0;
  compare = ocr0;
  overflow_flag = 0;
  compare_flag = 1;
  divisors = 0 ∷ 1 ∷ 8 ∷ 64 ∷ 256 ∷ 1024 ∷ 0 ∷ 0 ∷ [];
}

-- timer 2
abbrev pub timer2 : Timer
timer2 = record {
  control = tccr2;
  counter = tcnt2;
  compare = ocr2;
  overflow_flag = 6;
  compare_flag = 7;
  divisors = 0 ∷ 1 ∷ 8 ∷ 32 ∷ 64 ∷ 128 ∷ 256 ∷ 1024 ∷ [];
}

-- the divisor that the control byte chooses, 0 where the timer stands still
abbrev pub divisor : Timer → IoState → ℕ
divisor timer io = slice_index timer.divisors (kept_byte io timer.control % 8)

-- the timer counts in the cycle that has just been counted
abbrev pub counts_now : Timer → IoState → Bool
counts_now timer io = let every = divisor timer io in nat_lt 0 every && (io.cycles % every == 0)

-- the timer is in clear-on-compare mode: bit 3 of its control byte is 1 and bit 6 is 0
abbrev pub clears_on_compare : Timer → IoState → Bool
clears_on_compare timer io = let control = kept_byte io timer.control in has_bit control 3 && not (has_bit control 6)

-- the counter after one count
abbrev pub next_count : Timer → IoState → ℕ
next_count timer io = let count = kept_byte io timer.counter in
    if clears_on_compare timer io && (count == kept_byte io timer.compare) then 0 else (count + 1) % 256

-- TIFR after one count: overflow where the counter stood at 255, compare where its new value is the compare byte
abbrev pub next_flags : Timer → IoState → ℕ
next_flags timer io =
    let flags = kept_byte io tifr in
    let overflowed = if kept_byte io timer.counter == 255 then with_bit flags timer.overflow_flag true else flags in
    if next_count timer io == kept_byte io timer.compare then with_bit overflowed timer.compare_flag true else overflowed

-- the I/O space after one count of a timer
abbrev pub counted : Timer → IoState → IoState
counted timer io = record io {
  bytes = slice_set (slice_set io.bytes timer.counter (next_count timer io)) tifr (next_flags timer io);
}

-- the I/O space after a timer's part of a cycle
unfoldable pub clocked : Timer → IoState → IoState
clocked timer io = if counts_now timer io then counted timer io else io

-- one cycle more, modulo 2^64
abbrev pub one_cycle : IoState → IoState
one_cycle io = record io { cycles = (io.cycles + 1) % 2 ^ 64 }

-- one tick: the count of cycles rises, then each timer counts whose divisor divides it
unfoldable pub tick : IoState → IoState
tick io = clocked timer2 (clocked timer0 (one_cycle io))

-- n ticks
abbrev pub ticks : ℕ → IoState → IoState
ticks zero io = io
ticks (suc n) io = ticks n (tick io)
