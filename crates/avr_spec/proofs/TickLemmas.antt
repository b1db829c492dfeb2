-- Ticks add up, and still timers leave everything but the cycles.
use Rattle.std.proofs.Common.{◌≡◌, ℕ, zero, suc, ◌+◌, ◌%◌, ◌^◌, ◌<◌, ◌==◌, ◌&&◌, nat_lt, cond, refl, sym, ap, ◌∙◌, arith, zero-add}
use Rattle.std.proofs.Common.{add-zero}
use Rattle.std.proofs.Math.Nat.{mod-eq_of_lt, mod-lt}
use Rattle.avr_spec.specs.IoSpace.{IoState}
use Rattle.avr_spec.specs.Timers.{Timer, timer0, timer2, divisor, counts_now, counted, clocked, one_cycle, tick, ticks}
use Rattle.avr_spec.specs.Laws.{TicksAdd, StillTimersOnlyCount}

pub tick-is : (io : IoState) → tick io ≡ clocked timer2 (clocked timer0 (one_cycle io))
unfolding tick
tick-is io = refl

pub clocked-is : (timer : Timer) (io : IoState) → clocked timer io ≡ cond (counts_now timer io) (counted timer io) io
unfolding clocked
clocked-is timer io = refl

pub ticks_add : TicksAdd
ticks_add zero m io = ap (λ k. ticks k io) (zero-add m)
ticks_add (suc n) m io =
    let more : suc n + m ≡ suc (n + m) = omega arith in
    ap (λ k. ticks k io) more ∙ ticks_add n m (tick io)

-- a timer that stands still is left as it is
pub clocked-still : (timer : Timer) (io : IoState) → divisor timer io ≡ 0 → clocked timer io ≡ io
clocked-still timer io still =
    clocked-is timer io ∙ ap (λ d. cond (nat_lt 0 d && (io.cycles % d == 0)) (counted timer io) io) still

-- with both timers still a tick counts the cycle
pub tick-still : (io : IoState) → divisor timer0 io ≡ 0 → divisor timer2 io ≡ 0 → tick io ≡ one_cycle io
tick-still io still0 still2 =
    tick-is io ∙ ap (clocked timer2) (clocked-still timer0 (one_cycle io) still0) ∙ clocked-still timer2 (one_cycle io) still2

pub ticks_still : StillTimersOnlyCount
ticks_still zero io still0 still2 fits =
    ap (λ (c : ℕ). record io { cycles = c }) (sym (mod-eq_of_lt fits) ∙ ap (λ (k : ℕ). k % 2 ^ 64) (sym (add-zero io.cycles)))
ticks_still (suc n) io still0 still2 fits =
    let fits_next : (one_cycle io).cycles < 2 ^ 64 = mod-lt (io.cycles + 1) (omega arith) in
    ap (ticks n) (tick-still io still0 still2) ∙
    ticks_still n (one_cycle io) still0 still2 fits_next ∙
    ap (λ (c : ℕ). record io { cycles = c }) (counted_on io.cycles n fits)
  where
    counted_on : (c n : ℕ) → c < 2 ^ 64 → ((c + 1) % 2 ^ 64 + n) % 2 ^ 64 ≡ (c + suc n) % 2 ^ 64
    counted_on c n h = omega arith
