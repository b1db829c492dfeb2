-- One tick after n is n + 1 ticks.
use Rattle.std.proofs.Common.{◌≡◌, ℕ, zero, suc, ◌+◌, refl, ap, ◌∙◌, arith}
use Rattle.avr_spec.specs.IoSpace.{IoState}
use Rattle.avr_spec.specs.Timers.{tick, ticks}

tick-suc : (n : ℕ) (io : IoState) → tick (ticks n io) ≡ ticks (suc n) io
tick-suc zero io = refl
tick-suc (suc n) io = tick-suc n (tick io)

pub tick-after : (n : ℕ) (io : IoState) → tick (ticks n io) ≡ ticks (n + 1) io
tick-after n io = let e : suc n ≡ n + 1 = omega arith in tick-suc n io ∙ ap (λ k. ticks k io) e
