-- How often a divisor counts in n cycles, one cycle at a time.
use Rattle.std.proofs.Common.{◌≡◌, ◌≢◌, ℕ, zero, suc, ◌+◌, ◌%◌, ◌^◌, ◌<◌, Bool, true, false, ◌==◌, ◌&&◌, nat_lt, slice_index, refl, arith, eqb-true}
use Rattle.std.proofs.lemmas.Bool.{eqb-false}
use Rattle.avr_spec.specs.Bytes.{bit}
use Rattle.avr_spec.specs.Timers.{timer0, timer2}
use Rattle.avr_io.specs.Quiet.{counts_by}

-- a divisor counts in the cycle that has just been counted
abbrev pub hits : ℕ → ℕ → Bool
hits every cycles = nat_lt 0 every && (cycles % every == 0)

-- the count of cycles after one more
abbrev pub next_cycle : ℕ → ℕ
next_cycle c = (c + 1) % 2 ^ 64

-- counts in no cycle, and in the first cycle and those after it
pub record Counts (every : ℕ) : Type 0 where
  pub none : (c : ℕ) → counts_by every c 0 ≡ 0
  pub more : (c n : ℕ) → counts_by every c (suc n) ≡ bit (hits every (next_cycle c)) + counts_by every (next_cycle c) n

-- a number that is one more than another where a test holds, and equal to it where it does not
pick : (all rest m : ℕ) (t : Bool) → (m == 0) ≡ t → (m ≡ 0 → all ≡ 1 + rest) → (m ≢ 0 → all ≡ 0 + rest) → all ≡ bit t + rest
pick all rest m true e one same = one (eqb-true m 0 e)
pick all rest m false e one same = same (eqb-false m 0 e)

counts_0 : Counts 0
counts_0 = record { none = λ c. refl; more = λ c n. refl }

counts_1 : Counts 1
counts_1 = record {
  none = λ c. omega arith;
  more = λ c n. pick _ _ (next_cycle c % 1) _ refl (λ e. omega (arith, e)) (λ e. omega (arith, e));
}

counts_8 : Counts 8
counts_8 = record {
  none = λ c. omega arith;
  more = λ c n. pick _ _ (next_cycle c % 8) _ refl (λ e. omega (arith, e)) (λ e. omega (arith, e));
}

counts_32 : Counts 32
counts_32 = record {
  none = λ c. omega arith;
  more = λ c n. pick _ _ (next_cycle c % 32) _ refl (λ e. omega (arith, e)) (λ e. omega (arith, e));
}

counts_64 : Counts 64
counts_64 = record {
  none = λ c. omega arith;
  more = λ c n. pick _ _ (next_cycle c % 64) _ refl (λ e. omega (arith, e)) (λ e. omega (arith, e));
}

counts_128 : Counts 128
counts_128 = record {
  none = λ c. omega arith;
  more = λ c n. pick _ _ (next_cycle c % 128) _ refl (λ e. omega (arith, e)) (λ e. omega (arith, e));
}

counts_256 : Counts 256
counts_256 = record {
  none = λ c. omega arith;
  more = λ c n. pick _ _ (next_cycle c % 256) _ refl (λ e. omega (arith, e)) (λ e. omega (arith, e));
}

counts_1024 : Counts 1024
counts_1024 = record {
  none = λ c. omega arith;
  more = λ c n. pick _ _ (next_cycle c % 1024) _ refl (λ e. omega (arith, e)) (λ e. omega (arith, e));
}

-- what holds of each of eight numbers
eight : (P : ℕ → Type 0) → P 0 → P 1 → P 2 → P 3 → P 4 → P 5 → P 6 → P 7 → (k : ℕ) → k < 8 → P k
eight P a b c d e f g h zero fits = a
eight P a b c d e f g h (suc zero) fits = b
eight P a b c d e f g h (suc (suc zero)) fits = c
eight P a b c d e f g h (suc (suc (suc zero))) fits = d
eight P a b c d e f g h (suc (suc (suc (suc zero)))) fits = e
eight P a b c d e f g h (suc (suc (suc (suc (suc zero))))) fits = f
eight P a b c d e f g h (suc (suc (suc (suc (suc (suc zero)))))) fits = g
eight P a b c d e f g h (suc (suc (suc (suc (suc (suc (suc zero))))))) fits = h
eight P a b c d e f g h (suc (suc (suc (suc (suc (suc (suc (suc k)))))))) fits = absurd (omega (arith, fits))

pub counts-timer0 : (select : ℕ) → select < 8 → Counts (slice_index timer0.divisors select)
counts-timer0 = eight (λ k. Counts (slice_index timer0.divisors k)) counts_0 counts_1 counts_8 counts_64 counts_256 counts_1024 counts_0 counts_0

pub counts-timer2 : (select : ℕ) → select < 8 → Counts (slice_index timer2.divisors select)
counts-timer2 = eight (λ k. Counts (slice_index timer2.divisors k)) counts_0 counts_1 counts_8 counts_32 counts_64 counts_128 counts_256 counts_1024
