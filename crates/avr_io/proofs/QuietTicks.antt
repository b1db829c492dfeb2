-- Ticks in which both timers are quiet raise the counters, and leave every other byte.
use Rattle.std.proofs.Common.{◌≡◌, ◌≢◌, ℕ, zero, suc, ◌+◌, ◌%◌, ◌^◌, ◌<◌, ◌≤◌, Bool, true, false, ◌==◌, ◌&&◌, cond, if◌then◌else◌, length, slice_index, slice_set, IsTrue, refl, sym, ap, subst, ◌∙◌, arith, tests, set-set, get_or-set_same, get_or-set_other, length-set, add-zero}
use Rattle.std.proofs.lemmas.List.{set_comm, set-get_or}
use Rattle.std.proofs.lemmas.List.Elements.{All-set}
use Rattle.std.proofs.lemmas.Bool.{ne_eqb}
use Rattle.std.proofs.Math.Nat.{mod-eq_of_lt, mod-lt}
use Rattle.avr_spec.specs.Bytes.{bit, with_bit}
use Rattle.avr_spec.specs.IoSpace.{IoState, kept_byte, tifr, tccr0, tcnt0, ocr0, tccr2, tcnt2, ocr2}
use Rattle.avr_spec.specs.Timers.{Timer, timer0, timer2, divisor, clears_on_compare, next_count, next_flags, counted, clocked, tick, ticks}
use Rattle.avr_spec.specs.Machine.{IsByte, IsShapedIo}
use Rattle.avr_spec.specs.Kept.{KeptIo}
use Rattle.avr_spec.proofs.TickLemmas.{tick-is, clocked-is}
use Rattle.avr_spec.proofs.ShapeLemmas.{kept_byte-below}
use Rattle.avr_io.specs.Keeps.{io_of, IsKeptIo}
use Rattle.avr_io.specs.Quiet.{counts_by, stays_below, is_quiet_for, IsQuietFor, count_after, later}
use Rattle.avr_io.proofs.Counts.{hits, next_cycle, Counts, counts-timer0, counts-timer2}

-- the I/O space with these counters and cycles
abbrev at_counts : IoState → ℕ → ℕ → ℕ → IoState
at_counts io x y c = record io { bytes = slice_set (slice_set io.bytes tcnt0 x) tcnt2 y; cycles = c }

-- a counter may rise so often with no event
record MayRise (count compare counts : ℕ) : Type 0 where
  fits : 0 < counts → count + counts < 256
  below : 0 < counts → count ≤ compare → count + counts < compare

may-rise : (count compare counts : ℕ) → compare < 256 → stays_below count compare counts ≡ true → MayRise count compare counts
may-rise count compare counts byte quiet = record { fits = λ some. grind (arith, tests); below = λ some low. grind (arith, tests) }

-- the first of the counts, and those after it
rise-first : (count compare more : ℕ) (t : Bool) → MayRise count compare (bit t + more) → MayRise count compare (bit t)
rise-first count compare more true r = record {
  fits = λ _. omega (arith, r.fits (omega arith));
  below = λ _ low. omega (arith, r.below (omega arith) low);
}
rise-first count compare more false r = record { fits = λ some. absurd (omega (arith, some)); below = λ some _. absurd (omega (arith, some)) }

rise-rest : (count compare more : ℕ) (t : Bool) → MayRise count compare (bit t + more) → MayRise (count + bit t) compare more
rise-rest count compare more true r = record {
  fits = λ _. omega (arith, r.fits (omega arith));
  below = λ _ low. omega (arith, r.below (omega arith) (omega (arith, low)));
}
rise-rest count compare more false r = record {
  fits = λ some. omega (arith, r.fits (omega (arith, some)));
  below = λ some low. omega (arith, r.below (omega (arith, some)) (omega (arith, low)));
}

no_clear : (t : Bool) (x y : ℕ) → (if t && false then x else y) ≡ y
no_clear true x y = refl
no_clear false x y = refl

-- one count that does nothing but raise the counter
counted-quiet : (timer : Timer) (s : IoState) → tifr ≢ timer.counter → MayRise (kept_byte s timer.counter) (kept_byte s timer.compare) 1 →
    counted timer s ≡ record s { bytes = slice_set s.bytes timer.counter (kept_byte s timer.counter + 1) }
counted-quiet timer s apart rise =
    let count = kept_byte s timer.counter in
    let compare = kept_byte s timer.compare in
    let flags = kept_byte s tifr in
    let fits : count + 1 < 256 = rise.fits (omega arith) in
    let below : count ≤ compare → count + 1 < compare = rise.below (omega arith) in
    let differs : (count == compare) ≡ false = ne_eqb count compare (λ e. omega (arith, e, below (omega (arith, e)))) in
    let not_full : (count == 255) ≡ false = ne_eqb count 255 (λ e. omega (arith, e, fits)) in
    let no_match : (count + 1 == compare) ≡ false =
    ne_eqb (count + 1) compare (λ e. omega (arith, e, below (omega (arith, e)))) in
    let next : next_count timer s ≡ count + 1 =
    ap (λ t. if clears_on_compare timer s && t then 0 else (count + 1) % 256) differs ∙
    no_clear (clears_on_compare timer s) 0 ((count + 1) % 256) ∙ mod-eq_of_lt fits in
    let left : next_flags timer s ≡ flags =
    ap (λ t. let overflowed = if t then with_bit flags timer.overflow_flag true else flags in
    if next_count timer s == compare then with_bit overflowed timer.compare_flag true else overflowed) not_full ∙
    ap (λ t. if t then with_bit flags timer.compare_flag true else flags) (ap (λ n. n == compare) next ∙ no_match) in
    let raised = slice_set s.bytes timer.counter (count + 1) in
    ap (λ n. record s { bytes = slice_set (slice_set s.bytes timer.counter n) tifr (next_flags timer s) }) next ∙
    ap (λ f. record s { bytes = slice_set raised tifr f }) (left ∙ sym (get_or-set_other s.bytes timer.counter tifr (count + 1) 0 apart)) ∙
    ap (λ b. record s { bytes = b }) (set-get_or raised tifr 0)

at-tcnt0 : (io : IoState) (x y c : ℕ) → length io.bytes ≡ 64 → kept_byte (at_counts io x y c) tcnt0 ≡ x
at-tcnt0 io x y c full =
    get_or-set_other (slice_set io.bytes tcnt0 x) tcnt2 tcnt0 y 0 (λ e. omega (arith, e)) ∙
    get_or-set_same io.bytes tcnt0 x 0 (omega (arith, full))

at-tcnt2 : (io : IoState) (x y c : ℕ) → length io.bytes ≡ 64 → kept_byte (at_counts io x y c) tcnt2 ≡ y
at-tcnt2 io x y c full =
    get_or-set_same (slice_set io.bytes tcnt0 x) tcnt2 y 0 (omega (arith, full, length-set io.bytes tcnt0 x))

at-other : (io : IoState) (x y c a : ℕ) → a ≢ tcnt0 → a ≢ tcnt2 → kept_byte (at_counts io x y c) a ≡ kept_byte io a
at-other io x y c a other0 other2 =
    get_or-set_other (slice_set io.bytes tcnt0 x) tcnt2 a y 0 other2 ∙ get_or-set_other io.bytes tcnt0 a x 0 other0

-- timer 0 counts, or does not
step0 : (io : IoState) (x y c : ℕ) (t : Bool) → length io.bytes ≡ 64 → MayRise x (kept_byte io ocr0) (bit t) →
    cond t (counted timer0 (at_counts io x y c)) (at_counts io x y c) ≡ at_counts io (x + bit t) y c
step0 io x y c true full rise =
    let s = at_counts io x y c in
    let here = at-tcnt0 io x y c full in
    let compare : kept_byte s ocr0 ≡ kept_byte io ocr0 = at-other io x y c ocr0 (λ e. omega (arith, e)) (λ e. omega (arith, e)) in
    let rises : MayRise (kept_byte s tcnt0) (kept_byte s ocr0) 1 =
    subst (λ k. MayRise k (kept_byte s ocr0) 1) (sym here) (subst (λ k. MayRise x k 1) (sym compare) rise) in
    counted-quiet timer0 s (λ e. omega (arith, e)) rises ∙
    ap (λ n. record s { bytes = slice_set s.bytes tcnt0 (n + 1) }) here ∙
    ap (λ b. record s { bytes = b }) (set_comm (slice_set io.bytes tcnt0 x) tcnt2 tcnt0 y (x + 1) (λ e. omega (arith, e))) ∙
    ap (λ b. record s { bytes = slice_set b tcnt2 y }) (set-set io.bytes tcnt0 x (x + 1))
step0 io x y c false full rise = ap (λ n. at_counts io n y c) (sym (add-zero x))

-- timer 2 counts, or does not
step2 : (io : IoState) (x y c : ℕ) (t : Bool) → length io.bytes ≡ 64 → MayRise y (kept_byte io ocr2) (bit t) →
    cond t (counted timer2 (at_counts io x y c)) (at_counts io x y c) ≡ at_counts io x (y + bit t) c
step2 io x y c true full rise =
    let s = at_counts io x y c in
    let here = at-tcnt2 io x y c full in
    let compare : kept_byte s ocr2 ≡ kept_byte io ocr2 = at-other io x y c ocr2 (λ e. omega (arith, e)) (λ e. omega (arith, e)) in
    let rises : MayRise (kept_byte s tcnt2) (kept_byte s ocr2) 1 =
    subst (λ k. MayRise k (kept_byte s ocr2) 1) (sym here) (subst (λ k. MayRise y k 1) (sym compare) rise) in
    counted-quiet timer2 s (λ e. omega (arith, e)) rises ∙
    ap (λ n. record s { bytes = slice_set s.bytes tcnt2 (n + 1) }) here ∙
    ap (λ b. record s { bytes = b }) (set-set (slice_set io.bytes tcnt0 x) tcnt2 y (y + 1))
step2 io x y c false full rise = ap (λ n. at_counts io x n c) (sym (add-zero y))

-- one tick
tick-at : (io : IoState) (x y c : ℕ) → length io.bytes ≡ 64 →
    MayRise x (kept_byte io ocr0) (bit (hits (divisor timer0 io) (next_cycle c))) →
    MayRise y (kept_byte io ocr2) (bit (hits (divisor timer2 io) (next_cycle c))) →
    tick (at_counts io x y c) ≡
    at_counts io (x + bit (hits (divisor timer0 io) (next_cycle c))) (y + bit (hits (divisor timer2 io) (next_cycle c))) (next_cycle c)
tick-at io x y c full rise0 rise2 =
    let now = next_cycle c in
    let hit0 = hits (divisor timer0 io) now in
    let hit2 = hits (divisor timer2 io) now in
    let s = at_counts io x y now in
    let s0 = at_counts io (x + bit hit0) y now in
    let control0 = at-other io x y now tccr0 (λ e. omega (arith, e)) (λ e. omega (arith, e)) in
    let control2 = at-other io (x + bit hit0) y now tccr2 (λ e. omega (arith, e)) (λ e. omega (arith, e)) in
    let first : clocked timer0 s ≡ s0 =
    clocked-is timer0 s ∙
    ap (λ b. cond (hits (slice_index timer0.divisors (b % 8)) now) (counted timer0 s) s) control0 ∙
    step0 io x y now hit0 full rise0 in
    tick-is (at_counts io x y c) ∙ ap (clocked timer2) first ∙ clocked-is timer2 s0 ∙
    ap (λ b. cond (hits (slice_index timer2.divisors (b % 8)) now) (counted timer2 s0) s0) control2 ∙
    step2 io (x + bit hit0) y now hit2 full rise2

at-same : (io : IoState) (x x' y y' c c' : ℕ) → x ≡ x' → y ≡ y' → c ≡ c' → at_counts io x y c ≡ at_counts io x' y' c'
at-same io x x' y y' c c' e0 e2 e =
    ap (λ n. at_counts io n y c) e0 ∙ ap (λ n. at_counts io x' n c) e2 ∙ ap (λ n. at_counts io x' y' n) e

raised_by_none : (x m : ℕ) → m ≡ 0 → x ≡ x + m
raised_by_none x m e = omega (arith, e)

raised_by_more : (x first rest all : ℕ) → all ≡ first + rest → x + first + rest ≡ x + all
raised_by_more x first rest all e = omega (arith, e)

cycles_more : (c n : ℕ) → (next_cycle c + n) % 2 ^ 64 ≡ (c + suc n) % 2 ^ 64
cycles_more c n = omega arith

-- so many ticks
ticks-at : (n : ℕ) (io : IoState) (x y c : ℕ) → length io.bytes ≡ 64 → c < 2 ^ 64 → Counts (divisor timer0 io) → Counts (divisor timer2 io) →
    MayRise x (kept_byte io ocr0) (counts_by (divisor timer0 io) c n) →
    MayRise y (kept_byte io ocr2) (counts_by (divisor timer2 io) c n) →
    ticks n (at_counts io x y c) ≡
    at_counts io (x + counts_by (divisor timer0 io) c n) (y + counts_by (divisor timer2 io) c n) ((c + n) % 2 ^ 64)
ticks-at zero io x y c full fits counts0 counts2 rise0 rise2 =
    at-same io x _ y _ c _ (raised_by_none x _ (counts0.none c)) (raised_by_none y _ (counts2.none c)) (omega (arith, fits))
ticks-at (suc n) io x y c full fits counts0 counts2 rise0 rise2 =
    let now = next_cycle c in
    let every0 = divisor timer0 io in
    let every2 = divisor timer2 io in
    let hit0 = hits every0 now in
    let hit2 = hits every2 now in
    let split0 : MayRise x (kept_byte io ocr0) (bit hit0 + counts_by every0 now n) = subst (λ m. MayRise x (kept_byte io ocr0) m) (counts0.more c n) rise0 in
    let split2 : MayRise y (kept_byte io ocr2) (bit hit2 + counts_by every2 now n) = subst (λ m. MayRise y (kept_byte io ocr2) m) (counts2.more c n) rise2 in
    ap (ticks n) (tick-at io x y c full (rise-first x _ _ hit0 split0) (rise-first y _ _ hit2 split2)) ∙
    ticks-at n io (x + bit hit0) (y + bit hit2) now full (mod-lt (c + 1) (omega arith)) counts0 counts2
    (rise-rest x _ _ hit0 split0) (rise-rest y _ _ hit2 split2) ∙
    at-same io _ _ _ _ _ _ (raised_by_more x (bit hit0) _ _ (counts0.more c n)) (raised_by_more y (bit hit2) _ _ (counts2.more c n)) (cycles_more c n)

-- the I/O space after n quiet cycles
abbrev pub later_io : ℕ → IoState → IoState
later_io n io = at_counts io (count_after n timer0 io) (count_after n timer2 io) ((io.cycles + n) % 2 ^ 64)

pub ticks-quiet : (n : ℕ) (io : IoState) → IsShapedIo io → IsQuietFor n io → ticks n io ≡ later_io n io
ticks-quiet n io shaped quiet =
    let x = kept_byte io tcnt0 in
    let y = kept_byte io tcnt2 in
    let here : at_counts io x y io.cycles ≡ io =
    ap (λ b. record io { bytes = slice_set b tcnt2 y }) (set-get_or io.bytes tcnt0 0) ∙
    ap (λ b. record io { bytes = b }) (set-get_or io.bytes tcnt2 0) in
    ap (ticks n) (sym here) ∙
    ticks-at n io x y io.cycles shaped.io_length shaped.cycles_fit
    (counts-timer0 (kept_byte io tccr0 % 8) (mod-lt (kept_byte io tccr0) (omega arith)))
    (counts-timer2 (kept_byte io tccr2 % 8) (mod-lt (kept_byte io tccr2) (omega arith)))
    (may-rise x _ _ (kept_byte-below io ocr0 shaped) quiet.timer_0) (may-rise y _ _ (kept_byte-below io ocr2 shaped) quiet.timer_2)

-- no cycle later it is as it was
pub later-none : (k : KeptIo) → IsShapedIo (io_of k) → later 0 k ≡ k
later-none k shaped =
    let counts0 = counts-timer0 (kept_byte (io_of k) tccr0 % 8) (mod-lt (kept_byte (io_of k) tccr0) (omega arith)) in
    let counts2 = counts-timer2 (kept_byte (io_of k) tccr2 % 8) (mod-lt (kept_byte (io_of k) tccr2) (omega arith)) in
    let same0 : count_after 0 timer0 (io_of k) ≡ slice_index k.bytes tcnt0 = omega (arith, counts0.none k.cycles) in
    let same2 : count_after 0 timer2 (io_of k) ≡ slice_index k.bytes tcnt2 = omega (arith, counts2.none k.cycles) in
    let cycle : (k.cycles + 0) % 2 ^ 64 ≡ k.cycles = omega (arith, shaped.cycles_fit) in
    ap (λ b. record k { bytes = slice_set (slice_set k.bytes tcnt0 b) tcnt2 (count_after 0 timer2 (io_of k)); cycles = (k.cycles + 0) % 2 ^ 64 }) same0 ∙
    ap (λ b. record k { bytes = slice_set b tcnt2 (count_after 0 timer2 (io_of k)); cycles = (k.cycles + 0) % 2 ^ 64 }) (set-get_or k.bytes tcnt0 0) ∙
    ap (λ b. record k { bytes = slice_set k.bytes tcnt2 b; cycles = (k.cycles + 0) % 2 ^ 64 }) same2 ∙
    ap (λ b. record k { bytes = b; cycles = (k.cycles + 0) % 2 ^ 64 }) (set-get_or k.bytes tcnt2 0) ∙
    ap (λ c. record k { cycles = c }) cycle

stays-byte : (count compare counts : ℕ) → count < 256 → compare < 256 → stays_below count compare counts ≡ true → count + counts < 256
stays-byte count compare counts byte0 byte quiet = grind (arith, tests)

-- a quiet counter stays a byte
pub count_after-below : (n : ℕ) (timer : Timer) (io : IoState) → IsShapedIo io → IsTrue (is_quiet_for n timer io) → count_after n timer io < 256
count_after-below n timer io shape quiet =
    stays-byte _ _ _ (kept_byte-below io timer.counter shape) (kept_byte-below io timer.compare shape) quiet

-- bytes put at 2 addresses: what is kept keeps its shape
pub put_twice_is_kept : (k : KeptIo) (i j x y c : ℕ) → IsKeptIo k → x < 256 → y < 256 → c < 2 ^ 64 →
    IsKeptIo (record k { bytes = slice_set (slice_set k.bytes i x) j y; cycles = c })
put_twice_is_kept k i j x y c kept byte0 byte2 fits = record {
  shape = record {
    io_length = length-set (slice_set k.bytes i x) j y ∙ length-set k.bytes i x ∙ kept.shape.io_length;
    io_bytes = All-set IsByte (slice_set k.bytes i x) j y byte2 (All-set IsByte k.bytes i x byte0 kept.shape.io_bytes);
    cycles_fit = fits;
  };
  ring = kept.ring;
}

pub later_is_kept : (n : ℕ) (k : KeptIo) → IsKeptIo k → IsQuietFor n (io_of k) → IsKeptIo (later n k)
later_is_kept n k kept quiet =
    put_twice_is_kept k tcnt0 tcnt2 _ _ _ kept (count_after-below n timer0 (io_of k) kept.shape quiet.timer_0)
    (count_after-below n timer2 (io_of k) kept.shape quiet.timer_2) (mod-lt (k.cycles + n) (omega arith))
