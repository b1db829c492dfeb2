-- What is kept after quiet cycles: how it follows stores and ticks.
use Rattle.std.proofs.Common.{◌≡◌, ◌≢◌, ℕ, ◌+◌, ◌-◌, ◌%◌, ◌^◌, true, false, ◌==◌, if◌then◌else◌, bit_and, slice_index, slice_set, refl, sym, ap, subst, ◌∙◌, get_or-set_other}
use Rattle.std.proofs.lemmas.List.{set_comm}
use Rattle.std.proofs.lemmas.Bool.{false≢true}
use Rattle.part_spec.specs.Chip.{Chip}
use Rattle.avr_spec.specs.IoSpace.{IoState, kept_byte, is_read_only, tifr, tcnt0, tcnt2, stored_byte}
use Rattle.avr_spec.specs.Timers.{Timer, timer0, timer2, ticks}
use Rattle.avr_spec.specs.Kept.{KeptIo, kept_io}
use Rattle.avr_spec.specs.Machine.{IsShapedIo}
use Rattle.avr_spec.proofs.TickLemmas.{ticks_add}
use Rattle.avr_io.specs.Keeps.{io_of, IsKeptIo}
use Rattle.avr_io.specs.TimerOf.{is_timer}
use Rattle.avr_io.specs.Quiet.{counts_by, stays_below, is_quiet_for, IsQuietFor, count_after, later, IsAhead, with_byte}
use Rattle.avr_io.proofs.QuietTicks.{ticks-quiet}

-- an address where a register of a timer stands is not one where none stands
apart : (a t : ℕ) → is_timer a ≡ false → is_timer t ≡ true → t ≢ a
apart a t off on e = false≢true (sym off ∙ ap is_timer (sym e) ∙ on)

-- the address of a byte of which the timers know nothing
record IsElsewhere (a : ℕ) (timer : Timer) : Type 0 where
  control : timer.control ≢ a
  counter : timer.counter ≢ a
  compare : timer.compare ≢ a

elsewhere0 : (a : ℕ) → is_timer a ≡ false → IsElsewhere a timer0
elsewhere0 a off = record { control = apart a _ off refl; counter = apart a _ off refl; compare = apart a _ off refl }

elsewhere2 : (a : ℕ) → is_timer a ≡ false → IsElsewhere a timer2
elsewhere2 a off = record { control = apart a _ off refl; counter = apart a _ off refl; compare = apart a _ off refl }

quiet-put : (n : ℕ) (timer : Timer) (a byte : ℕ) (k : KeptIo) → IsElsewhere a timer →
    is_quiet_for n timer (io_of (with_byte a byte k)) ≡ is_quiet_for n timer (io_of k)
quiet-put n timer a byte k away =
    let after = with_byte a byte k in
    ap (λ x. stays_below x (kept_byte (io_of after) timer.compare)
    (counts_by (slice_index timer.divisors (kept_byte (io_of after) timer.control % 8)) k.cycles n)) (get_or-set_other k.bytes a timer.counter byte 0 away.counter) ∙
    ap (λ x. stays_below (kept_byte (io_of k) timer.counter) x
    (counts_by (slice_index timer.divisors (kept_byte (io_of after) timer.control % 8)) k.cycles n)) (get_or-set_other k.bytes a timer.compare byte 0 away.compare) ∙
    ap (λ x. stays_below (kept_byte (io_of k) timer.counter) (kept_byte (io_of k) timer.compare)
    (counts_by (slice_index timer.divisors (x % 8)) k.cycles n)) (get_or-set_other k.bytes a timer.control byte 0 away.control)

count_after-put : (n : ℕ) (timer : Timer) (a byte : ℕ) (k : KeptIo) → IsElsewhere a timer →
    count_after n timer (io_of (with_byte a byte k)) ≡ count_after n timer (io_of k)
count_after-put n timer a byte k away =
    ap (λ x. x + counts_by (slice_index timer.divisors (kept_byte (io_of (with_byte a byte k)) timer.control % 8)) k.cycles n)
    (get_or-set_other k.bytes a timer.counter byte 0 away.counter) ∙
    ap (λ x. kept_byte (io_of k) timer.counter + counts_by (slice_index timer.divisors (x % 8)) k.cycles n)
    (get_or-set_other k.bytes a timer.control byte 0 away.control)

-- a byte put elsewhere changes nothing for the timers
pub ahead-put : (k after : KeptIo) (passed limit a byte : ℕ) → after ≡ with_byte a byte k → is_timer a ≡ false → IsKeptIo after →
    IsAhead k passed limit → IsAhead after passed limit
ahead-put k after passed limit a byte e off kept ahead = record {
  kept = kept;
  quiet = λ n fits. subst (λ (t : KeptIo). IsQuietFor n (io_of t)) (sym e) (record {
    timer_0 = quiet-put n timer0 a byte k (elsewhere0 a off) ∙ (ahead.quiet n fits).timer_0;
    timer_2 = quiet-put n timer2 a byte k (elsewhere2 a off) ∙ (ahead.quiet n fits).timer_2;
  });
  within = ahead.within;
  bound = ahead.bound;
}

-- it is there later too
pub later-put : (n a byte : ℕ) (k : KeptIo) → is_timer a ≡ false → later n (with_byte a byte k) ≡ with_byte a byte (later n k)
later-put n a byte k off =
    let away0 = elsewhere0 a off in
    let away2 = elsewhere2 a off in
    let x = count_after n timer0 (io_of k) in
    let y = count_after n timer2 (io_of k) in
    let cycle = (k.cycles + n) % 2 ^ 64 in
    ap (λ t. record k { bytes = slice_set (slice_set (slice_set k.bytes a byte) tcnt0 t) tcnt2 (count_after n timer2 (io_of (with_byte a byte k))); cycles = cycle })
    (count_after-put n timer0 a byte k away0) ∙
    ap (λ t. record k { bytes = slice_set (slice_set (slice_set k.bytes a byte) tcnt0 x) tcnt2 t; cycles = cycle }) (count_after-put n timer2 a byte k away2) ∙
    ap (λ b. record k { bytes = slice_set b tcnt2 y; cycles = cycle }) (set_comm k.bytes a tcnt0 byte x (λ e. away0.counter (sym e))) ∙
    ap (λ b. record k { bytes = b; cycles = cycle }) (set_comm (slice_set k.bytes tcnt0 x) a tcnt2 byte y (λ e. away2.counter (sym e)))

-- later the other bytes are as they were
pub later-reads : (n a : ℕ) (k : KeptIo) → is_timer a ≡ false → kept_byte (io_of k) a ≡ kept_byte (io_of (later n k)) a
later-reads n a k off =
    let x = count_after n timer0 (io_of k) in
    let y = count_after n timer2 (io_of k) in
    sym (get_or-set_other (slice_set k.bytes tcnt0 x) tcnt2 a y 0 (λ e. (elsewhere2 a off).counter (sym e)) ∙
    get_or-set_other k.bytes tcnt0 a x 0 (λ e. (elsewhere0 a off).counter (sym e)))

-- a store leaves the same elsewhere, now and later
pub stored-later : (n a v : ℕ) (k : KeptIo) → is_timer a ≡ false → stored_byte a v (io_of k) ≡ stored_byte a v (io_of (later n k))
stored-later n a v k off =
    ap (λ x. if is_read_only a then x else (if a == tifr then bit_and (kept_byte (io_of k) tifr) (255 - v) else v)) (later-reads n a k off) ∙
    ap (λ x. if is_read_only a then kept_byte (io_of (later n k)) a else (if a == tifr then bit_and x (255 - v) else v)) (later-reads n tifr k refl)

-- more quiet cycles are ticks
pub later-ticks : (part : Chip) (m n : ℕ) (k : KeptIo) (io : IoState) → IsKeptIo k → IsQuietFor m (io_of k) → IsQuietFor (m + n) (io_of k) →
    later m k ≡ kept_io part io → later (m + n) k ≡ kept_io part (ticks n io)
later-ticks part m n k io kept quiet more e =
    let before = record io { bytes = k.bytes; cycles = k.cycles } in
    let shaped : IsShapedIo before = record { io_length = kept.shape.io_length; io_bytes = kept.shape.io_bytes; cycles_fit = kept.shape.cycles_fit } in
    let now : ticks m before ≡ io =
    ticks-quiet m before shaped (record { timer_0 = quiet.timer_0; timer_2 = quiet.timer_2 }) ∙
    ap (λ (t : KeptIo). record io { bytes = t.bytes; cycles = t.cycles }) e in
    ap (λ (t : KeptIo). record (later (m + n) k) { part = t.part; ring = t.ring; total = t.total }) e ∙
    ap (λ (s : IoState). kept_io part s) (sym (ticks-quiet (m + n) before shaped (record { timer_0 = more.timer_0; timer_2 = more.timer_2 }))) ∙
    ap (λ (s : IoState). kept_io part s) (ticks_add m n before) ∙
    ap (λ (s : IoState). kept_io part (ticks n s)) now
