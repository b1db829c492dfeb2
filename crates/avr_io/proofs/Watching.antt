-- Whether any interrupt is pending is known as long as nothing is put where that may change.
use Rattle.std.proofs.Common.{◌≡◌, ◌≢◌, ℕ, Bool, true, false, ◌&&◌, ◌||◌, ◌==◌, refl, sym, ap, subst, ◌∙◌, get_or-set_other}
use Rattle.std.proofs.lemmas.Bool.{false≢true}
use Rattle.avr_spec.specs.declared.target.OutWrite.{OutWrite}
use Rattle.avr_spec.specs.Bytes.{has_bit}
use Rattle.avr_spec.specs.IoSpace.{kept_byte, tifr, timsk}
use Rattle.avr_spec.specs.Kept.{KeptIo}
use Rattle.avr_io.specs.Keeps.{io_of, IsKeptIo}
use Rattle.avr_io.specs.TimerOf.{is_timer}
use Rattle.avr_io.specs.Pending.{is_any_pending, is_watched}
use Rattle.avr_io.specs.Quiet.{later, IsQuietFor, IsWatched, with_byte, with_write}
use Rattle.avr_io.proofs.Later.{ahead-put, later-reads}

-- of two tests that together fail, the first fails, and the second
first_fails : (a b : Bool) → (a || b) ≡ false → a ≡ false
first_fails false b e = refl
first_fails true b e = e

second_fails : (a b : Bool) → (a || b) ≡ false → b ≡ false
second_fails false b e = e
second_fails true b e = absurd (false≢true (sym e))

pub unwatched : (a : ℕ) → is_watched a ≡ false → is_timer a ≡ false
unwatched a off = first_fails (is_timer a) ((a == tifr) || (a == timsk)) off

-- the bytes of flags and of masks stand elsewhere
apart : (a t : ℕ) → is_watched a ≡ false → is_watched t ≡ true → t ≢ a
apart a t off on e = false≢true (sym off ∙ ap is_watched (sym e) ∙ on)

-- whether any interrupt is pending, by the bytes of flags and of masks
abbrev any_of : ℕ → ℕ → Bool
any_of flags masks =
    (has_bit flags 7 && has_bit masks 7) || (has_bit flags 6 && has_bit masks 6) || (has_bit flags 0 && has_bit masks 0) ||
    (has_bit flags 1 && has_bit masks 1)

pub pending-later : (n : ℕ) (k : KeptIo) → is_any_pending (io_of k) ≡ is_any_pending (io_of (later n k))
pending-later n k =
    ap (λ (flags : ℕ). any_of flags (kept_byte (io_of k) timsk)) (later-reads n tifr k refl) ∙
    ap (λ (masks : ℕ). any_of (kept_byte (io_of (later n k)) tifr) masks) (later-reads n timsk k refl)

pending-put : (a byte : ℕ) (k : KeptIo) → is_watched a ≡ false → is_any_pending (io_of (with_byte a byte k)) ≡ is_any_pending (io_of k)
pending-put a byte k off =
    ap (λ (flags : ℕ). any_of flags (kept_byte (io_of (with_byte a byte k)) timsk))
    (get_or-set_other k.bytes a tifr byte 0 (apart a tifr off refl)) ∙
    ap (λ (masks : ℕ). any_of (kept_byte (io_of k) tifr) masks) (get_or-set_other k.bytes a timsk byte 0 (apart a timsk off refl))

pub watched-put : (k after : KeptIo) (passed limit a byte : ℕ) (pending : Bool) → after ≡ with_byte a byte k → is_watched a ≡ false →
    IsKeptIo after → IsWatched k passed limit pending → IsWatched after passed limit pending
watched-put k after passed limit a byte pending e off kept watched = record {
  ahead = ahead-put k after passed limit a byte e (unwatched a off) kept watched.ahead;
  pending_is = watched.pending_is ∙ sym (pending-put a byte k off) ∙ ap (λ (t : KeptIo). is_any_pending (io_of t)) (sym e);
}

pub watched-noted : (k after : KeptIo) (write : OutWrite) (passed limit : ℕ) (pending : Bool) → after ≡ with_write write k →
    IsKeptIo after → IsWatched k passed limit pending → IsWatched after passed limit pending
watched-noted k after write passed limit pending e kept watched = record {
  ahead = record {
    kept = kept;
    quiet = λ n fits. let quiet = watched.ahead.quiet n fits in
        subst (λ (t : KeptIo). IsQuietFor n (io_of t)) (sym e) (record { timer_0 = quiet.timer_0; timer_2 = quiet.timer_2 });
    within = watched.ahead.within;
    bound = watched.ahead.bound;
  };
  pending_is = watched.pending_is ∙ ap (λ (t : KeptIo). is_any_pending (io_of t)) (sym e);
}
