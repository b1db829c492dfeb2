use Rattle.std.proofs.Common.{◌≡◌, ℕ, ◌<◌, ◌&&◌, ◌||◌, false, nat_le, nat_lt, length, get_or}
use Rattle.avr_asm.proofs.sheet.take.Given as goal

abbrev pub invariant-places : goal.invariant-places
invariant-places l = (j : ℕ) → j < length l.fn.taken →
    get_or l.taken j false ≡ (nat_le l.place j && nat_lt j l.k) || get_or l.fn.taken j false
