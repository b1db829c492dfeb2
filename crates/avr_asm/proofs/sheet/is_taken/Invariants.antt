use Rattle.std.proofs.Common.{◌≡◌, ℕ, ◌<◌, ◌≤◌, false, get_or}
use Rattle.avr_asm.proofs.sheet.is_taken.Given as goal

abbrev pub invariant-places : goal.invariant-places
invariant-places l = (j : ℕ) → l.place ≤ j → j < l.k → get_or l.taken j false ≡ false
