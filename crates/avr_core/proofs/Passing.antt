-- Word addresses of a flash, and a step that passes nothing over.
use Rattle.std.proofs.Common.{◌≡◌, ℕ, ◌+◌, ◌%◌, ◌<◌, sym, ap, ◌∙◌, subst, arith}
use Rattle.std.proofs.Math.Nat.{mod-eq_of_lt}
use Rattle.part_spec.specs.Chip.{Chip, words_of}
use Rattle.avr_spec.specs.Machine.{Machine}
use Rattle.avr_spec.specs.Kept.{kept}
use Rattle.avr_spec.specs.Effect.{with_pc}
use Rattle.avr_core.specs.Leaves.{past}

pub past-none : (part : Chip) (p : Machine) → p.pc < words_of part → kept part p ≡ kept part (past part 0 p)
past-none part p in_flash =
    let none : p.pc ≡ p.pc + 0 = omega arith in
    let stays : p.pc ≡ (p.pc + 0) % words_of part = sym (mod-eq_of_lt in_flash) ∙ ap (λ (n : ℕ). n % words_of part) none in
    ap (λ (pc : ℕ). kept part (with_pc pc p)) stays

-- an address within the flash of the core's part is one within the flash at hand, which has that part
pub in_flash-at_hand : (address : ℕ) (at_hand part : Chip) → at_hand ≡ part → address < words_of part → address < words_of at_hand
in_flash-at_hand address at_hand part same inside = subst (λ (q : Chip). address < words_of q) (sym same) inside
