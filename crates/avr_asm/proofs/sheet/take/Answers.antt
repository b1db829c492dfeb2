use Rattle.std.proofs.Common.{◌≡◌, ℕ, ◌&&◌, ◌||◌, false, nat_le, nat_lt, get_or, ap, ◌∙◌, arith}
use Rattle.avr_asm.proofs.sheet.take.Goals as goal

pub returns : goal.returns
returns c = λ j inside.
    let end : c.places.k ≡ c.args.behind = omega arith in
    c.places.invariant j inside
    ∙ ap (λ (n : ℕ). (nat_le c.args.place j && nat_lt j n) || get_or c.args.taken.now j false) end
