use Rattle.std.proofs.Common.{◌≡◌, ℕ, ◌%◌, ◌<◌, false, refl, ap, ◌∙◌, subst}
use Rattle.std.proofs.Math.Nat.{mod-eq_of_lt}
use Rattle.part_spec.specs.Chip.{Chip, chip_of, words_of}
use Rattle.avr_spec.specs.Interrupts.{address_of}
use Rattle.avr_spec.specs.Machine.{Machine, IsShapedIo}
use Rattle.avr_spec.specs.Kept.{Kept, kept, kept_io}
use Rattle.avr_spec.specs.Memory.{with_flag, pushed_pc}
use Rattle.avr_spec.specs.Effect.{with_pc}
use Rattle.avr_spec.specs.Step.{ended}
use Rattle.avr_spec.proofs.ShapeLemmas.{io_outputs}
use Rattle.avr_io.specs.Keeps.{io_of}
use Rattle.avr_core.proofs.Entry.{taking, entered-is}
use Rattle.avr_core.proofs.state.Core.take.Goals as goal

pub returns : goal.returns
returns c = λ part p h.
    let v = c.args.v in
    let cleared = taking v p in
    let pushed = pushed_pc part cleared in
    let masked = with_flag 7 false pushed in
    let shaped : IsShapedIo p.io =
    io_outputs (io_of (kept_io part p.io)) p.io (subst (λ (k : Kept). IsShapedIo (io_of k.io)) h c.take_flag.ensures.shape) refl refl in
    let moved = c.set_flag.ensures part pushed (c.push_pc.ensures part cleared (c.take_flag.ensures.cleared part p h)) in
    let same_part : chip_of c.part.result ≡ part = c.part.ensures ∙ ap (λ (k : Kept). k.part) moved in
    let at : c.from.result ≡ address_of part v =
    c.from.ensures ∙ c.address_for.ensures.address ∙ ap (λ (q : Chip). address_of q v) same_part in
    let in_flash : address_of part v < words_of part =
    subst (λ (q : Chip). address_of q v < words_of q) same_part
    (subst (λ (n : ℕ). n < words_of (chip_of c.part.result)) c.address_for.ensures.address c.address_for.ensures.in_flash) in
    let place = c.from.result % words_of part in
    c.end.ensures part (record (with_pc place masked) { hold = false })
    (c.set_hold.ensures part (with_pc place masked) (c.go_to.ensures part masked moved)) ∙
    ap (λ (n : ℕ). kept part (ended 4 p (record masked { pc = n; hold = false })))
    (ap (λ (n : ℕ). n % words_of part) at ∙ mod-eq_of_lt in_flash) ∙
    ap (λ (s : Machine). kept part (ended 4 p s)) (entered-is part v p shaped)
