use Rattle.std.proofs.Common.{◌≡◌, ℕ, ◌%◌, refl, ap, ◌∙◌}
use Rattle.part_spec.specs.Chip.{flash_bytes}
use Rattle.avr_spec.specs.Kept.{Kept, kept}
use Rattle.avr_spec.specs.Memory.{plus, pointer_z, with_reg, with_pair}
use Rattle.avr_spec.specs.Step.{flash_byte}
use Rattle.avr_core.proofs.state.Core.lpm_then_add.Goals as goal

pub returns : goal.returns
returns g c = λ part p h.
    let address = c.pair-address.result in
    let flash = g.F.Flash.words c.args.flash.now in
    let read : c.flash_byte-byte.result ≡ flash_byte flash (address % flash_bytes part) =
    c.flash_byte-byte.ensures ∙
    ap (flash_byte flash) (c.flash_address.ensures.wraps ∙ ap (λ (k : Kept). address % flash_bytes k.part) h) in
    let added = with_pair pointer_z (plus address 1) p in (
      c.set_reg.ensures part added (c.set_pair.ensures part p h) ∙
          ap (λ (b : ℕ). kept part (with_reg c.args.d b added)) read ∙
          ap (λ (a : ℕ). kept part (with_reg c.args.d (flash_byte flash (a % flash_bytes part)) (with_pair pointer_z (plus a 1) p)))
          (c.pair-address.ensures part p h),
      refl,
    )
