use Rattle.std.proofs.Common.{ℕ, ◌<◌, List, slice_set, subst, sym, ap, ◌∙◌}
use Rattle.std.proofs.Math.Seq.{take-set-lt}
use Rattle.part_spec.specs.Chip.{chip_of}
use Rattle.avr_spec.specs.Machine.{sram_bytes}
use Rattle.avr_spec.specs.Kept.{Kept}
use Rattle.avr_core.proofs.Standing.{kept_as}
use Rattle.avr_core.proofs.state.Core.set_sram_byte.Goals as goal

pub returns : goal.returns
returns c = λ part p h.
    let s = c.self.inside in
    let core = kept_as s.part s.pc s.registers s.io s.sram s.steps s.hold in
    let offset = c.args.offset in
    let inside = subst (λ (k : Kept). offset < sram_bytes k.part) (sym c.self.view_is) c.requires in
    ap (λ (l : List ℕ). record core { sram = l }) (take-set-lt (sram_bytes (chip_of s.part)) s.sram offset c.args.byte inside) ∙
    ap (λ (k : Kept). record k { sram = slice_set k.sram offset c.args.byte }) (c.self.view_is ∙ h)
