-- Where no interrupt is pending none goes first.
use Rattle.std.proofs.Common.{◌≡◌, Bool, true, false, ◌||◌, if◌then◌else◌, Option, None, refl}
use Rattle.part_spec.specs.Chip.{Chip}
use Rattle.avr_spec.specs.declared.target.Vector.{Vector}
use Rattle.avr_spec.specs.declared.target.Vector.TheVariants.{Comp2, Ovf2, Ovf0, Comp0}
use Rattle.avr_spec.specs.IoSpace.{IoState}
use Rattle.avr_spec.specs.Interrupts.{is_pending, earlier, pending}
use Rattle.avr_io.specs.Pending.{is_any_pending}

-- an interrupt put to what was found, where it is pending
abbrev found : Chip → Bool → Vector → Option Vector → Option Vector
found part is v others = if is then earlier part v others else others

none_found : (part : Chip) (a b c d : Bool) → (a || b || c || d) ≡ false →
    None ≡ found part a Comp2 (found part b Ovf2 (found part c Ovf0 (found part d Comp0 None)))
none_found part false false false false off = refl
none_found part true b c d off = cc
none_found part false true c d off = cc
none_found part false false true d off = cc
none_found part false false false true off = cc

pub none_pending : (part : Chip) (io : IoState) → is_any_pending io ≡ false → None ≡ pending part io
none_pending part io off = none_found part (is_pending io Comp2) (is_pending io Ovf2) (is_pending io Ovf0) (is_pending io Comp0) off
