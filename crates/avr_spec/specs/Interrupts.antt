-- The interrupts of the timers. Source: ATmega16 datasheet, "Interrupt Vectors" and "Reset and Interrupt Handling".
use Rattle.std.specs.Prelude.{ℕ, Bool, false, ◌&&◌, nat_le, if◌then◌else◌, List, [], ◌∷◌, Option, Some, None, slice_set}
use Rattle.part_spec.specs.Chip.{Chip}
use Rattle.avr_spec.specs.declared.target.Vector.{Vector}
use Rattle.avr_spec.specs.declared.target.Vector.TheVariants.{Comp2, Ovf2, Ovf0, Comp0}
use Rattle.avr_spec.specs.Bytes.{has_bit, with_bit}
use Rattle.avr_spec.specs.IoSpace.{IoState, kept_byte, tifr, timsk}

-- the word address at which an interrupt enters
abbrev pub address_of : Chip → Vector → ℕ
address_of part Comp2 = part.vectors.timer2_compare
address_of part Ovf2 = part.vectors.timer2_overflow
address_of part Ovf0 = part.vectors.timer0_overflow
address_of part Comp0 = part.vectors.timer0_compare

-- the bit of an interrupt in TIFR and in TIMSK
abbrev pub flag_of : Vector → ℕ
flag_of Comp2 = 7
flag_of Ovf2 = 6
flag_of Ovf0 = 0
flag_of Comp0 = 1

-- every interrupt
abbrev pub all_vectors : List Vector
all_vectors = Comp2 ∷ Ovf2 ∷ Ovf0 ∷ Comp0 ∷ []

-- an interrupt is pending: its flag is set, and its mask
abbrev pub is_pending : IoState → Vector → Bool
is_pending io v = has_bit (kept_byte io tifr) (flag_of v) && has_bit (kept_byte io timsk) (flag_of v)

-- of an interrupt and what was found so far, the one with the lower address
abbrev pub earlier : Chip → Vector → Option Vector → Option Vector
earlier part v None = Some v
earlier part v (Some w) = if nat_le (address_of part v) (address_of part w) then Some v else Some w

-- of these interrupts, the pending one with the lowest address
abbrev pub first_pending : Chip → IoState → List Vector → Option Vector
first_pending part io [] = None
first_pending part io (v ∷ vs) = if is_pending io v then earlier part v (first_pending part io vs) else first_pending part io vs

-- the pending interrupt with the lowest address
abbrev pub pending : Chip → IoState → Option Vector
pending part io = first_pending part io all_vectors

-- the I/O space once an interrupt is taken: its flag is clear
abbrev pub take_flag : Vector → IoState → IoState
take_flag v io = record io { bytes = slice_set io.bytes tifr (with_bit (kept_byte io tifr) (flag_of v) false) }
