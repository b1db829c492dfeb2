-- What is known of each I/O space that is kept, and how the book's words speak of it.
use Rattle.std.specs.Prelude.{◌≡◌}
use Rattle.part_spec.specs.Chip.{Chip}
use Rattle.avr_spec.specs.IoSpace.{IoState}
use Rattle.avr_spec.specs.Machine.{IsShapedIo}
use Rattle.avr_spec.specs.Kept.{KeptIo, kept_io, IsRing}

-- an I/O space with these bytes, these cycles, and the kept output writes alone
abbrev pub io_of : KeptIo → IoState
io_of k = record { bytes = k.bytes; cycles = k.cycles; outputs = k.ring }

-- some I/O space is kept so: the bytes and the cycles have their shape, and some list of output writes stands behind the ring
pub record IsKeptIo (k : KeptIo) : Type 0 where
  pub shape : IsShapedIo (io_of k)
  pub ring : IsRing k.ring k.total

-- a call moves each I/O space that stands behind what is kept by f
abbrev pub Moves : KeptIo → KeptIo → (IoState → IoState) → Type 0
Moves before after f = (part : Chip) (io : IoState) → before ≡ kept_io part io → after ≡ kept_io part (f io)

-- a call shows f of each I/O space that stands behind what is kept
abbrev pub Shows : {A : Type 0} → KeptIo → A → (Chip → IoState → A) → Type 0
Shows k shown f = (part : Chip) (io : IoState) → k ≡ kept_io part io → shown ≡ f part io
