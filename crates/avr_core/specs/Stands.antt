-- A core stands for a state p of the machine of a part where what it keeps is `kept part p`. It always stands for some, and what its
-- methods do is said of each of them.
use Rattle.std.specs.Prelude.{◌≡◌, ℕ, ◌<◌, List, length, All}
use Rattle.part_spec.specs.Chip.{Chip, m32, words_of, IsMask}
use Rattle.avr_spec.specs.Machine.{Machine, IsByte, IsShaped, sram_bytes}
use Rattle.avr_spec.specs.Kept.{Kept, KeptIo, kept}

-- a call moves each state that the core stands for by f
abbrev pub Moves : Kept → Kept → (Chip → Machine → Machine) → Type 0
Moves before after f = (part : Chip) (p : Machine) → before ≡ kept part p → after ≡ kept part (f part p)

-- a call shows f of each state that the core stands for
abbrev pub Shows : {A : Type 0} → Kept → A → (Chip → Machine → A) → Type 0
Shows core shown f = (part : Chip) (p : Machine) → core ≡ kept part p → shown ≡ f part p

-- the bytes of SRAM of the part that has most
abbrev pub most_sram : ℕ
most_sram = sram_bytes m32

-- a core has the shape of its part, whose I/O space it holds and whose numbers it has at hand; of its SRAM the part has the front
pub record IsShapedCore (part : Chip) (pc : ℕ) (registers : List ℕ) (io : KeptIo) (sram : List ℕ) (mask sram_end : ℕ) : Type 0 where
  pub pc_in_flash : pc < words_of part
  pub registers_length : length registers ≡ 32
  pub registers_bytes : All IsByte registers
  pub same_part : io.part ≡ part
  pub sram_length : length sram ≡ most_sram
  pub sram_all_bytes : All IsByte sram
  pub is_mask : IsMask part mask
  pub small_mask : mask < 16384
  pub is_end : sram_end ≡ part.sram_end

-- there is a state of the machine of the core's part, in its shape, that is kept so
pub record StandsForSome (core : Kept) : Type 0 where
  pub state : Machine
  pub is : core ≡ kept core.part state
  pub shape : IsShaped core.part state
