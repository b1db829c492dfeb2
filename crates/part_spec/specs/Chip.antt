-- The numbers in which one part of the family differs from another, as the datasheets of the ATmega16 and the ATmega32 give them.
use Rattle.std.specs.Prelude.{◌≡◌, ℕ, ◌+◌, ◌*◌, ◌%◌, List, [], ◌∷◌, bit_and}
use Rattle.part_spec.specs.declared.part.TheConstants.{PAGE_WORDS}
use Rattle.part_spec.specs.declared.part.Part.{Part}
use Rattle.part_spec.specs.declared.part.Part.TheVariants.{M16, M32}

-- the word addresses at which the interrupts of the two timers enter (datasheet, 'Interrupt Vectors')
pub record Vectors : Type 0 where
  pub timer2_compare : ℕ
  pub timer2_overflow : ℕ
  pub timer0_overflow : ℕ
  pub timer0_compare : ℕ

-- how many flash pages the part has, the first data address behind its SRAM, its interrupt vectors, and its signature bytes
pub record Chip : Type 0 where
  pub pages : ℕ
  pub sram_end : ℕ
  pub vectors : Vectors
  pub signature : List ℕ

-- the ATmega16: 16 KiB of flash in pages of 128 bytes, and 1 KiB of SRAM behind the 96 register addresses
abbrev pub m16 : Chip
m16 = record {
  pages = 128;
  sram_end = 0x460;
  vectors = record { timer2_compare = 0x06; timer2_overflow = 0x08; timer0_overflow = 0x12; timer0_compare = 0x26 };
  signature = 0x1e ∷ 0x94 ∷ 0x03 ∷ [];
}

-- the ATmega32: 32 KiB of flash in pages of 128 bytes, and 2 KiB of SRAM; its compare match of timer 0 enters below its overflow
abbrev pub m32 : Chip
m32 = record {
  pages = 256;
  sram_end = 0x860;
  vectors = record { timer2_compare = 0x08; timer2_overflow = 0x0a; timer0_overflow = 0x16; timer0_compare = 0x14 };
  signature = 0x1e ∷ 0x95 ∷ 0x02 ∷ [];
}

-- the numbers of a part
abbrev pub chip_of : Part → Chip
chip_of M16 = m16
chip_of M32 = m32

-- the words of a flash page, in each part of the family (datasheet, 'Page Size')
abbrev pub page_words : ℕ
page_words = PAGE_WORDS

-- the bytes of a flash page
abbrev pub page_bytes : ℕ
page_bytes = 2 * page_words

-- the words of a part's flash
abbrev pub words_of : Chip → ℕ
words_of part = page_words * part.pages

-- the bytes of a part's flash
abbrev pub flash_bytes : Chip → ℕ
flash_bytes part = 2 * words_of part

-- a mask that takes numbers modulo the words of a part's flash, and with one bit more modulo its bytes
pub record IsMask (part : Chip) (mask : ℕ) : Type 0 where
  pub words : (n : ℕ) → bit_and n mask ≡ n % words_of part
  pub bytes : (n : ℕ) → bit_and n (2 * mask + 1) ≡ n % flash_bytes part
