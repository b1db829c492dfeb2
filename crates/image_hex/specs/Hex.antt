-- What an Intel HEX text gives.
use Rattle.std.specs.Prelude.{ℕ, ◌+◌, List, [], ◌∷◌, map, replicate, Option, None, Some, Result, Ok, Err, slice_get, slice_set, unwrap_or}
use Rattle.part_spec.specs.Chip.{Chip, flash_bytes}
use Rattle.part_spec.specs.Pages.{paired}
use Rattle.image_hex.specs.Lines.{lines_of}
use Rattle.image_hex.specs.Records.{Record, gives, ends, bases, starts, record_at}
use Rattle.image_hex.specs.declared.error.ImageError.{ImageError}
use Rattle.image_hex.specs.declared.error.ImageError.TheVariants.{BadRecord, TooLarge, Overlap}

-- each byte of a flash, None where none was given yet
abbrev pub Flash : Type 0
Flash = List (Option ℕ)

-- an image while it is read: the base of addresses, and the bytes so far
pub record Filling : Type 0 where
  pub base : ℕ
  pub bytes : Flash

-- what a text comes to: a flash, or what is wrong with its first wrong line
abbrev pub Outcome : Type 0
Outcome = Result Flash ImageError

-- the next step, unless the one before was an error
abbrev pub onward : {A B : Type 0} → Result A ImageError → (A → Result B ImageError) → Result B ImageError
onward (Ok value) step = step value
onward (Err error) step = Err error

-- the flash with a byte more, by what stands at its address
abbrev pub placed_over : Option (Option ℕ) → Flash → (address byte : ℕ) → Outcome
placed_over None flash address byte = Err TooLarge
placed_over (Some None) flash address byte = Ok (slice_set flash address (Some byte))
placed_over (Some (Some earlier)) flash address byte = Err (Overlap address)

-- the flash with a byte more
abbrev pub placed : Flash → (address byte : ℕ) → Outcome
placed flash address byte = placed_over (slice_get flash address) flash address byte

-- the flash with all the bytes from an address on
abbrev pub all_placed : List ℕ → (address : ℕ) → Flash → Outcome
all_placed [] address flash = Ok flash
all_placed (byte ∷ bytes) address flash = onward (placed flash address byte) (all_placed bytes (address + 1))

-- what a record does to an image; the lines behind it go on with what it makes of it, and are not read behind the end
abbrev pub effect : Record → Filling → (Filling → Outcome) → Outcome
effect (gives address bytes) image behind =
    onward (all_placed bytes (image.base + address) image.bytes) (λ flash. behind (record image { bytes = flash }))
effect ends image behind = Ok image.bytes
effect (bases base) image behind = behind (record image { base = base })
effect starts image behind = behind image

-- what the line with a number does; an empty one does nothing
abbrev pub line_effect : (number : ℕ) → (line : List ℕ) → Filling → (Filling → Outcome) → Outcome
line_effect number [] image behind = behind image
line_effect number (first ∷ others) image behind =
    onward (record_at number (first ∷ others)) (λ record_. effect record_ image behind)

-- the flash that the lines from a number on leave; they must come to a record that ends the image
abbrev pub filled : List (List ℕ) → (number : ℕ) → Filling → Outcome
filled [] number image = Err (BadRecord number)
filled (line ∷ lines) number image = line_effect number line image (filled lines (number + 1))

-- nothing was given yet, from address 0 on
abbrev pub unfilled : Chip → Filling
unfilled part = record { base = 0; bytes = replicate (flash_bytes part) None }

-- a byte that was given, or that of an erased flash
abbrev pub or_erased : Option ℕ → ℕ
or_erased byte = unwrap_or byte 0xff

-- the words of a flash
abbrev pub words_in : Flash → List ℕ
words_in flash = paired (map or_erased flash)

-- the words that a text gives
abbrev pub hex_image : Chip → (text : List ℕ) → Result (List ℕ) ImageError
hex_image part text = onward (filled (lines_of text) 1 (unfilled part)) (λ flash. Ok (words_in flash))
