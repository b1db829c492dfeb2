-- Raw images.
use Rattle.std.specs.Prelude.{ℕ, ◌-◌, ◌%◌, ◌==◌, nat_le, if◌then◌else◌, List, ◌++◌, length, replicate, Result, Ok, Err}
use Rattle.part_spec.specs.Chip.{Chip, words_of, flash_bytes}
use Rattle.part_spec.specs.Pages.{paired}
use Rattle.image_hex.specs.declared.error.ImageError.{ImageError}
use Rattle.image_hex.specs.declared.error.ImageError.TheVariants.{TooLarge, Odd}

-- the words of some bytes, low byte first, and FFFF behind them
abbrev pub program_of : Chip → List ℕ → List ℕ
program_of part bytes = paired bytes ++ replicate (words_of part - length (paired bytes)) 0xffff

-- the words that a raw image gives; one that is too large is so before it is odd
abbrev pub raw_image : Chip → List ℕ → Result (List ℕ) ImageError
raw_image part bytes =
    if nat_le (length bytes) (flash_bytes part) then (if length bytes % 2 == 0 then Ok (program_of part bytes) else Err Odd)
    else Err TooLarge
