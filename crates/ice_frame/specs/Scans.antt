-- What a scan keeps of the bytes that it was given.
use Rattle.std.specs.Prelude.{◌≡◌, ℕ, ◌+◌, ◌*◌, ◌==◌, List, [], ◌∷◌, length, take, slice_index, if◌then◌else◌}
use Rattle.std.specs.Int.{w32, from_le_bytes}
use Rattle.line_spec.specs.Check.{check}
use Rattle.line_spec.specs.Frames.{IsPartial}

-- how many bytes there were, the size that they show, and the check of what stands before the check
pub record Kept : Type 0 where
  pub seen : ℕ
  pub size : ℕ
  pub register : ℕ

-- the size of the body, with 0 for each of its bytes that is missing
abbrev pub size_in : List ℕ → ℕ
size_in bytes = from_le_bytes w32 (slice_index bytes 3 ∷ slice_index bytes 4 ∷ slice_index bytes 5 ∷ slice_index bytes 6 ∷ [])

-- the scan that stands for the bytes
unfoldable pub scan_of : List ℕ → Kept
scan_of bytes = record { seen = length bytes; size = size_in bytes; register = check (take (8 + size_in bytes) bytes) }

-- the scan stands for less than a frame: its last answer was that more is missing, or none was given
abbrev pub IsGoing : Kept → Type 0
IsGoing scan = (bytes : List ℕ) × (scan ≡ scan_of bytes) × IsPartial bytes

-- the size with the byte at that place of the header
abbrev pub size_more : ℕ → ℕ → ℕ → ℕ
size_more place size byte =
    if place == 3 then size + byte
    else if place == 4 then size + byte * 0x100
    else if place == 5 then size + byte * 0x10000
    else if place == 6 then size + byte * 0x1000000
    else size

-- the byte that stands at that place of a header; numbers and sizes have any
abbrev pub header_byte : ℕ → ℕ → ℕ
header_byte place byte = if place == 0 then 0x1B else if place == 7 then 0x0E else byte
