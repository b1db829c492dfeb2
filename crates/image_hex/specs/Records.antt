-- The records of Intel HEX.
use Rattle.std.specs.Prelude.{ℕ, ◌+◌, ◌*◌, ◌%◌, ◌==◌, ◌&&◌, ◌||◌, if◌then◌else◌, List, [], ◌∷◌, length, take, sum, Option, None, Some, Result, Ok, Err}
use Rattle.hex.specs.Hex.{decode_of}
use Rattle.hex.specs.declared.error.FromHexError.{FromHexError}
use Rattle.image_hex.specs.declared.error.ImageError.{ImageError}
use Rattle.image_hex.specs.declared.error.ImageError.TheVariants.{BadRecord, BadSum}

-- the character before the digits, `:`
abbrev pub colon : ℕ
colon = 0x3a

-- what a record says: bytes from an address on (type 00), the end (01), a new base (02 and 04), or where a program starts (03 and 05)
pub data Record : Type 0 where
  gives : (address : ℕ) (bytes : List ℕ) → Record
  ends : Record
  bases : (base : ℕ) → Record
  starts : Record

-- two bytes as a number, the high one first
abbrev pub number_of : List ℕ → ℕ
number_of [] = 0
number_of (high ∷ []) = 0
number_of (high ∷ low ∷ bytes) = 256 * high + low

-- the record of a type with these bytes behind its address, where the type is known and has so many
abbrev pub record_of : (kind address : ℕ) → List ℕ → Option Record
record_of kind address bytes =
    if kind == 0 then Some (gives address bytes)
    else if (kind == 1) && (length bytes == 0) then Some ends
    else if (kind == 2) && (length bytes == 2) then Some (bases (16 * number_of bytes))
    else if (kind == 4) && (length bytes == 2) then Some (bases (65536 * number_of bytes))
    else if ((kind == 3) || (kind == 5)) && (length bytes == 4) then Some starts
    else None

-- the record of the bytes of a line: count, address, type, so many bytes, and the sum's byte
abbrev pub record_in : List ℕ → Option Record
record_in (count ∷ high ∷ low ∷ kind ∷ behind) =
    if length behind == count + 1 then record_of kind (256 * high + low) (take count behind) else None
record_in _ = None

-- what was decoded, if all of it were digits, two for each byte
abbrev pub decoded : Result (List ℕ) FromHexError → Option (List ℕ)
decoded (Ok bytes) = Some bytes
decoded (Err error) = None

-- the bytes of a line: a colon, and two digits for each byte
abbrev pub bytes_in : List ℕ → Option (List ℕ)
bytes_in [] = None
bytes_in (first ∷ digits) = if first == colon then decoded (decode_of digits) else None

-- the record, if there is one, and the sum of all its bytes is 0 modulo 256
abbrev pub summed : (number : ℕ) → List ℕ → Option Record → Result Record ImageError
summed number bytes None = Err (BadRecord number)
summed number bytes (Some record_) = if sum bytes % 256 == 0 then Ok record_ else Err (BadSum number)

-- the record of the bytes of a line, if it has bytes
abbrev pub told : (number : ℕ) → Option (List ℕ) → Result Record ImageError
told number None = Err (BadRecord number)
told number (Some bytes) = summed number bytes (record_in bytes)

-- the record of the line with this number, or what is wrong with it
abbrev pub record_at : (number : ℕ) → (line : List ℕ) → Result Record ImageError
record_at number line = told number (bytes_in line)
