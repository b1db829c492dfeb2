-- The listing of a stream of bytes: a line of text for each frame, for each run of junk, and for the bytes that are held at the end.
use Rattle.std.specs.Prelude.{◌≡◌, ℕ, zero, suc, List, [], ◌∷◌, ◌++◌, length, codes}
use Rattle.std.specs.Int.{w16, to_be_bytes}
use Rattle.std.specs.Fmt.{decimal}
use Rattle.hex.specs.Hex.{encode_lower}
use Rattle.line_spec.specs.Frames.{Frame}
use Rattle.line_spec.specs.Cut.{Item, whole, junk, IsCut}
use Rattle.shell_spec.specs.Printed.{line}

-- a number of 16 bits, in four hexadecimal digits
abbrev pub four_digits : ℕ → List ℕ
four_digits number = encode_lower (to_be_bytes w16 number)

-- a body in hexadecimal digits, or `-` where it is empty
abbrev pub body_text : List ℕ → List ℕ
body_text [] = codes "-"
body_text (byte ∷ bytes) = encode_lower (byte ∷ bytes)

-- a frame: its number and its body
abbrev pub frame_text : Frame → List ℕ
frame_text frame = line (codes "frame " ++ four_digits frame.number ++ codes " " ++ body_text frame.body)

-- how many bytes of a kind there are, in decimal; nothing, where there are none
abbrev pub count_text : (kind : List ℕ) → (count : ℕ) → List ℕ
count_text kind zero = []
count_text kind (suc count) = line (kind ++ codes " " ++ decimal (suc count))

-- the lines for some items, behind a run of so many junk bytes
abbrev pub listed : (junk_bytes : ℕ) → List Item → List ℕ
listed junk_bytes [] = count_text (codes "junk") junk_bytes
listed junk_bytes (whole frame ∷ items) = count_text (codes "junk") junk_bytes ++ frame_text frame ++ listed 0 items
listed junk_bytes (junk byte ∷ items) = listed (suc junk_bytes) items

-- the listing of a cut
abbrev pub listing : List Item → (rest : List ℕ) → List ℕ
listing items rest = listed 0 items ++ count_text (codes "rest") (length rest)

-- the text is the listing of the bytes
pub record IsListing (bytes text : List ℕ) : Type 0 where
  pub items : List Item
  pub rest : List ℕ
  pub cut : IsCut bytes items rest
  pub is : text ≡ listing items rest
