-- Images by name and content.
use Rattle.std.specs.Prelude.{◌≡◌, ◌≤◌, ℕ, Bool, false, eqb, nat_le, if◌then◌else◌, List, codes, Result, Ok, Err, IsOk, Vec, length}
use Rattle.std.specs.List.{ends_with}
use Rattle.std.specs.declared.alloc.Global.{Global}
use Rattle.part_spec.specs.Chip.{Chip}
use Rattle.image_hex.specs.Hex.{hex_image}
use Rattle.image_hex.specs.Raw.{raw_image}
use Rattle.image_hex.specs.declared.error.ImageError.{ImageError}
use Rattle.image_hex.specs.declared.error.ImageError.TheVariants.{TooLarge, Memory}

-- the most bytes that an image may have
abbrev pub content_limit : ℕ
content_limit = 1048576

-- a name that ends in `.hex` is that of a text
abbrev pub is_hex : (name : List ℕ) → Bool
is_hex name = ends_with eqb name (codes ".hex")

-- the words that an image gives, or what is wrong with it; a content that is too large is so before all else
abbrev pub image_of : Chip → (name content : List ℕ) → Result (List ℕ) ImageError
image_of part name content =
    if nat_le (length content) content_limit then
    (if is_hex name then hex_image part content else raw_image part content)
    else Err TooLarge

-- memory is taken for a text that is not too large, and for a raw image that is right
pub record NeedsMemory (part : Chip) (name content : List ℕ) : Type 0 where
  pub limit : length content ≤ content_limit
  pub right : is_hex name ≡ false → IsOk (raw_image part content)

-- a reader answers so; it may also find no memory
abbrev pub Answers : Result (Vec ℕ Global) ImageError → Result (List ℕ) ImageError → Type 0
Answers (Ok words) wanted = wanted ≡ Ok words.items
Answers (Err Memory) wanted = Unit {0}
Answers (Err error) wanted = wanted ≡ Err error
