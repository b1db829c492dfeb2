-- What a word may be as an operand.
use Rattle.std.specs.Prelude.{ℕ, ◌+◌, ◌*◌, ◌%◌, ◌==◌, ◌&&◌, nat_le, if◌then◌else◌, List, [], ◌∷◌, length, codes, find, Option, None, Some}
use Rattle.std.specs.List.{list_all}
use Rattle.std.specs.Str.{bytes_eq}
use Rattle.hex.specs.Hex.{hex_digit_value, is_hex_digit}
use Rattle.shell_spec.specs.declared.space.Space.{Space}
use Rattle.shell_spec.specs.declared.space.Space.TheVariants.{Sram, Io, Flash, Page, Fuse, Lock, Sig}

-- a number with one digit more, if it is a hexadecimal digit, of either case
abbrev pub with_digit : Option ℕ → Option ℕ → Option ℕ
with_digit (Some number) (Some value) = Some (16 * number + value)
with_digit None digit = None
with_digit (Some number) None = None

-- the number so far, with these digits behind it
abbrev pub number_on : Option ℕ → (digits : List ℕ) → Option ℕ
number_on number [] = number
number_on number (digit ∷ digits) = number_on (with_digit number (hex_digit_value digit)) digits

-- a number, if it is at most this one
abbrev pub at_most : (most : ℕ) → Option ℕ → Option ℕ
at_most most None = None
at_most most (Some number) = if nat_le number most then Some number else None

-- the number that a word is: 1 to 8 hexadecimal digits, with a value of at most so much
abbrev pub number_of : (most : ℕ) → (word : List ℕ) → Option ℕ
number_of most word = if nat_le 1 (length word) && nat_le (length word) 8 then at_most most (number_on (Some 0) word) else None

-- the greatest number of 8 digits
abbrev pub any_number : ℕ
any_number = 0xffffffff

-- the digits of bytes, two for each, in either case: at least and at most so many
abbrev pub digits_of : (least most : ℕ) → (word : List ℕ) → Option (List ℕ)
digits_of least most word =
    if nat_le least (length word) && nat_le (length word) most && (length word % 2 == 0) && list_all is_hex_digit word then Some word
    else None

-- the word for a memory
abbrev pub name_of_space : Space → List ℕ
name_of_space Sram = codes "sram"
name_of_space Io = codes "io"
name_of_space Flash = codes "flash"
name_of_space Page = codes "page"
name_of_space Fuse = codes "fuse"
name_of_space Lock = codes "lock"
name_of_space Sig = codes "sig"

-- its memory type on the line (AVR067, 'Memory types')
abbrev pub kind_of : Space → ℕ
kind_of Sram = 0x20
kind_of Io = 0x30
kind_of Flash = 0xa0
kind_of Page = 0xb0
kind_of Fuse = 0xb2
kind_of Lock = 0xb3
kind_of Sig = 0xb4

-- the memories that a line may read
abbrev pub readable : List Space
readable = Sram ∷ Io ∷ Flash ∷ Page ∷ Fuse ∷ Lock ∷ Sig ∷ []

-- the memories that a line may write
abbrev pub writable : List Space
writable = Sram ∷ Io ∷ []

-- the memory, among these, that a word names
abbrev pub space_of : List Space → (word : List ℕ) → Option Space
space_of spaces word = find (λ space. bytes_eq (name_of_space space) word) spaces
