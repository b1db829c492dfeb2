-- Which row a word has, and the instruction that a pair of words is. Source: AVR Instruction Set Manual.
use Rattle.std.specs.Prelude.{ℕ, ◌+◌, ◌*◌, ◌/◌, ◌%◌, Bool, true, false, ◌==◌, if◌then◌else◌, List, [], ◌∷◌, Option, Some, None}
use Rattle.avr_spec.specs.declared.instruction.Instr.{Instr}
use Rattle.avr_spec.specs.declared.instruction.Instr.TheVariants.{Lds, Sts, Jmp, Call, Cpse, Sbic, Sbis, Sbrc, Sbrs, Undefined}
use Rattle.avr_spec.specs.Table.{Row, table}

-- the 16 bits of a word, most significant first
abbrev pub bits : ℕ → List ℕ
bits w =
    w / 0x8000 % 2 ∷ w / 0x4000 % 2 ∷ w / 0x2000 % 2 ∷ w / 0x1000 % 2 ∷
    w / 0x800 % 2 ∷ w / 0x400 % 2 ∷ w / 0x200 % 2 ∷ w / 0x100 % 2 ∷
    w / 0x80 % 2 ∷ w / 0x40 % 2 ∷ w / 0x20 % 2 ∷ w / 0x10 % 2 ∷
    w / 8 % 2 ∷ w / 4 % 2 ∷ w / 2 % 2 ∷ w % 2 ∷ []

-- the characters that have a meaning in a row: a blank, and the two fixed bits
abbrev pub blank : ℕ
blank = 32

abbrev pub fixed_zero : ℕ
fixed_zero = 48

abbrev pub fixed_one : ℕ
fixed_one = 49

-- a bit is as a letter fixes it; a letter of a field fixes none
abbrev pub agrees : ℕ → ℕ → Bool
agrees letter bit =
    elim (letter == fixed_zero) [ true ↦ bit == 0 | false ↦ elim (letter == fixed_one) [ true ↦ bit == 1 | false ↦ true ] ]

-- the first of these bits agrees with the letter, and the rest fit
abbrev pub next_fits : ℕ → (List ℕ → Bool) → List ℕ → Bool
next_fits letter rest [] = false
next_fits letter rest (bit ∷ bits) = elim (agrees letter bit) [ true ↦ rest bits | false ↦ false ]

-- these bits have the fixed bits of these letters
abbrev pub fits : List ℕ → List ℕ → Bool
fits [] bits = true
fits (letter ∷ letters) bits = elim (letter == blank) [ true ↦ fits letters bits | false ↦ next_fits letter (fits letters) bits ]

-- a field's number so far and one bit more, where that bit belongs to the field
abbrev pub next_field : ℕ → ℕ → (ℕ → List ℕ → ℕ) → ℕ → List ℕ → ℕ
next_field wanted letter rest so_far [] = so_far
next_field wanted letter rest so_far (bit ∷ bits) = rest (if letter == wanted then 2 * so_far + bit else so_far) bits

-- the number that the bits under one letter make, most significant first, behind what is there so far
abbrev pub field_from : ℕ → List ℕ → ℕ → List ℕ → ℕ
field_from wanted [] so_far bits = so_far
field_from wanted (letter ∷ letters) so_far bits =
    elim (letter == blank) [
      | true ↦ field_from wanted letters so_far bits
      | false ↦ next_field wanted letter (field_from wanted letters) so_far bits
    ]

-- the number that the bits under one letter make
abbrev pub field_of : List ℕ → ℕ → ℕ → ℕ
field_of letters w wanted = field_from wanted letters 0 (bits w)

-- the first of these rows whose fixed bits these bits have
abbrev pub find_row : List Row → List ℕ → Option Row
find_row [] bits = None
find_row (row ∷ rows) bits = elim (fits row.letters bits) [ true ↦ Some row | false ↦ find_row rows bits ]

-- the instruction of a row, if there is one
abbrev pub instr_of : Option Row → ℕ → ℕ → Instr
instr_of None first second = Undefined first
instr_of (Some row) first second = row.instr (field_of row.letters first) second

-- the instruction that a first word and the word behind it are
unfoldable pub decode : ℕ → ℕ → Instr
decode first second = instr_of (find_row table (bits first)) first second

-- the words of an instruction
abbrev pub words : Instr → ℕ
words (Lds d address) = 2
words (Sts r address) = 2
words (Jmp k) = 2
words (Call k) = 2
words _ = 1

-- a first word begins a two-word instruction
abbrev pub two_word : ℕ → Bool
two_word first = words (decode first 0) == 2

-- an instruction may skip the next one
abbrev pub skips : Instr → Bool
skips (Cpse d r) = true
skips (Sbic a b) = true
skips (Sbis a b) = true
skips (Sbrc r b) = true
skips (Sbrs r b) = true
skips _ = false

-- a first word is that of an instruction that may skip the next one
abbrev pub is_skip : ℕ → Bool
is_skip first = skips (decode first 0)
