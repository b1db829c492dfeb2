-- The words of a text, or its first error.
use Rattle.std.specs.Prelude.{ℕ, zero, suc, ◌+◌, ◌-◌, ◌*◌, ◌/◌, ◌%◌, ◌^◌, ◌==◌, ◌&&◌, Bool, true, false, max, nat_le, nat_lt, if◌then◌else◌}
use Rattle.std.specs.Prelude.{List, [], ◌∷◌, length, take, count_by, find, slice_index, Option, None, Some, option_map, Result, Ok, Err}
use Rattle.std.specs.List.{slice_split}
use Rattle.std.specs.Str.{bytes_eq}
use Rattle.part_spec.specs.Chip.{Chip, words_of}
use Rattle.asm_spec.specs.declared.kind.AsmKind.{AsmKind}
use Rattle.asm_spec.specs.declared.kind.AsmKind.TheVariants.{Twice, Place, Overlap, Name, Far}
use Rattle.asm_spec.specs.Forms.{Operand, register, byte, bit, exact, displacement, distance, address, target}
use Rattle.asm_spec.specs.Listing.{erased}
use Rattle.asm_spec.specs.Reading.{Meaning, value, outside, label, Meant, Item, plain, coded, Order, nothing, origin, put, Line, reading}

-- a line without a carriage return at its end
abbrev pub without_return : List ℕ → List ℕ
without_return [] = []
without_return (last ∷ []) = if last == 0x0d then [] else last ∷ []
without_return (first ∷ second ∷ more) = first ∷ without_return (second ∷ more)

-- the lines among parts with a line feed between each two of them: a carriage return before a line feed belongs to the end of the line
abbrev pub lines_among : List (List ℕ) → List (List ℕ)
lines_among [] = []
lines_among (last ∷ []) = last ∷ []
lines_among (line ∷ next ∷ more) = without_return line ∷ lines_among (next ∷ more)

-- the lines of a text
abbrev pub lines_of : (text : List ℕ) → List (List ℕ)
lines_of text = lines_among (slice_split (λ other. other == 0x0a) text)

-- an error, with the number of its line from 1
pub record Fault : Type 0 where
  pub line : ℕ
  pub kind : AsmKind

-- what comes next, unless there was an error in this line
abbrev pub onward : {A B : Type 0} → (line : ℕ) → Result A AsmKind → (A → Result B Fault) → Result B Fault
onward line (Ok result) next = next result
onward line (Err kind) next = Err (record { line = line; kind = kind })

-- a label and its place
pub record Label : Type 0 where
  pub name : List ℕ
  pub place : ℕ

-- what a line puts at a place
pub record Entry : Type 0 where
  pub line : ℕ
  pub place : ℕ
  pub item : Item

-- the place reached, the labels so far, and what was put, the last one first
pub record Laid : Type 0 where
  pub place : ℕ
  pub labels : List Label
  pub entries : List Entry

-- before the first line
abbrev pub start : Laid
start = record { place = 0; labels = []; entries = [] }

-- an operand is the second word, or a part of it
abbrev pub is_second : Meant → Bool
is_second meant = is_second_operand meant.operand
  where
    is_second_operand : Operand → Bool
    is_second_operand address = true
    is_second_operand (target letter) = true
    is_second_operand _ = false

-- the words of an item
abbrev pub size_of : Item → ℕ
size_of (plain word) = 1
size_of (coded letters operands) = 1 + count_by is_second operands

-- the place of a label
abbrev pub place_of : List Label → (name : List ℕ) → Option ℕ
place_of labels name = option_map (λ label. label.place) (find (λ label. bytes_eq label.name name) labels)

-- with one label more, which no earlier line has
abbrev pub with_label : Option (List ℕ) → Laid → Result Laid AsmKind
with_label None laid = Ok laid
with_label (Some name) laid = with_new (place_of laid.labels name) name laid
  where
    with_new : Option ℕ → List ℕ → Laid → Result Laid AsmKind
    with_new (Some place) name laid = Err Twice
    with_new None name laid = Ok (record laid { labels = record { name = name; place = laid.place } ∷ laid.labels })

-- two items share a word
abbrev pub overlaps : (place size : ℕ) → Entry → Bool
overlaps place size entry = nat_lt entry.place (place + size) && nat_lt place (entry.place + size_of entry.item)

-- with what a statement does: an item is put at the place, and moves it on by its words; an `.org` sets it
abbrev pub with_order : Chip → (line : ℕ) → Order → Laid → Result Laid AsmKind
with_order part line nothing laid = Ok laid
with_order part line (origin place) laid = if nat_lt place (words_of part) then Ok (record laid { place = place }) else Err Place
with_order part line (put item) laid =
    if nat_lt (words_of part) (laid.place + size_of item) then Err Place
    else if nat_lt 0 (count_by (overlaps laid.place (size_of item)) laid.entries) then Err Overlap
    else Ok (record laid {
      place = laid.place + size_of item;
      entries = record { line = line; place = laid.place; item = item } ∷ laid.entries;
    })

-- with what a line says
abbrev pub with_line : Chip → (number : ℕ) → Line → Laid → Result Laid AsmKind
with_line part number line laid = and_order (with_label line.label laid)
  where
    and_order : Result Laid AsmKind → Result Laid AsmKind
    and_order (Ok named) = with_order part number line.order named
    and_order (Err kind) = Err kind

-- with what these lines say, of which the first has this number
abbrev pub laid_on : Chip → (number : ℕ) → Laid → List (List ℕ) → Result Laid Fault
laid_on part number laid [] = Ok laid
laid_on part number laid (line ∷ lines) =
    onward number (reading part line) (λ said.
    onward number (with_line part number said laid) (λ more. laid_on part (number + 1) more lines))

-- the distance to a label's place from the word behind the instruction, as two's complement of so many values
abbrev pub distance_to : (values next place : ℕ) → Result ℕ AsmKind
distance_to values next place =
    if nat_le next place then (if nat_lt (place - next) (values / 2) then Ok (place - next) else Err Far)
    else (if nat_le (next - place) (values / 2) then Ok (values - (next - place)) else Err Far)

-- the value of an operand that is the place of a label; no operand of another kind is
abbrev pub at_label : Chip → (next : ℕ) → Operand → Option ℕ → Result ℕ AsmKind
at_label part next operand None = Err Name
at_label part next (distance values letter) (Some place) = distance_to values next place
at_label part next (target letter) (Some place) = if nat_lt place (words_of part) then Ok place else Err Far
at_label part next operand (Some place) = Ok place

-- the value of an operand, by the labels of all lines
abbrev pub value_of : Chip → List Label → (next : ℕ) → Operand → Meaning → Result ℕ AsmKind
value_of part labels next operand (value n) = Ok n
value_of part labels next operand outside = Ok 0
value_of part labels next operand (label name) = at_label part next operand (place_of labels name)

-- the fields of a row, by their letters, and the second word
pub record Fields : Type 0 where
  pub field : ℕ → ℕ
  pub second : ℕ

-- a field set
abbrev pub setting : (letter n : ℕ) → Fields → Fields
setting letter n fields = record fields { field = λ other. if other == letter then n else fields.field other }

-- an operand's field set to its value; the address of a jump is a field and the second word
abbrev pub with_value : Operand → ℕ → Fields → Fields
with_value (register named letter) n fields = setting letter n fields
with_value (byte letter) n fields = setting letter n fields
with_value (bit letter) n fields = setting letter n fields
with_value (exact shown) n fields = fields
with_value (displacement pointer letter) n fields = setting letter n fields
with_value (distance values letter) n fields = setting letter n fields
with_value address n fields = record fields { second = n }
with_value (target letter) n fields = setting letter (n / 0x10000) (record fields { second = n % 0x10000 })

-- the fields that operands set, or that a label is missing or too far
abbrev pub fields_of : Chip → List Label → (next : ℕ) → List Meant → Result Fields AsmKind
fields_of part labels next [] = Ok (record { field = λ letter. 0; second = 0 })
fields_of part labels next (meant ∷ more) =
    and_field meant.operand (value_of part labels next meant.operand meant.meaning) (fields_of part labels next more)
  where
    and_field : Operand → Result ℕ AsmKind → Result Fields AsmKind → Result Fields AsmKind
    and_field operand (Err kind) fields = Err kind
    and_field operand (Ok n) (Err kind) = Err kind
    and_field operand (Ok n) (Ok fields) = Ok (with_value operand n fields)

-- how many bits letters stand for
abbrev pub bits_in : List ℕ → ℕ
bits_in letters = count_by (λ letter. nat_lt 0x20 letter) letters

-- the bit under a letter, with the letters behind it: as it is fixed, or of its field, whose bits stand in order
abbrev pub bit_of : (letter : ℕ) → (behind : List ℕ) → (ℕ → ℕ) → ℕ
bit_of letter behind field =
    if letter == 0x30 then 0
    else if letter == 0x31 then 1
    else field letter / 2 ^ count_by (λ other. other == letter) behind % 2

-- the word that the letters of a row and its fields make, the most significant bit first; a blank only groups letters
abbrev pub word_of : (letters : List ℕ) → (ℕ → ℕ) → ℕ
word_of [] field = 0
word_of (letter ∷ letters) field =
    if letter == 0x20 then word_of letters field else bit_of letter letters field * 2 ^ bits_in letters + word_of letters field

-- the words of an item
abbrev pub item_words : Chip → List Label → (place : ℕ) → Item → Result (List ℕ) AsmKind
item_words part labels place (plain word) = Ok (word ∷ [])
item_words part labels place (coded letters operands) =
    with_fields (size_of (coded letters operands)) letters (fields_of part labels (place + size_of (coded letters operands)) operands)
  where
    with_fields : ℕ → List ℕ → Result Fields AsmKind → Result (List ℕ) AsmKind
    with_fields size letters (Err kind) = Err kind
    with_fields size letters (Ok fields) = Ok (take size (word_of letters fields.field ∷ fields.second ∷ []))

-- words at a place
pub record Piece : Type 0 where
  pub place : ℕ
  pub words : List ℕ

-- the words of what was put, or the first line in which a label is missing or too far; the last entry comes first
abbrev pub pieces_of : Chip → List Label → List Entry → Result (List Piece) Fault
pieces_of part labels [] = Ok []
pieces_of part labels (entry ∷ earlier) = and_piece entry (pieces_of part labels earlier) (item_words part labels entry.place entry.item)
  where
    and_piece : Entry → Result (List Piece) Fault → Result (List ℕ) AsmKind → Result (List Piece) Fault
    and_piece entry (Err fault) words = Err fault
    and_piece entry (Ok pieces) (Err kind) = Err (record { line = entry.line; kind = kind })
    and_piece entry (Ok pieces) (Ok words) = Ok (record { place = entry.place; words = words } ∷ pieces)

-- the word at a place, by the pieces
abbrev pub word_at : (place : ℕ) → List Piece → ℕ
word_at place [] = erased
word_at place (piece ∷ pieces) =
    if nat_le piece.place place && nat_lt place (piece.place + length piece.words) then slice_index piece.words (place - piece.place)
    else word_at place pieces

-- so many words from a place on
abbrev pub words_from : List Piece → (place count : ℕ) → List ℕ
words_from pieces place zero = []
words_from pieces place (suc count) = word_at place pieces ∷ words_from pieces (place + 1) count

-- one more than the highest place with a word, or 0
abbrev pub used_by : List Piece → ℕ
used_by [] = 0
used_by (piece ∷ pieces) = max (piece.place + length piece.words) (used_by pieces)

-- what a text gives: the words of the part's flash, and how many there are up to the highest place given
pub record Assembly : Type 0 where
  pub words : List ℕ
  pub used : ℕ

-- the words of pieces, in the flash of a part
abbrev pub flash_of : Chip → Result (List Piece) Fault → Result Assembly Fault
flash_of part (Ok pieces) = Ok (record { words = words_from pieces 0 (words_of part); used = used_by pieces })
flash_of part (Err fault) = Err fault

-- the words of what all lines say, once their labels are known
abbrev pub settled : Chip → Result Laid Fault → Result Assembly Fault
settled part (Ok laid) = flash_of part (pieces_of part laid.labels laid.entries)
settled part (Err fault) = Err fault

-- what a text gives, or its first error: one that a line shows by itself and those before it comes first, and only where no line has
-- one, a label that is missing or too far
unfoldable pub assembly : Chip → (text : List ℕ) → Result Assembly Fault
assembly part text = settled part (laid_on part 1 start (lines_of text))

-- the bytes of words, the low one of each first
abbrev pub bytes_of : (words : List ℕ) → List ℕ
bytes_of [] = []
bytes_of (word ∷ words) = word % 256 ∷ word / 256 % 256 ∷ bytes_of words

-- the raw image of what a text gives: its words up to the highest place given
abbrev pub image_of : Assembly → List ℕ
image_of made = bytes_of (take made.used made.words)
