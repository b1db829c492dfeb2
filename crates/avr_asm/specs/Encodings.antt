-- What the code's settings stand for, and what an entry has to be for its words to fit.
use Rattle.std.specs.Prelude.{◌≡◌, ℕ, ◌+◌, ◌<◌, ◌≤◌, ◌^◌, ◌==◌, ◌&&◌, ⊤, Bool, true, nat_le, if◌then◌else◌, List, [], ◌∷◌}
use Rattle.std.specs.List.{list_all}
use Rattle.part_spec.specs.Chip.{Chip, words_of}
use Rattle.asm_spec.specs.Forms.{Operand, register, byte, bit, exact, displacement, distance, address, target}
use Rattle.asm_spec.specs.Reading.{Meaning, value, outside, label, Meant, Item, plain, coded, Order, nothing, origin, put}
use Rattle.asm_spec.specs.Words.{Entry, Fields, bits_in, size_of, word_of}
use Rattle.avr_asm.specs.declared.fields.Made.{Made}
use Rattle.avr_asm.specs.declared.fields.Setting.{Setting}
use Rattle.avr_asm.specs.declared.fields.Setting.TheVariants.{Nothing, Field, Second, Both}
use Rattle.avr_asm.specs.declared.fields.Settings.{Settings}

-- fields with what an operand sets
abbrev pub set_by : Setting → Fields → Fields
set_by Nothing fields = fields
set_by (Field letter n) fields = record fields { field = λ other. if other == letter then n else fields.field other }
set_by (Second word) fields = record fields { second = word }
set_by (Both letter n word) fields = record { field = λ other. if other == letter then n else fields.field other; second = word }

-- no field
abbrev pub unset : Fields
unset = record { field = λ letter. 0; second = 0 }

-- the fields that the operands set
abbrev pub fields_told : Settings → Fields
fields_told settings = set_by settings.left (set_by settings.right unset)

-- a value fits the second word where it is all of it
abbrev pub FitsSecond : Operand → ℕ → Type 0
FitsSecond (register named letter) n = ⊤
FitsSecond (byte letter) n = ⊤
FitsSecond (bit letter) n = ⊤
FitsSecond (exact shown) n = ⊤
FitsSecond (displacement pointer letter) n = ⊤
FitsSecond (distance values letter) n = ⊤
FitsSecond address n = n < 0x10000
FitsSecond (target letter) n = ⊤

-- the letters of a word of 16 bits, with blanks
abbrev pub is_row : (letters : List ℕ) → Bool
is_row letters = (bits_in letters == 16) && list_all (λ letter. nat_le 0x20 letter) letters

-- the word that letters make of fields, and the weight of the bit in front of them
pub record IsMade (field : ℕ → ℕ) (letters : List ℕ) (made : Made) : Type 0 where
  pub word : made.word ≡ word_of letters field
  pub weight : made.weight ≡ 2 ^ bits_in letters
  pub less : made.word < made.weight

-- what an operand means fits the second word
abbrev pub FitsMeaning : Operand → Meaning → Type 0
FitsMeaning operand (value n) = FitsSecond operand n
FitsMeaning operand outside = ⊤
FitsMeaning operand (label name) = ⊤

abbrev pub FitMeanings : List Meant → Type 0
FitMeanings [] = ⊤
FitMeanings (meant ∷ more) = FitsMeaning meant.operand meant.meaning × FitMeanings more

-- the words of an item fit
abbrev pub FitsItem : Item → Type 0
FitsItem (plain word) = ⊤
FitsItem (coded letters operands) = (is_row letters ≡ true) × FitMeanings operands

abbrev pub FitsOrder : Order → Type 0
FitsOrder nothing = ⊤
FitsOrder (origin place) = ⊤
FitsOrder (put item) = FitsItem item

-- an entry inside of the flash, whose words fit
pub record FitsEntry (part : Chip) (entry : Entry) : Type 0 where
  pub within : entry.place + size_of entry.item ≤ words_of part
  pub item : FitsItem entry.item

abbrev pub FitEntries : Chip → List Entry → Type 0
FitEntries part [] = ⊤
FitEntries part (entry ∷ earlier) = FitsEntry part entry × FitEntries part earlier
