-- Operands are read as what they are printed of.
use Rattle.std.proofs.Common.{◌≡◌, ℕ, ◌==◌, ◌&&◌, Bool, true, false, List, ◌++◌, take, drop, refl, ap, subst, eqb-true}
use Rattle.std.specs.Fmt.{digits}
use Rattle.std.specs.Prelude.{not, Option, None, Some}
use Rattle.std.specs.List.{list_all}
use Rattle.part_spec.specs.Chip.{m16}
use Rattle.avr_spec.specs.Decode.{blank}
use Rattle.avr_spec.specs.Table.{Row}
use Rattle.avr_spec.proofs.Computing.{all_below}
use Rattle.asm_spec.specs.Forms.{Operand, register, byte, bit, exact, displacement, distance, address, target, Form, printed}
use Rattle.asm_spec.specs.Reading.{Meaning, value, outside, label, limit_of, meaning}
use Rattle.asm_spec.proofs.Tests.{all_append}
use Rattle.asm_spec.proofs.CleanTexts.{is_clean_text}
use Rattle.asm_spec.proofs.FieldWords.{value_in}
use Rattle.asm_spec.proofs.RowForms.{rows}

-- a meaning is this value
abbrev pub is_value : ℕ → Option Meaning → Bool
is_value n None = false
is_value n (Some (value m)) = m == n
is_value n (Some outside) = false
is_value n (Some (label name)) = false

pub value_from : (n : ℕ) (meaning : Option Meaning) → is_value n meaning ≡ true → meaning ≡ Some (value n)
value_from n None h = cc
value_from n (Some (value m)) h = ap (λ (k : ℕ). Some (value k)) (eqb-true m n h)
value_from n (Some outside) h = cc
value_from n (Some (label name)) h = cc

-- the letter of an operand; one without a letter has 0
abbrev pub letter_of : Operand → ℕ
letter_of (register named letter) = letter
letter_of (byte letter) = letter
letter_of (bit letter) = letter
letter_of (exact shown) = 0
letter_of (displacement pointer letter) = letter
letter_of (distance values letter) = letter
letter_of address = 0
letter_of (target letter) = letter

-- how many values are tried: none of an address, whose digits are read back one by one
abbrev pub choices : (letters : List ℕ) → Operand → ℕ
choices letters (exact shown) = 1
choices letters address = 0
choices letters (target letter) = 0
choices letters operand = limit_of letters (letter_of operand)

-- the value is read back of what is printed of it
abbrev pub is_back : (letters : List ℕ) → Operand → ℕ → Bool
is_back letters operand n =
    is_value (value_in (λ letter. n) 0 operand) (meaning m16 letters operand (printed m16 (λ letter. n) 0 operand)) &&
    is_clean_text (printed m16 (λ letter. n) 0 operand)

abbrev pub reads_back : (letters : List ℕ) → Operand → Bool
reads_back letters operand = not (letter_of operand == blank) && all_below (choices letters operand) (is_back letters operand)

-- the operands of an entry are read back
abbrev pub entry_back : Row × Form → Bool
entry_back entry = list_all (reads_back entry.0.letters) entry.1.operands

first_back : list_all entry_back (take 40 rows) ≡ true
unfolding digits
first_back = refl

second_back : list_all entry_back (take 37 (drop 40 rows)) ≡ true
unfolding digits
second_back = refl

jump_back : list_all entry_back (take 1 (drop 77 rows)) ≡ true
unfolding digits
jump_back = refl

call_back : list_all entry_back (take 1 (drop 78 rows)) ≡ true
unfolding digits
call_back = refl

last_back : list_all entry_back (drop 79 rows) ≡ true
unfolding digits
last_back = refl

-- all entries are read back
pub rows_read_back : list_all entry_back rows ≡ true
rows_read_back =
    let from_78 : list_all entry_back (take 1 (drop 78 rows) ++ drop 79 rows) ≡ true =
    all_append entry_back (take 1 (drop 78 rows)) (drop 79 rows) call_back last_back in
    let from_77 : list_all entry_back (take 1 (drop 77 rows) ++ (take 1 (drop 78 rows) ++ drop 79 rows)) ≡ true =
    all_append entry_back (take 1 (drop 77 rows)) (take 1 (drop 78 rows) ++ drop 79 rows) jump_back from_78 in
    let from_40 : list_all entry_back (take 37 (drop 40 rows) ++ (take 1 (drop 77 rows) ++ (take 1 (drop 78 rows) ++ drop 79 rows))) ≡ true =
    all_append entry_back (take 37 (drop 40 rows)) (take 1 (drop 77 rows) ++ (take 1 (drop 78 rows) ++ drop 79 rows)) second_back from_77 in
    subst (λ (l : List (Row × Form)). list_all entry_back l ≡ true) pieces
    (all_append entry_back (take 40 rows) (take 37 (drop 40 rows) ++ (take 1 (drop 77 rows) ++ (take 1 (drop 78 rows) ++ drop 79 rows)))
    first_back from_40)
  where
    pieces : take 40 rows ++ (take 37 (drop 40 rows) ++ (take 1 (drop 77 rows) ++ (take 1 (drop 78 rows) ++ drop 79 rows))) ≡ rows
    pieces = refl
