-- The words that an instruction's operands give, where they have the values of the fields.
use Rattle.std.proofs.Common.{◌≡◌, ℕ, ◌+◌, ◌*◌, ◌%◌, ◌<◌, List, [], ◌∷◌, map, slice_get, take, refl, ap, ◌∙◌}
use Rattle.std.specs.Prelude.{Some, Ok}
use Rattle.std.proofs.lemmas.Nat.{div-mul-add, mod-mul-add}
use Rattle.part_spec.specs.Chip.{Chip}
use Rattle.avr_spec.specs.Table.{Row}
use Rattle.avr_spec.specs.Decode.{words}
use Rattle.asm_spec.specs.Forms.{Operand, register, byte, bit, exact, displacement, distance, address, target, Form}
use Rattle.asm_spec.specs.Reading.{value, Meant, coded}
use Rattle.asm_spec.specs.Words.{Fields, Label, fields_of, item_words, setting, size_of, with_value, word_of}
use Rattle.asm_spec.proofs.RowForms.{rows, same_at}

-- the value of an operand, by the fields and the second word
abbrev pub value_in : (fields : ℕ → ℕ) → (second : ℕ) → Operand → ℕ
value_in fields second (register named letter) = fields letter
value_in fields second (byte letter) = fields letter
value_in fields second (bit letter) = fields letter
value_in fields second (exact shown) = 0
value_in fields second (displacement pointer letter) = fields letter
value_in fields second (distance values letter) = fields letter
value_in fields second address = second
value_in fields second (target letter) = fields letter * 65536 + second

-- an operand with this value as its meaning
abbrev pub meant_by : (fields : ℕ → ℕ) → (second : ℕ) → Operand → Meant
meant_by fields second operand = record { operand = operand; meaning = value (value_in fields second operand) }

-- what an operand sets
abbrev set_by : (fields : ℕ → ℕ) → (second : ℕ) → Operand → Fields → Fields
set_by fields second (register named letter) so_far = setting letter (fields letter) so_far
set_by fields second (byte letter) so_far = setting letter (fields letter) so_far
set_by fields second (bit letter) so_far = setting letter (fields letter) so_far
set_by fields second (exact shown) so_far = so_far
set_by fields second (displacement pointer letter) so_far = setting letter (fields letter) so_far
set_by fields second (distance values letter) so_far = setting letter (fields letter) so_far
set_by fields second address so_far = record so_far { second = second }
set_by fields second (target letter) so_far = setting letter (fields letter) (record so_far { second = second })

abbrev all_set : (fields : ℕ → ℕ) → (second : ℕ) → List Operand → Fields
all_set fields second [] = record { field = λ letter. 0; second = 0 }
all_set fields second (operand ∷ operands) = set_by fields second operand (all_set fields second operands)

set_is : (fields : ℕ → ℕ) (second : ℕ) (operand : Operand) (so_far : Fields) → second < 65536 →
    with_value operand (value_in fields second operand) so_far ≡ set_by fields second operand so_far
set_is fields second (register named letter) so_far small = refl
set_is fields second (byte letter) so_far small = refl
set_is fields second (bit letter) so_far small = refl
set_is fields second (exact shown) so_far small = refl
set_is fields second (displacement pointer letter) so_far small = refl
set_is fields second (distance values letter) so_far small = refl
set_is fields second address so_far small = refl
set_is fields second (target letter) so_far small =
    ap (λ (n : ℕ). setting letter n (record so_far { second = (fields letter * 65536 + second) % 0x10000 }))
    (div-mul-add (fields letter) 65536 second small) ∙
    ap (λ (n : ℕ). setting letter (fields letter) (record so_far { second = n })) (mod-mul-add (fields letter) 65536 second small)

fields_are : (part : Chip) (labels : List Label) (next : ℕ) (fields : ℕ → ℕ) (second : ℕ) (operands : List Operand) → second < 65536 →
    fields_of part labels next (map (meant_by fields second) operands) ≡ Ok (all_set fields second operands)
fields_are part labels next fields second [] small = refl
fields_are part labels next fields second (operand ∷ operands) small =
    rw (fields_are part labels next fields second operands small)
    (ap (λ (f : Fields). Ok f) (set_is fields second operand (all_set fields second operands) small))

-- the item of a row with its form
abbrev pub item_of : (fields : ℕ → ℕ) → (second : ℕ) → Row × Form → List Meant
item_of fields second entry = map (meant_by fields second) entry.1.operands

words_set : (fields : ℕ → ℕ) (second : ℕ) →
    map (λ (entry : Row × Form). word_of entry.0.letters (all_set fields second entry.1.operands).field) rows ≡
    map (λ (entry : Row × Form). word_of entry.0.letters fields) rows
words_set fields second = refl

seconds_set : (fields : ℕ → ℕ) (second word : ℕ) →
    map (λ (entry : Row × Form). take (size_of (coded entry.0.letters (item_of fields second entry)))
    (word ∷ (all_set fields second entry.1.operands).second ∷ [])) rows ≡
    map (λ (entry : Row × Form). take (words (entry.0.instr fields second)) (word ∷ second ∷ [])) rows
seconds_set fields second word = refl

sizes_are : (fields : ℕ → ℕ) (second : ℕ) →
    map (λ (entry : Row × Form). size_of (coded entry.0.letters (item_of fields second entry))) rows ≡
    map (λ (entry : Row × Form). words (entry.0.instr fields second)) rows
sizes_are fields second = refl

module _ (fields : ℕ → ℕ) (second index : ℕ) (entry : Row × Form) (there : slice_get rows index ≡ Some entry) where
  -- an item is as long as its instruction
  pub item_size : size_of (coded entry.0.letters (item_of fields second entry)) ≡ words (entry.0.instr fields second)
  item_size =
      same_at (λ (e : Row × Form). size_of (coded e.0.letters (item_of fields second e))) (λ (e : Row × Form). words (e.0.instr fields second))
      rows (sizes_are fields second) index entry there

  -- the words of an item are those that its fields make
  pub item_gives : (part : Chip) (labels : List Label) (place : ℕ) → second < 65536 →
      item_words part labels place (coded entry.0.letters (item_of fields second entry)) ≡
      Ok (take (words (entry.0.instr fields second)) (word_of entry.0.letters fields ∷ second ∷ []))
  item_gives part labels place small =
      let size : ℕ = size_of (coded entry.0.letters (item_of fields second entry)) in
      let set : Fields = all_set fields second entry.1.operands in
      let laid : item_words part labels place (coded entry.0.letters (item_of fields second entry)) ≡
      Ok (take size (word_of entry.0.letters set.field ∷ set.second ∷ [])) =
      rw (fields_are part labels (place + size) fields second entry.1.operands small) refl in
      let word : word_of entry.0.letters set.field ≡ word_of entry.0.letters fields =
      same_at (λ (e : Row × Form). word_of e.0.letters (all_set fields second e.1.operands).field)
      (λ (e : Row × Form). word_of e.0.letters fields) rows (words_set fields second) index entry there in
      let behind : take size (word_of entry.0.letters fields ∷ set.second ∷ []) ≡
      take (words (entry.0.instr fields second)) (word_of entry.0.letters fields ∷ second ∷ []) =
      same_at (λ (e : Row × Form). take (size_of (coded e.0.letters (item_of fields second e)))
      (word_of entry.0.letters fields ∷ (all_set fields second e.1.operands).second ∷ []))
      (λ (e : Row × Form). take (words (e.0.instr fields second)) (word_of entry.0.letters fields ∷ second ∷ []))
      rows (seconds_set fields second (word_of entry.0.letters fields)) index entry there in
      laid ∙ ap (λ (w : ℕ). Ok (take size (w ∷ set.second ∷ []))) word ∙ ap (λ (l : List ℕ). Ok l) behind
