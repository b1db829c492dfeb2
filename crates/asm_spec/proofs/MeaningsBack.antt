-- The operands of an instruction are read as the values of its fields.
use Rattle.std.proofs.Common.{◌≡◌, ℕ, ◌+◌, ◌*◌, ◌%◌, ◌<◌, ◌≤◌, ◌==◌, ◌&&◌, Bool, true, false, List, [], ◌∷◌, map, refl, ap, ◌∙◌, arith}
use Rattle.std.specs.Prelude.{not, nat_le, nat_lt, if◌then◌else◌, Option, Some, option_map}
use Rattle.std.specs.List.{list_all}
use Rattle.std.proofs.Math.Nat.{mod-eq_of_lt}
use Rattle.std.proofs.lemmas.Bool.Decides.{nat_tests}
use Rattle.part_spec.specs.Chip.{Chip, m16, words_of}
use Rattle.avr_spec.specs.Decode.{blank}
use Rattle.avr_spec.specs.Text.{hex_word}
use Rattle.avr_spec.proofs.Computing.{all_below, at_below}
use Rattle.asm_spec.specs.Forms.{Operand, register, byte, bit, exact, displacement, distance, address, target, printed}
use Rattle.asm_spec.specs.Tokens.{number}
use Rattle.asm_spec.specs.Reading.{Meaning, value, outside, Meant, and_more, limit_of, limited, meaning, meanings, number_or_name}
use Rattle.asm_spec.proofs.Tests.{and_both, and_parts, not_true}
use Rattle.asm_spec.proofs.CleanTexts.{is_clean_text}
use Rattle.asm_spec.proofs.HexDigits.{hex_word_back, hex_word_clean}
use Rattle.asm_spec.proofs.FieldWords.{meant_by, value_in}
use Rattle.asm_spec.proofs.OperandsBack.{choices, is_back, is_value, letter_of, reads_back, value_from}

-- the address of a jump lies in the part
abbrev pub is_inside : Chip → (fields : ℕ → ℕ) → (second : ℕ) → Operand → Bool
is_inside part fields second (target letter) = not (nat_le (words_of part) (fields letter * 65536 + second))
is_inside part fields second _ = true

abbrev pub all_inside : Chip → (fields : ℕ → ℕ) → (second : ℕ) → List Operand → Bool
all_inside part fields second [] = true
all_inside part fields second (operand ∷ operands) = all_inside part fields second operands && is_inside part fields second operand

-- a number of four digits below a limit
limited_back : (limit n : ℕ) → n < limit → limit ≤ 65536 →
    number_or_name (option_map (limited limit) (number (hex_word n))) (hex_word n) ≡ Some (value n)
limited_back limit n inside small =
    let fits : nat_lt n limit ≡ true = grind (arith, nat_tests) in
    let number_is : number (hex_word n) ≡ Some n = hex_word_back n (omega (arith, inside, small)) in
    ap (λ (o : Option ℕ). number_or_name (option_map (limited limit) o) (hex_word n)) number_is ∙
    ap (λ (b : Bool). Some (if b then value n else outside)) fits

module _ (part : Chip) (small_part : words_of part ≤ 65536) (letters : List ℕ) (fields : ℕ → ℕ) (second : ℕ) (small : second < 65536)
    (below : (letter : ℕ) → (letter == blank) ≡ false → fields letter < limit_of letters letter) where
  -- an operand is read back
  record Back (operand : Operand) : Type 0 where
    reads : meaning part letters operand (printed part fields second operand) ≡ Some (value (value_in fields second operand))
    clean : is_clean_text (printed part fields second operand) ≡ true

  -- the value of a field was tried
  tried : (operand : Operand) (n : ℕ) → n < choices letters operand → reads_back letters operand ≡ true →
      (is_value (value_in (λ letter. n) 0 operand) (meaning m16 letters operand (printed m16 (λ letter. n) 0 operand)) ≡ true) ×
      (is_clean_text (printed m16 (λ letter. n) 0 operand) ≡ true)
  tried operand n chosen all =
      let tests : all_below (choices letters operand) (is_back letters operand) ≡ true =
      (and_parts (not (letter_of operand == blank)) (all_below (choices letters operand) (is_back letters operand)) all).1 in
      and_parts (is_value (value_in (λ letter. n) 0 operand) (meaning m16 letters operand (printed m16 (λ letter. n) 0 operand)))
      (is_clean_text (printed m16 (λ letter. n) 0 operand)) (at_below (choices letters operand) (is_back letters operand) tests n chosen)

  lettered : (operand : Operand) → reads_back letters operand ≡ true → fields (letter_of operand) < limit_of letters (letter_of operand)
  lettered operand all =
      below (letter_of operand) (not_true (letter_of operand == blank)
      (and_parts (not (letter_of operand == blank)) (all_below (choices letters operand) (is_back letters operand)) all).0)

  back : (operand : Operand) → reads_back letters operand ≡ true → is_inside part fields second operand ≡ true → Back operand
  back (register named letter) all inside =
      let at = tried (register named letter) (fields letter) (lettered (register named letter) all) all in
      record { reads = value_from (fields letter) (meaning part letters (register named letter) (printed part fields second (register named letter))) at.0; clean = at.1 }
  back (byte letter) all inside =
      let at = tried (byte letter) (fields letter) (lettered (byte letter) all) all in
      record { reads = value_from (fields letter) (meaning part letters (byte letter) (printed part fields second (byte letter))) at.0; clean = at.1 }
  back (bit letter) all inside =
      let at = tried (bit letter) (fields letter) (lettered (bit letter) all) all in
      record { reads = value_from (fields letter) (meaning part letters (bit letter) (printed part fields second (bit letter))) at.0; clean = at.1 }
  back (exact shown) all inside =
      let at = tried (exact shown) 0 (omega arith) all in
      record { reads = value_from 0 (meaning part letters (exact shown) (printed part fields second (exact shown))) at.0; clean = at.1 }
  back (displacement pointer letter) all inside =
      let at = tried (displacement pointer letter) (fields letter) (lettered (displacement pointer letter) all) all in
      record {
        reads = value_from (fields letter) (meaning part letters (displacement pointer letter) (printed part fields second (displacement pointer letter))) at.0;
        clean = at.1;
      }
  back (distance values letter) all inside =
      let at = tried (distance values letter) (fields letter) (lettered (distance values letter) all) all in
      record {
        reads = value_from (fields letter) (meaning part letters (distance values letter) (printed part fields second (distance values letter))) at.0;
        clean = at.1;
      }
  back address all inside = record { reads = limited_back 65536 second small (omega arith); clean = hex_word_clean second }
  back (target letter) all inside =
      let place : ℕ = fields letter * 65536 + second in
      let out : nat_le (words_of part) place ≡ false = not_true (nat_le (words_of part) place) inside in
      let within : place < words_of part = grind (arith, nat_tests) in
      let same : place % words_of part ≡ place = mod-eq_of_lt within in
      record {
        reads =
            ap (λ (n : ℕ). number_or_name (option_map (limited (words_of part)) (number (hex_word n))) (hex_word n)) same ∙
            limited_back (words_of part) place within small_part;
        clean = hex_word_clean (place % words_of part);
      }

  -- all operands are read back
  pub meanings_back : (operands : List Operand) → list_all (reads_back letters) operands ≡ true → all_inside part fields second operands ≡ true →
      meanings part letters operands (map (printed part fields second) operands) ≡ Some (map (meant_by fields second) operands)
  meanings_back [] all inside = refl
  meanings_back (operand ∷ operands) all inside =
      let reads = and_parts (reads_back letters operand) (list_all (reads_back letters) operands) all in
      let insides = and_parts (all_inside part fields second operands) (is_inside part fields second operand) inside in
      ap (λ (m : Option Meaning). and_more operand m (meanings part letters operands (map (printed part fields second) operands)))
      (back operand reads.0 insides.1).reads ∙
      ap (λ (m : Option (List Meant)). and_more operand (Some (value (value_in fields second operand))) m) (meanings_back operands reads.1 insides.0)

  pub texts_clean : (operands : List Operand) → list_all (reads_back letters) operands ≡ true → all_inside part fields second operands ≡ true →
      list_all is_clean_text (map (printed part fields second) operands) ≡ true
  texts_clean [] all inside = refl
  texts_clean (operand ∷ operands) all inside =
      let reads = and_parts (reads_back letters operand) (list_all (reads_back letters) operands) all in
      let insides = and_parts (all_inside part fields second operands) (is_inside part fields second operand) inside in
      and_both (is_clean_text (printed part fields second operand)) (list_all is_clean_text (map (printed part fields second) operands))
      (back operand reads.0 insides.1).clean (texts_clean operands reads.1 insides.0)
