-- The word that letters make, letter by letter.
use Rattle.std.proofs.Common.{◌≡◌, ◌≢◌, ℕ, zero, suc, ◌+◌, ◌*◌, ◌/◌, ◌^◌, ◌<◌, ◌≤◌, Bool, true, false, nat_le, nat_lt, List, [], ◌∷◌, length, get_or, drop, refl, sym, ap, ◌∙◌, subst, arith}
use Rattle.std.proofs.lemmas.Bool.Decides.{nat_tests}
use Rattle.std.specs.Prelude.{◌==◌, cond, count_by, if◌then◌else◌}
use Rattle.std.proofs.Math.Seq.{drop-cons}
use Rattle.std.proofs.Math.Nat.{div-div-eq-div-mul, pow-le-pow_right, pow-succ'}
use Rattle.std.proofs.lemmas.Nat.{mul-le}
use Rattle.std.proofs.lemmas.List.Sums.{sum_by-cons}
use Rattle.std.proofs.lemmas.List.Folds.{list_all_at}
use Rattle.asm_spec.specs.Words.{bit_of, bits_in, word_of}
use Rattle.avr_asm.specs.declared.fields.Made.{Made}
use Rattle.avr_asm.specs.Encodings.{IsMade, is_row}

-- the bits of a letter and of those behind it
bits_cons : (letter : ℕ) (behind : List ℕ) → bits_in (letter ∷ behind) ≡ cond (nat_lt 0x20 letter) 1 0 + bits_in behind
bits_cons letter behind = sum_by-cons (λ l. cond (nat_lt 0x20 l) 1 0) letter behind

bits_one : (letter : ℕ) (behind : List ℕ) → 0x20 ≤ letter → letter ≢ 0x20 → bits_in (letter ∷ behind) ≡ suc (bits_in behind)
bits_one letter behind high other =
    let yes : nat_lt 0x20 letter ≡ true = grind (arith, nat_tests) in
    let is : bits_in (letter ∷ behind) ≡ 1 + bits_in behind =
    bits_cons letter behind ∙ ap (λ (b : Bool). cond b 1 0 + bits_in behind) yes in
    omega (arith, is)

-- the weight of a bit fits
pub weight_small : (letter : ℕ) (behind : List ℕ) (weight : ℕ) → 0x20 ≤ letter → letter ≢ 0x20 → bits_in (letter ∷ behind) ≤ 16 →
    weight ≡ 2 ^ bits_in behind → weight ≤ 2 ^ 15
weight_small letter behind weight high other few is =
    let less : bits_in behind ≤ 15 = omega (arith, few, bits_one letter behind high other) in
    let wide : 2 ^ bits_in behind ≤ 2 ^ 15 = pow-le-pow_right (omega arith) less in
    omega (arith, is, wide)

-- and so does the word with it
pub word_small : (bit weight word : ℕ) → bit ≤ 1 → weight ≤ 2 ^ 15 → word < weight → bit * weight + word < 2 ^ 17
word_small bit weight word small few less = omega (arith, mul-le bit weight 1 weight small (omega arith))

-- a letter that only groups letters
pub made_blank : (field : ℕ → ℕ) (behind : List ℕ) (letter : ℕ) (made : Made) → letter ≡ 0x20 → IsMade field behind made →
    IsMade field (letter ∷ behind) made
made_blank field behind letter made is was =
    subst (λ (l : ℕ). IsMade field (l ∷ behind) made) (sym is)
    (let same : IsMade field (0x20 ∷ behind) made = record {
      word = was.word;
      weight = was.weight ∙ ap (λ (n : ℕ). 2 ^ n) (let e : bits_in behind ≡ bits_in (0x20 ∷ behind) = omega (arith, bits_cons 0x20 behind) in e);
      less = was.less;
    } in same)

-- a letter that stands for a bit
pub made_bit : (field : ℕ → ℕ) (behind : List ℕ) (letter bit : ℕ) (made more : Made) → 0x20 ≤ letter → letter ≢ 0x20 →
    bit ≡ bit_of letter behind field → bit ≤ 1 → IsMade field behind made →
    more.word ≡ bit * made.weight + made.word → more.weight ≡ 2 * made.weight → IsMade field (letter ∷ behind) more
made_bit field behind letter bit made more high other is small was word weight =
    let never : (letter == 0x20) ≡ false = grind (arith, nat_tests) in
    record {
      word = word ∙ ap (λ (n : ℕ). bit * n + made.word) was.weight ∙ ap (λ (n : ℕ). bit * 2 ^ bits_in behind + n) was.word
          ∙ ap (λ (n : ℕ). n * 2 ^ bits_in behind + word_of behind field) is ∙ sym (rw never refl);
      weight = weight ∙ ap (λ (n : ℕ). 2 * n) was.weight ∙ sym (pow-succ' 2 (bits_in behind))
          ∙ sym (ap (λ (n : ℕ). 2 ^ n) (bits_one letter behind high other));
      less = omega (arith, word, weight, was.less, mul-le bit made.weight 1 made.weight small (omega arith));
    }

-- letters behind a place, and the one at it
pub at_letter : (letters : List ℕ) (start before : ℕ) → before + 1 ≡ start → start ≤ length letters →
    drop before letters ≡ get_or letters before 0 ∷ drop start letters
at_letter letters start before is within =
    drop-cons letters before 0 (omega arith) ∙ ap (λ (n : ℕ). get_or letters before 0 ∷ drop n letters) (let e : suc before ≡ start = omega arith in e)

-- no more bits than in all letters
bits_less : (letters : List ℕ) (start : ℕ) → bits_in (drop start letters) ≤ bits_in letters
bits_less letters zero = omega arith
bits_less [] (suc start) = omega arith
bits_less (letter ∷ letters) (suc start) = omega (arith, bits_less letters start, bits_cons letter letters)

pub bits_at : (letters behind : List ℕ) (before : ℕ) → before < length letters → is_row letters ≡ true → behind ≡ drop (before + 1) letters →
    bits_in (get_or letters before 0 ∷ behind) ≤ 16
bits_at letters behind before inside row is =
    let all : bits_in letters ≡ 16 = grind (arith, nat_tests, row) in
    let here : drop before letters ≡ get_or letters before 0 ∷ behind =
    at_letter letters (before + 1) before refl (omega arith) ∙ ap (λ (l : List ℕ). get_or letters before 0 ∷ l) (sym is) in
    subst (λ (l : List ℕ). bits_in l ≤ 16) here (omega (arith, bits_less letters before))

pub letter_shown : (letters : List ℕ) (i : ℕ) → is_row letters ≡ true → i < length letters → 0x20 ≤ get_or letters i 0
letter_shown letters i row inside = by_test (nat_le 0x20 (get_or letters i 0)) refl
  where
    by_test : (b : Bool) → nat_le 0x20 (get_or letters i 0) ≡ b → 0x20 ≤ get_or letters i 0
    by_test true h = grind (arith, nat_tests)
    by_test false h = absurd (grind (arith, nat_tests, row, list_all_at (λ letter. nat_le 0x20 letter) letters i 0 inside h))

-- no letters make nothing
pub made_none : (field : ℕ → ℕ) (letters : List ℕ) (made : Made) → letters ≡ [] → made.word ≡ 0 → made.weight ≡ 1 → IsMade field letters made
made_none field letters made none word weight =
    subst (λ (l : List ℕ). IsMade field l made) (sym none)
    (let is : IsMade field [] made = record { word = word; weight = weight; less = omega arith } in is)

pub made_all : (field : ℕ → ℕ) (letters : List ℕ) (start : ℕ) (made : Made) → is_row letters ≡ true → start ≡ 0 → IsMade field (drop start letters) made →
    (made.word ≡ word_of letters field) × (made.word < 2 ^ 16)
made_all field letters start made row none is =
    let whole : IsMade field letters made = subst (λ (n : ℕ). IsMade field (drop n letters) made) none is in
    let all : bits_in letters ≡ 16 = grind (arith, nat_tests, row) in
    (whole.word, subst (λ (n : ℕ). made.word < 2 ^ n) all (subst (λ (n : ℕ). made.word < n) whole.weight whole.less))

-- a value halved for a letter more
pub halved_more : (value letter : ℕ) (behind : List ℕ) (i half more : ℕ) → i < length behind →
    more ≡ (if get_or behind i 0 == letter then half / 2 else half) →
    half / 2 ^ count_by (λ o. o == letter) (drop i behind) ≡ value →
    more / 2 ^ count_by (λ o. o == letter) (drop (i + 1) behind) ≡ value
halved_more value letter behind i half more inside is was = by_test (get_or behind i 0 == letter) refl
  where
    front : count_by (λ o. o == letter) (drop i behind)
        ≡ cond (get_or behind i 0 == letter) 1 0 + count_by (λ o. o == letter) (drop (i + 1) behind)
    front = ap (count_by (λ o. o == letter)) (at_letter behind (i + 1) i refl (omega arith))
        ∙ sum_by-cons (λ o. cond (o == letter) 1 0) (get_or behind i 0) (drop (i + 1) behind)

    by_test : (b : Bool) → (get_or behind i 0 == letter) ≡ b → more / 2 ^ count_by (λ o. o == letter) (drop (i + 1) behind) ≡ value
    by_test true h =
        let half_is : more ≡ half / 2 = rw h at is in
        let split : count_by (λ o. o == letter) (drop i behind) ≡ suc (count_by (λ o. o == letter) (drop (i + 1) behind)) =
        omega (arith, rw h at front) in
        ap (λ (n : ℕ). n / 2 ^ count_by (λ o. o == letter) (drop (i + 1) behind)) half_is
        ∙ div-div-eq-div-mul half 2 (2 ^ count_by (λ o. o == letter) (drop (i + 1) behind))
        ∙ ap (λ (n : ℕ). half / n) (sym (pow-succ' 2 (count_by (λ o. o == letter) (drop (i + 1) behind))))
        ∙ sym (ap (λ (n : ℕ). half / 2 ^ n) split) ∙ was
    by_test false h =
        let half_is : more ≡ half = rw h at is in
        let split : count_by (λ o. o == letter) (drop i behind) ≡ count_by (λ o. o == letter) (drop (i + 1) behind) =
        omega (arith, rw h at front) in
        ap (λ (n : ℕ). n / 2 ^ count_by (λ o. o == letter) (drop (i + 1) behind)) half_is
        ∙ sym (ap (λ (n : ℕ). half / 2 ^ n) split) ∙ was
