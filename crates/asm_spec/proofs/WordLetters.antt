-- The word that the letters of a row and the fields of a word of that row make is that word.
use Rattle.std.proofs.Common.{◌≡◌, ℕ, ◌+◌, ◌*◌, ◌/◌, ◌%◌, ◌^◌, ◌<◌, ◌≤◌, ◌==◌, ◌&&◌, Bool, true, false, cond, List, [], ◌∷◌, length}
use Rattle.std.proofs.Common.{refl, sym, ap, ◌∙◌, arith, eqb-true, pow_pos, subst}
use Rattle.std.specs.Prelude.{count_by, nat_le, nat_lt, if◌then◌else◌}
use Rattle.std.specs.List.{list_all}
use Rattle.std.proofs.Math.Nat.{pow-succ'}
use Rattle.std.proofs.Math.Numerals.{one-add}
use Rattle.std.proofs.lemmas.List.Sums.{sum_by-cons}
use Rattle.std.proofs.lemmas.Bool.Decides.{nat_tests}
use Rattle.std.proofs.lemmas.Nat.{le-div, div_below, mul-le}
use Rattle.avr_spec.specs.Decode.{bits, blank, field_from, field_of, fits, next_field, next_fits, agrees}
use Rattle.avr_spec.proofs.Computing.{both}
use Rattle.asm_spec.specs.Words.{bit_of, bits_in, word_of}
use Rattle.asm_spec.proofs.Tests.{and_parts}
use Rattle.asm_spec.proofs.Binary.{AreBits, binary, binary_bits, bits_are}

-- the letters of a row's first word: 16 bits, and blanks
abbrev pub is_word_of_letters : List ℕ → Bool
is_word_of_letters letters = list_all (nat_le 0x20) letters && (bits_in letters == 16)

-- how often a letter stands among letters
abbrev times : (wanted : ℕ) → List ℕ → ℕ
times wanted letters = count_by (λ other. other == wanted) letters

times_cons : (wanted letter : ℕ) (letters : List ℕ) → times wanted (letter ∷ letters) ≡ cond (letter == wanted) 1 0 + times wanted letters
times_cons wanted letter letters = sum_by-cons (λ other. cond (other == wanted) 1 0) letter letters

bits_cons : (letter : ℕ) (letters : List ℕ) → bits_in (letter ∷ letters) ≡ cond (nat_lt 0x20 letter) 1 0 + bits_in letters
bits_cons letter letters = sum_by-cons (λ other. cond (nat_lt 0x20 other) 1 0) letter letters

-- a number begins with another one, and has so many bits more
record Begins (n so_far wide : ℕ) : Type 0 where
  low : so_far * 2 ^ wide ≤ n
  high : n < (so_far + 1) * 2 ^ wide

pow_one : (n : ℕ) → 2 ^ (1 + n) ≡ 2 * 2 ^ n
pow_one n = ap (λ (k : ℕ). 2 ^ k) (one-add n) ∙ pow-succ' 2 n

begins_now : (so_far : ℕ) → Begins so_far so_far 0
begins_now so_far = record { low = omega arith; high = omega arith }

begins_more : (n so_far bit wide : ℕ) → bit < 2 → Begins n (2 * so_far + bit) wide → Begins n so_far (1 + wide)
begins_more n so_far bit wide small begins =
    let low : (2 * so_far + bit) * 2 ^ wide ≤ n = begins.low in
    let high : n < (2 * so_far + bit + 1) * 2 ^ wide = begins.high in
    let some : bit * 2 ^ wide ≤ 1 * 2 ^ wide = mul-le bit (2 ^ wide) 1 (2 ^ wide) (omega arith) (omega arith) in
    let wider : 2 ^ (1 + wide) ≡ 2 * 2 ^ wide = pow_one wide in
    record { low = rw wider (by_power (2 ^ wide) low); high = rw wider (by_power_above (2 ^ wide) some high) }
  where
    by_power : (power : ℕ) → (2 * so_far + bit) * power ≤ n → so_far * (2 * power) ≤ n
    by_power power low = grind arith

    by_power_above : (power : ℕ) → bit * power ≤ 1 * power → n < (2 * so_far + bit + 1) * power → n < (so_far + 1) * (2 * power)
    by_power_above power some high = grind arith

-- the number in front of the last bits
begins_front : (n so_far wide : ℕ) → Begins n so_far wide → n / 2 ^ wide ≡ so_far
begins_front n so_far wide begins =
    let some : 0 < 2 ^ wide = pow_pos wide in
    let above : so_far ≤ n / 2 ^ wide = le-div so_far n (2 ^ wide) some begins.low in
    let below : n / 2 ^ wide < so_far + 1 = div_below n (2 ^ wide) (so_far + 1) some begins.high in
    omega arith

-- ---- a letter more
other_letter : (wanted letter : ℕ) (letters : List ℕ) → (letter == wanted) ≡ false → times wanted (letter ∷ letters) ≡ times wanted letters
other_letter wanted letter letters h = omega (arith, times_cons wanted letter letters, ap {B = ℕ} (λ (b : Bool). cond b 1 0) h)

same_letter : (wanted letter : ℕ) (letters : List ℕ) → (letter == wanted) ≡ true → times wanted (letter ∷ letters) ≡ 1 + times wanted letters
same_letter wanted letter letters h = omega (arith, times_cons wanted letter letters, ap {B = ℕ} (λ (b : Bool). cond b 1 0) h)

differ : (letter wanted : ℕ) → (letter == blank) ≡ true → (wanted == blank) ≡ false → (letter == wanted) ≡ false
differ letter wanted is never = grind (arith, nat_tests)

no_bit_more : (letter : ℕ) (letters : List ℕ) → (letter == blank) ≡ true → bits_in (letter ∷ letters) ≡ bits_in letters
no_bit_more letter letters h =
    let is : nat_lt 0x20 letter ≡ false = grind (arith, nat_tests) in
    omega (arith, bits_cons letter letters, ap {B = ℕ} (λ (b : Bool). cond b 1 0) is)

bit_more : (letter : ℕ) (letters : List ℕ) → (letter == blank) ≡ false → nat_le 0x20 letter ≡ true → bits_in (letter ∷ letters) ≡ 1 + bits_in letters
bit_more letter letters h least =
    let is : nat_lt 0x20 letter ≡ true = grind (arith, nat_tests) in
    omega (arith, bits_cons letter letters, ap {B = ℕ} (λ (b : Bool). cond b 1 0) is)

at_blank : (wanted letter : ℕ) (letters : List ℕ) (so_far : ℕ) (bs : List ℕ) → (letter == blank) ≡ true →
    field_from wanted (letter ∷ letters) so_far bs ≡ field_from wanted letters so_far bs
at_blank wanted letter letters so_far bs h = ap (λ (b : Bool). elim b [
  | true ↦ field_from wanted letters so_far bs
  | false ↦ next_field wanted letter (field_from wanted letters) so_far bs
]) h

at_bit : (wanted letter : ℕ) (letters : List ℕ) (so_far bit : ℕ) (bs : List ℕ) → (letter == blank) ≡ false →
    field_from wanted (letter ∷ letters) so_far (bit ∷ bs) ≡ field_from wanted letters (if letter == wanted then 2 * so_far + bit else so_far) bs
at_bit wanted letter letters so_far bit bs h = ap (λ (b : Bool). elim b [
  | true ↦ field_from wanted letters so_far (bit ∷ bs)
  | false ↦ next_field wanted letter (field_from wanted letters) so_far (bit ∷ bs)
]) h

-- ---- the number under a letter begins with what there is so far
-- what is shown of these letters for any number so far
abbrev FieldsBegin : (wanted : ℕ) → List ℕ → Type 0
FieldsBegin wanted letters = (so_far : ℕ) (bs : List ℕ) → AreBits bs → bits_in letters ≤ length bs →
    Begins (field_from wanted letters so_far bs) so_far (times wanted letters)

module _ (wanted letter : ℕ) (letters : List ℕ) (so_far : ℕ) (plain : (wanted == blank) ≡ false) (least : nat_le 0x20 letter ≡ true)
    (later : FieldsBegin wanted letters) where
  by_letter : (bit : ℕ) (rest : List ℕ) (mine : Bool) → (letter == wanted) ≡ mine → bit < 2 → AreBits rest → bits_in letters ≤ length rest →
      Begins (field_from wanted letters (if letter == wanted then 2 * so_far + bit else so_far) rest) so_far (times wanted (letter ∷ letters))
  by_letter bit rest true h small are long =
      rw (same_letter wanted letter letters h, h)
      (begins_more (field_from wanted letters (2 * so_far + bit) rest) so_far bit (times wanted letters) small
      (later (2 * so_far + bit) rest are long))
  by_letter bit rest false h small are long = rw (other_letter wanted letter letters h, h) (later so_far rest are long)

  by_bits : (bits : List ℕ) → (letter == blank) ≡ false → AreBits bits → bits_in (letter ∷ letters) ≤ length bits →
      Begins (field_from wanted (letter ∷ letters) so_far bits) so_far (times wanted (letter ∷ letters))
  by_bits [] h are long = absurd (omega (arith, bit_more letter letters h least, long))
  by_bits (bit ∷ rest) h are long =
      subst (λ n. Begins n so_far (times wanted (letter ∷ letters))) (sym (at_bit wanted letter letters so_far bit rest h))
      (by_letter bit rest (letter == wanted) refl are.0 are.1 (omega (arith, bit_more letter letters h least, long)))

  by_blank : (bs : List ℕ) (b : Bool) → (letter == blank) ≡ b → AreBits bs → bits_in (letter ∷ letters) ≤ length bs →
      Begins (field_from wanted (letter ∷ letters) so_far bs) so_far (times wanted (letter ∷ letters))
  by_blank bs true h are long =
      subst (λ n. Begins n so_far (times wanted (letter ∷ letters))) (sym (at_blank wanted letter letters so_far bs h))
      (subst (λ n. Begins (field_from wanted letters so_far bs) so_far n) (sym (other_letter wanted letter letters (differ letter wanted h plain)))
      (later so_far bs are (omega (arith, no_bit_more letter letters h, long))))
  by_blank bs false h are long = by_bits bs h are long

field_begins : (wanted : ℕ) → (wanted == blank) ≡ false → (letters : List ℕ) → list_all (nat_le 0x20) letters ≡ true → FieldsBegin wanted letters
field_begins wanted plain [] all so_far bs are long = begins_now so_far
field_begins wanted plain (letter ∷ letters) all so_far bs are long =
    let parts = and_parts (nat_le 0x20 letter) (list_all (nat_le 0x20) letters) all in
    by_blank wanted letter letters so_far plain parts.0 (field_begins wanted plain letters parts.1) bs (letter == blank) refl are long

-- a field is below its limit
pub field_below : (letters : List ℕ) (word wanted : ℕ) → (wanted == blank) ≡ false → is_word_of_letters letters ≡ true →
    field_of letters word wanted < 2 ^ count_by (λ other. other == wanted) letters
field_below letters word wanted plain are =
    let parts = and_parts (list_all (nat_le 0x20) letters) (bits_in letters == 16) are in
    let sixteen : bits_in letters ≡ 16 = eqb-true (bits_in letters) 16 parts.1 in
    let long : bits_in letters ≤ length (bits word) = rw sixteen (omega arith) in
    let high : field_of letters word wanted < (0 + 1) * 2 ^ times wanted letters =
    (field_begins wanted plain letters parts.0 0 (bits word) (bits_are word) long).high in
    omega (arith, high)

-- ---- the word
-- each field is what is there so far, with the bits under these letters behind it
abbrev Goes : (field : ℕ → ℕ) (letters bs : List ℕ) → Type 0
Goes field letters bs = (wanted : ℕ) → (so_far : ℕ) × (field wanted ≡ field_from wanted letters so_far bs)

goes_bit : (field : ℕ → ℕ) (letter : ℕ) (letters : List ℕ) (bit : ℕ) (bs : List ℕ) → (letter == blank) ≡ false →
    Goes field (letter ∷ letters) (bit ∷ bs) → Goes field letters bs
goes_bit field letter letters bit bs h goes wanted =
    let from = goes wanted in
    (if letter == wanted then 2 * from.0 + bit else from.0, from.1 ∙ at_bit wanted letter letters from.0 bit bs h)

goes_blank : (field : ℕ → ℕ) (letter : ℕ) (letters bs : List ℕ) → (letter == blank) ≡ true →
    Goes field (letter ∷ letters) bs → Goes field letters bs
goes_blank field letter letters bs h goes wanted =
    let from = goes wanted in
    (from.0, from.1 ∙ at_blank wanted letter letters from.0 bs h)

-- the bit of a field
own_bit : (field : ℕ → ℕ) (letter : ℕ) (letters : List ℕ) (bit : ℕ) (bs : List ℕ) → (letter == blank) ≡ false →
    list_all (nat_le 0x20) letters ≡ true → bit < 2 → AreBits bs → bits_in letters ≤ length bs → Goes field (letter ∷ letters) (bit ∷ bs) →
    field letter / 2 ^ times letter letters % 2 ≡ bit
own_bit field letter letters bit bs h all small are long goes =
    let from = goes letter in
    let so_far : ℕ = from.0 in
    let same : (letter == letter) ≡ true = grind (arith, nat_tests) in
    let mine : field letter ≡ field_from letter letters (2 * so_far + bit) bs =
    from.1 ∙ at_bit letter letter letters so_far bit bs h ∙
    ap (λ (b : Bool). field_from letter letters (if b then 2 * so_far + bit else so_far) bs) same in
    let front : field letter / 2 ^ times letter letters ≡ 2 * so_far + bit =
    ap (λ (n : ℕ). n / 2 ^ times letter letters) mine ∙
    begins_front (field_from letter letters (2 * so_far + bit) bs) (2 * so_far + bit) (times letter letters)
    (field_begins letter h letters all (2 * so_far + bit) bs are long) in
    let last : (2 * so_far + bit) % 2 ≡ bit = omega arith in
    ap (λ (n : ℕ). n % 2) front ∙ last

-- the bit under a letter
bit_is : (field : ℕ → ℕ) (letter : ℕ) (letters : List ℕ) (bit : ℕ) (bs : List ℕ) → (letter == blank) ≡ false → agrees letter bit ≡ true →
    list_all (nat_le 0x20) letters ≡ true → bit < 2 → AreBits bs → bits_in letters ≤ length bs → Goes field (letter ∷ letters) (bit ∷ bs) →
    bit_of letter letters field ≡ bit
bit_is field letter letters bit bs h agree all small are long goes = by_fixed (letter == 0x30) refl (letter == 0x31) refl
  where
    by_one : Bool → Bool
    by_one b = elim b [ true ↦ bit == 1 | false ↦ true ]

    by_zero : Bool → Bool
    by_zero b = elim b [ true ↦ bit == 0 | false ↦ by_one (letter == 0x31) ]

    by_fixed : (is_zero : Bool) → (letter == 0x30) ≡ is_zero → (is_one : Bool) → (letter == 0x31) ≡ is_one → bit_of letter letters field ≡ bit
    by_fixed true z is_one o = rw z (sym (eqb-true bit 0 (sym (ap (λ (b : Bool). by_zero b) z) ∙ agree)))
    by_fixed false z true o =
        rw (z, o) (sym (eqb-true bit 1 (sym (ap (λ (b : Bool). by_zero b) z ∙ ap (λ (b : Bool). by_one b) o) ∙ agree)))
    by_fixed false z false o = rw (z, o) (own_bit field letter letters bit bs h all small are long goes)

fits_bit : (letter : ℕ) (letters : List ℕ) (bit : ℕ) (bs : List ℕ) → (letter == blank) ≡ false → fits (letter ∷ letters) (bit ∷ bs) ≡ true →
    (agrees letter bit ≡ true) × (fits letters bs ≡ true)
fits_bit letter letters bit bs h fit =
    let here : fits (letter ∷ letters) (bit ∷ bs) ≡ next_fits letter (fits letters) (bit ∷ bs) =
    ap (λ (b : Bool). elim b [ true ↦ fits letters (bit ∷ bs) | false ↦ next_fits letter (fits letters) (bit ∷ bs) ]) h in
    both (agrees letter bit) (fits letters bs) (sym here ∙ fit)

fits_blank : (letter : ℕ) (letters bs : List ℕ) → (letter == blank) ≡ true → fits (letter ∷ letters) bs ≡ true → fits letters bs ≡ true
fits_blank letter letters bs h fit =
    sym (ap (λ (b : Bool). elim b [ true ↦ fits letters bs | false ↦ next_fits letter (fits letters) bs ]) h) ∙ fit

abbrev WordIs : (ℕ → ℕ) → List ℕ → Type 0
WordIs field letters = (bs : List ℕ) → fits letters bs ≡ true → AreBits bs → bits_in letters ≡ length bs → Goes field letters bs →
    word_of letters field ≡ binary bs

module _ (field : ℕ → ℕ) (letter : ℕ) (letters : List ℕ) (least : nat_le 0x20 letter ≡ true) (all : list_all (nat_le 0x20) letters ≡ true)
    (later : WordIs field letters) where
  word_by_bits : (letter == blank) ≡ false → WordIs field (letter ∷ letters)
  word_by_bits h [] fit are long goes = absurd (omega (arith, bit_more letter letters h least, long))
  word_by_bits h (bit ∷ rest) fit are long goes =
      let fixed = fits_bit letter letters bit rest h fit in
      let wide : bits_in letters ≡ length rest = omega (arith, bit_more letter letters h least, long) in
      let behind : word_of letters field ≡ binary rest = later rest fixed.1 are.1 wide (goes_bit field letter letters bit rest h goes) in
      let first : bit_of letter letters field ≡ bit =
      bit_is field letter letters bit rest h fixed.0 all are.0 are.1 (omega (arith, wide)) goes in
      ap (λ (b : Bool). if b then word_of letters field else bit_of letter letters field * 2 ^ bits_in letters + word_of letters field) h ∙
      ap (λ (b : ℕ). b * 2 ^ bits_in letters + word_of letters field) first ∙
      ap (λ (n : ℕ). bit * 2 ^ n + word_of letters field) wide ∙ ap (λ (n : ℕ). bit * 2 ^ length rest + n) behind

  word_by_blank : (b : Bool) → (letter == blank) ≡ b → WordIs field (letter ∷ letters)
  word_by_blank true h bs fit are long goes =
      ap (λ (b : Bool). if b then word_of letters field else bit_of letter letters field * 2 ^ bits_in letters + word_of letters field) h ∙
      later bs (fits_blank letter letters bs h fit) are (sym (no_bit_more letter letters h) ∙ long) (goes_blank field letter letters bs h goes)
  word_by_blank false h bs fit are long goes = word_by_bits h bs fit are long goes

word_is : (field : ℕ → ℕ) (letters : List ℕ) → list_all (nat_le 0x20) letters ≡ true → WordIs field letters
word_is field [] all [] fit are long goes = refl
word_is field [] all (bit ∷ bs) fit are long goes = absurd (omega (arith, long))
word_is field (letter ∷ letters) all bs fit are long goes =
    let parts = and_parts (nat_le 0x20 letter) (list_all (nat_le 0x20) letters) all in
    word_by_blank field letter letters parts.0 parts.1 (word_is field letters parts.1) (letter == blank) refl bs fit are long goes

-- the fields of a word of a row, put under the letters of the row, are that word
pub word_back : (letters : List ℕ) (word : ℕ) → word < 65536 → is_word_of_letters letters ≡ true → fits letters (bits word) ≡ true →
    word_of letters (field_of letters word) ≡ word
word_back letters word small are fit =
    let parts = and_parts (list_all (nat_le 0x20) letters) (bits_in letters == 16) are in
    let long : bits_in letters ≡ length (bits word) = eqb-true (bits_in letters) 16 parts.1 in
    word_is (field_of letters word) letters parts.0 (bits word) fit (bits_are word) long (λ wanted. (0, refl)) ∙ binary_bits word small
