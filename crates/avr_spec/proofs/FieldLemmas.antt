-- The fields of a decoded instruction fit the bits that its row has for them.
use Rattle.std.proofs.Common.{◌≡◌, ℕ, zero, suc, ◌+◌, ◌*◌, ◌/◌, ◌%◌, ◌^◌, ◌<◌, ◌≤◌, ◌==◌, Bool, true, false, cond, List, [], ◌∷◌, ◌⊎◌, inl}
use Rattle.std.proofs.Common.{inr, Some, slice_get, drop, sym, ap, ◌∙◌, subst, arith, zero-add, pow_pos}
use Rattle.std.proofs.Math.Numerals.{one-add}
use Rattle.std.specs.Prelude.{⊤}
use Rattle.std.proofs.Math.Nat.{mod-lt, pow-succ'}
use Rattle.avr_spec.specs.Table.{Row, table}
use Rattle.avr_spec.specs.Decode.{bits, field_from, next_field, field_of, decode, blank}
use Rattle.avr_spec.specs.Fields.{FieldsFit}
use Rattle.avr_spec.specs.Laws.{HasRow, HasNone, DecodedFieldsFit}
use Rattle.avr_spec.proofs.RowLemmas.{each_word_decodes}

-- how many bits stand under a letter
abbrev pub width : ℕ → List ℕ → ℕ
width wanted [] = 0
width wanted (letter ∷ letters) =
    elim (letter == blank) [ true ↦ width wanted letters | false ↦ cond (letter == wanted) 1 0 + width wanted letters ]

-- each number of a list is a bit
abbrev AreBits : List ℕ → Type 0
AreBits [] = ⊤
AreBits (b ∷ bs) = (b < 2) × AreBits bs

bits-are : (w : ℕ) → AreBits (bits w)
bits-are w =
    let bit : (n : ℕ) → n % 2 < 2 = λ n. mod-lt n (omega arith) in (
      bit (w / 0x8000),
      (
        bit (w / 0x4000),
        (
          bit (w / 0x2000),
          (
            bit (w / 0x1000),
            (
              bit (w / 0x800),
              (
                bit (w / 0x400),
                (
                  bit (w / 0x200),
                  (
                    bit (w / 0x100),
                    (
                      bit (w / 0x80),
                      (
                        bit (w / 0x40),
                        (bit (w / 0x20), (bit (w / 0x10), (bit (w / 8), (bit (w / 4), (bit (w / 2), (bit w, tt)))))),
                      ),
                    ),
                  ),
                ),
              ),
            ),
          ),
        ),
      ),
    )

-- room for so many bits more
abbrev room : ℕ → ℕ → ℕ
room so_far n = (so_far + 1) * 2 ^ n

room-any : (so_far n : ℕ) → so_far < room so_far n
room-any so_far n = let h : 0 < 2 ^ n = pow_pos n in grind arith

pow-one : (n : ℕ) → 2 ^ (1 + n) ≡ 2 * 2 ^ n
pow-one n = ap (λ (k : ℕ). 2 ^ k) (one-add n) ∙ pow-succ' 2 n

room-more : (so_far b n : ℕ) → b < 2 → room (2 * so_far + b) n ≤ room so_far (1 + n)
room-more so_far b n small = let e : 2 ^ (1 + n) ≡ 2 * 2 ^ n = pow-one n in grind arith

below_both : {a b c : ℕ} → a < b → b ≤ c → a < c
below_both h k = omega arith

-- one letter more
letter-below : (wanted letter : ℕ) (letters : List ℕ) (so_far : ℕ) (is_blank : Bool) (bs : List ℕ) → AreBits bs →
    ((n : ℕ) (rest : List ℕ) → AreBits rest → field_from wanted letters n rest < room n (width wanted letters)) →
    (elim is_blank [ true ↦ field_from wanted letters so_far bs | false ↦ next_field wanted letter (field_from wanted letters) so_far bs ])
    <
    room so_far (elim is_blank [ true ↦ width wanted letters | false ↦ cond (letter == wanted) 1 0 + width wanted letters ])
letter-below wanted letter letters so_far true bs are rest = rest so_far bs are
letter-below wanted letter letters so_far false [] are rest = room-any so_far (cond (letter == wanted) 1 0 + width wanted letters)
letter-below wanted letter letters so_far false (b ∷ bs) are rest = by_letter (letter == wanted)
  where
    by_letter : (mine : Bool) →
        field_from wanted letters (cond mine (2 * so_far + b) so_far) bs < room so_far (cond mine 1 0 + width wanted letters)
    by_letter true = below_both (rest (2 * so_far + b) bs are.1) (room-more so_far b (width wanted letters) are.0)
    by_letter false = subst (λ n. field_from wanted letters so_far bs < room so_far n) (sym (zero-add (width wanted letters)))
        (rest so_far bs are.1)

field_from-below : (wanted : ℕ) (letters : List ℕ) (so_far : ℕ) (bs : List ℕ) → AreBits bs →
    field_from wanted letters so_far bs < room so_far (width wanted letters)
field_from-below wanted [] so_far bs are = room-any so_far 0
field_from-below wanted (letter ∷ letters) so_far bs are =
    letter-below wanted letter letters so_far (letter == blank) bs are (field_from-below wanted letters)

pub field-below : (letters : List ℕ) (w wanted : ℕ) → field_of letters w wanted < 2 ^ width wanted letters
field-below letters w wanted =
    let h : field_from wanted letters 0 (bits w) < (0 + 1) * 2 ^ width wanted letters =
    field_from-below wanted letters 0 (bits w) (bits-are w) in
    omega (arith, h)

-- a fact of each row of a list
abbrev AllRows : (Row → Type 0) → List Row → Type 0
AllRows P [] = ⊤
AllRows P (row ∷ rows) = P row × AllRows P rows

at_row : (P : Row → Type 0) (rows : List Row) (i : ℕ) (row : Row) → AllRows P rows → slice_get rows i ≡ Some row → P row
at_row P [] i row all there = cc
at_row P (first ∷ rows) zero row all there = let same : first ≡ row = cc in subst P same all.0
at_row P (first ∷ rows) (suc i) row all there = at_row P rows i row all.1 there

-- the instruction of a row fits, whatever its fields are within their bits
abbrev RowFits : Row → Type 0
RowFits row = (f : ℕ → ℕ) (second : ℕ) → ((letter : ℕ) → f letter < 2 ^ width letter row.letters) → second < 65536 →
    FieldsFit (row.instr f second)

far : (k second : ℕ) → k < 64 → second < 65536 → k * 65536 + second < 2 ^ 22
far k second high word = omega arith

rows_from_84_fit : AllRows RowFits (drop 84 table)
rows_from_84_fit = ((λ f second h word. (h 114, h 98)), ((λ f second h word. (h 114, h 98)), tt))

rows_from_72_fit : AllRows RowFits (drop 72 table)
rows_from_72_fit = (
  (λ f second h word. (h 65, h 98)),
  (
    (λ f second h word. (h 65, h 98)),
    (
      (λ f second h word. (h 100, h 114)),
      (
        (λ f second h word. (h 100, h 65)),
        (
          (λ f second h word. (h 114, h 65)),
          (
            (λ f second h word. h 107),
            (
              (λ f second h word. h 107),
              (
                (λ f second h word. (h 100, h 75)),
                (
                  (λ f second h word. (h 115, h 107)),
                  (
                    (λ f second h word. (h 115, h 107)),
                    (
                      (λ f second h word. (h 100, h 98)),
                      ((λ f second h word. (h 100, h 98)), rows_from_84_fit),
                    ),
                  ),
                ),
              ),
            ),
          ),
        ),
      ),
    ),
  ),
)

rows_from_60_fit : AllRows RowFits (drop 60 table)
rows_from_60_fit = (
  (λ f second h word. tt),
  (
    (λ f second h word. tt),
    (
      (λ f second h word. tt),
      (
        (λ f second h word. tt),
        (
          (λ f second h word. tt),
          (
            (λ f second h word. tt),
            (
              (λ f second h word. let high : f 107 < 64 = h 107 in far (f 107) second high word),
              (
                (λ f second h word. let high : f 107 < 64 = h 107 in far (f 107) second high word),
                (
                  (λ f second h word. (h 100, h 75)),
                  (
                    (λ f second h word. (h 100, h 75)),
                    (
                      (λ f second h word. (h 65, h 98)),
                      ((λ f second h word. (h 65, h 98)), rows_from_72_fit),
                    ),
                  ),
                ),
              ),
            ),
          ),
        ),
      ),
    ),
  ),
)

rows_from_48_fit : AllRows RowFits (drop 48 table)
rows_from_48_fit = (
  (λ f second h word. h 100),
  (
    (λ f second h word. h 100),
    (
      (λ f second h word. h 100),
      (
        (λ f second h word. h 100),
        (
          (λ f second h word. h 100),
          (
            (λ f second h word. h 100),
            (
              (λ f second h word. h 100),
              (
                (λ f second h word. h 115),
                (
                  (λ f second h word. h 115),
                  (
                    (λ f second h word. tt),
                    (
                      (λ f second h word. tt),
                      ((λ f second h word. tt), rows_from_60_fit),
                    ),
                  ),
                ),
              ),
            ),
          ),
        ),
      ),
    ),
  ),
)

rows_from_36_fit : AllRows RowFits (drop 36 table)
rows_from_36_fit = (
  (λ f second h word. h 100),
  (
    (λ f second h word. h 100),
    (
      (λ f second h word. (h 114, word)),
      (
        (λ f second h word. h 114),
        (
          (λ f second h word. h 114),
          (
            (λ f second h word. h 114),
            (
              (λ f second h word. h 114),
              (
                (λ f second h word. h 114),
                (
                  (λ f second h word. h 114),
                  (
                    (λ f second h word. h 114),
                    (
                      (λ f second h word. h 114),
                      ((λ f second h word. h 100), rows_from_48_fit),
                    ),
                  ),
                ),
              ),
            ),
          ),
        ),
      ),
    ),
  ),
)

rows_from_24_fit : AllRows RowFits (drop 24 table)
rows_from_24_fit = (
  (λ f second h word. (h 100, h 113)),
  (
    (λ f second h word. (h 114, h 113)),
    (
      (λ f second h word. (h 114, h 113)),
      (
        (λ f second h word. (h 100, word)),
        (
          (λ f second h word. h 100),
          (
            (λ f second h word. h 100),
            (
              (λ f second h word. h 100),
              (
                (λ f second h word. h 100),
                (
                  (λ f second h word. h 100),
                  (
                    (λ f second h word. h 100),
                    (
                      (λ f second h word. h 100),
                      ((λ f second h word. h 100), rows_from_36_fit),
                    ),
                  ),
                ),
              ),
            ),
          ),
        ),
      ),
    ),
  ),
)

rows_from_12_fit : AllRows RowFits (drop 12 table)
rows_from_12_fit = (
  (λ f second h word. (h 100, h 114)),
  (
    (λ f second h word. (h 100, h 114)),
    (
      (λ f second h word. (h 100, h 114)),
      (
        (λ f second h word. (h 100, h 114)),
        (
          (λ f second h word. (h 100, h 114)),
          (
            (λ f second h word. (h 100, h 114)),
            (
              (λ f second h word. (h 100, h 75)),
              (
                (λ f second h word. (h 100, h 75)),
                (
                  (λ f second h word. (h 100, h 75)),
                  (
                    (λ f second h word. (h 100, h 75)),
                    (
                      (λ f second h word. (h 100, h 75)),
                      ((λ f second h word. (h 100, h 113)), rows_from_24_fit),
                    ),
                  ),
                ),
              ),
            ),
          ),
        ),
      ),
    ),
  ),
)

all_rows_fit : AllRows RowFits table
all_rows_fit = (
  (λ f second h word. tt),
  (
    (λ f second h word. (h 100, h 114)),
    (
      (λ f second h word. (h 100, h 114)),
      (
        (λ f second h word. (h 100, h 114)),
        (
          (λ f second h word. (h 100, h 114)),
          (
            (λ f second h word. (h 100, h 114)),
            (
              (λ f second h word. (h 100, h 114)),
              (
                (λ f second h word. (h 100, h 114)),
                (
                  (λ f second h word. (h 100, h 114)),
                  (
                    (λ f second h word. (h 100, h 114)),
                    (
                      (λ f second h word. (h 100, h 114)),
                      ((λ f second h word. (h 100, h 114)), rows_from_12_fit),
                    ),
                  ),
                ),
              ),
            ),
          ),
        ),
      ),
    ),
  ),
)

-- what a first word with a row is under a second word that is a word
pub row_fits : (first second : ℕ) → HasRow first → second < 65536 → FieldsFit (decode first second)
row_fits first second h word = subst FieldsFit (sym (h.says second))
    (at_row RowFits table h.index h.row all_rows_fit h.there (field_of h.row.letters first) second (field-below h.row.letters first) word)

pub decoded_fields_fit : DecodedFieldsFit
decoded_fields_fit first second small word = by_row (each_word_decodes first)
  where
    by_row : HasRow first ⊎ HasNone first → FieldsFit (decode first second)
    by_row (inl h) = row_fits first second h word
    by_row (inr h) = subst FieldsFit (sym (h.undefined second)) small
