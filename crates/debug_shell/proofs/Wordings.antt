-- The words of a line, one by one.
use Rattle.std.proofs.Common.{◌≡◌, ℕ, suc, ◌+◌, ◌<◌, ◌≤◌, List, [], ◌∷◌, true, false, length, get_or, take, drop, ◌-◌, add-one, refl, sym, ap, subst, ◌∙◌, length-take, inl, inr, ap₂, arith}
use Rattle.std.proofs.Math.Seq.{drop-cons}
use Rattle.std.proofs.lemmas.Bool.{cases_lt}
use Rattle.std.proofs.lemmas.List.{drop_all, take_all, take_rest}
use Rattle.std.proofs.lemmas.List.Splits.{slice_split-cons_yes, slice_split_first, slice_split_none}
use Rattle.std.proofs.lemmas.List.Sums.{fails_before_first, passes_at_first}
use Rattle.std.specs.List.{position_or_len, slice_split}
use Rattle.shell_spec.specs.Words.{is_blank, words_among, words_from}
use Rattle.debug_shell.specs.Rests.{BeginsWord}

-- a blank is passed over
pub words_from-blank : (column byte : ℕ) (bytes : List ℕ) → is_blank byte ≡ true
    → words_from column (byte ∷ bytes) ≡ words_from (column + 1) bytes
words_from-blank column byte bytes blank = ap (words_among column) (slice_split-cons_yes is_blank byte bytes blank)

pub words_from-skip : (column : ℕ) (bytes : List ℕ) → 1 ≤ length bytes → is_blank (get_or bytes 0 0) ≡ true
    → words_from column bytes ≡ words_from (column + 1) (take (length bytes - 1) (drop 1 bytes))
words_from-skip column [] some blank = absurd (omega arith)
words_from-skip column (byte ∷ bytes) some blank =
    words_from-blank column byte bytes blank ∙ ap (words_from (column + 1)) (sym (take_rest (byte ∷ bytes) 1))

pub begins : (bytes : List ℕ) → is_blank (get_or bytes 0 0) ≡ false → BeginsWord bytes
begins [] other = tt
begins (byte ∷ bytes) other = other

pub begins-none : (bytes : List ℕ) → length bytes < 1 → BeginsWord bytes
begins-none [] none = tt
begins-none (byte ∷ bytes) none = absurd (omega arith)

-- a part that is not empty is a word
words_among-part : (column : ℕ) (part : List ℕ) (parts : List (List ℕ)) → 0 < length part
    → words_among column (part ∷ parts) ≡ record { column = column; bytes = part } ∷ words_among (column + length part + 1) parts
words_among-part column [] parts some = absurd (omega arith)
words_among-part column (byte ∷ part) parts some = refl

-- what begins with a word is that word, up to the first blank, and then what stands behind it
words_from-first : (column : ℕ) (bytes : List ℕ) (end : ℕ) → 0 < end → end ≡ position_or_len is_blank bytes → end < length bytes
    → words_from column bytes ≡ record { column = column; bytes = take end bytes } ∷ words_from (column + end) (drop end bytes)
words_from-first column bytes end some at inside =
    let P : ℕ → Type 0 = λ n. slice_split is_blank bytes ≡ take n bytes ∷ slice_split is_blank (drop (n + 1) bytes) in
    let cut : P end = subst P (sym at) (slice_split_first is_blank bytes 0 (omega (arith, at))) in
    let Q : ℕ → Type 0 = λ n. is_blank (get_or bytes n 0) ≡ true in
    let blank : Q end = subst Q (sym at) (passes_at_first is_blank bytes 0 (omega (arith, at))) in
    let size : length (take end bytes) ≡ end = omega (arith, length-take end bytes) in
    let later : words_from (column + end) (drop end bytes) ≡ words_from (column + end + 1) (drop (end + 1) bytes) =
    ap (words_from (column + end)) (drop-cons bytes end 0 inside) ∙ words_from-blank (column + end) (get_or bytes end 0) (drop (suc end) bytes) blank
    ∙ ap (λ n. words_from (column + end + 1) (drop n bytes)) (sym (add-one end)) in
    ap (words_among column) cut
    ∙ words_among-part column (take end bytes) (slice_split is_blank (drop (end + 1) bytes)) (omega (arith, size))
    ∙ ap (λ n. record { column = column; bytes = take end bytes } ∷ words_from (column + n + 1) (drop (end + 1) bytes)) size
    ∙ ap (λ words. record { column = column; bytes = take end bytes } ∷ words) (sym later)

words_from-last : (column : ℕ) (bytes : List ℕ) → 0 < length bytes → length bytes ≡ position_or_len is_blank bytes
    → words_from column bytes ≡ record { column = column; bytes = bytes } ∷ []
words_from-last column bytes some at =
    ap (words_among column) (slice_split_none is_blank bytes (λ k d inside. fails_before_first is_blank bytes k d (omega (arith, at))))
    ∙ words_among-part column bytes [] some

pub position-some : (bytes : List ℕ) → 0 < length bytes → BeginsWord bytes → 0 < position_or_len is_blank bytes
position-some [] some other = absurd (omega arith)
position-some (byte ∷ bytes) some other = rw other (omega arith)

pub words_from-word : (column : ℕ) (bytes : List ℕ) (end : ℕ) → 0 < length bytes → BeginsWord bytes → end ≡ position_or_len is_blank bytes
    → end ≤ length bytes
    → words_from column bytes ≡ record { column = column; bytes = take end bytes } ∷ words_from (column + end) (drop end bytes)
words_from-word column bytes end some other at within =
    let first = position-some bytes some other in
    elim (cases_lt end (length bytes)) [
      | inl inside ↦ words_from-first column bytes end (omega (arith, at, first)) at inside
      | inr whole ↦ words_from-last column bytes some (omega (arith, whole, within, at))
          ∙ ap₂ (λ (part behind : List ℕ). record { column = column; bytes = part } ∷ words_from (column + end) behind)
          (sym (take_all end bytes whole)) (sym (drop_all end bytes whole))
    ]
