-- Lemmas on the numbers of STOPS.
use Rattle.std.proofs.Common.{◌≡◌, ℕ, ◌+◌, ◌-◌, ◌*◌, ◌<◌, ◌≤◌, List, [], ◌∷◌, ◌++◌, length, get_or, map, take, take_all, drop}
use Rattle.std.proofs.Common.{ap, sym, subst, ◌∙◌, arith, eqb}
use Rattle.std.specs.Prelude.{All}
use Rattle.std.specs.List.{fold}
use Rattle.std.proofs.lemmas.List.{take-append-drop, take_more, map-append, length_push, length-map}
use Rattle.std.proofs.lemmas.List.Splits.{length-slice_split}
use Rattle.std.proofs.lemmas.List.Elements.{All-more, All-map}
use Rattle.std.proofs.lemmas.List.Sums.{fold-append, fold_more}
use Rattle.run_control.specs.Ends.{AreStops}
use Rattle.ice_top.specs.Stops.{number_of, numbers_of, IsStop, IsStops, pieces_of}

-- further digits make a number no smaller
fold_from-le : (n : ℕ) (digits : List ℕ) → n ≤ fold (λ n digit. 10 * n + (digit - 48)) n digits
fold_from-le n [] = omega arith
fold_from-le n (digit ∷ digits) = omega (arith, fold_from-le (10 * n + (digit - 48)) digits)

-- the first digits spell no greater number than all
pub number_of-take-le : (i : ℕ) (digits : List ℕ) → number_of (take i digits) ≤ number_of digits
number_of-take-le i digits =
    omega (
      arith,
      fold_from-le (number_of (take i digits)) (drop i digits),
      fold-append (λ n digit. 10 * n + (digit - 48)) 0 (take i digits) (drop i digits),
      ap number_of (take-append-drop i digits),
    )

-- one digit more
pub number_of_more : (digits : List ℕ) (i : ℕ) → i < length digits
    → number_of (take (i + 1) digits) ≡ 10 * number_of (take i digits) + (get_or digits i 0 - 48)
number_of_more digits i h = fold_more (λ n digit. 10 * n + (digit - 48)) 0 digits i 0 h

-- the first n pieces are numbers, and these are they
pub record Read (text : List ℕ) (n : ℕ) (stops : List ℕ) : Type 0 where
  pub each : All IsStop (take n (pieces_of text))
  pub values : stops ≡ map number_of (take n (pieces_of text))
  pub count : length stops ≡ n

-- one piece more, and its number
pub Read-more : (text : List ℕ) (n more number : ℕ) (stops after piece : List ℕ) → Read text n stops → n < length (pieces_of text)
    → piece ≡ get_or (pieces_of text) n piece → IsStop piece → number ≡ number_of piece → after ≡ stops ++ number ∷ [] → more ≡ n + 1
    → Read text more after
Read-more text n more number stops after piece r h e s value pushed next =
    let Front : ℕ → Type 0 = λ k. All IsStop (take k (pieces_of text)) in
    let front = take_more (pieces_of text) n piece h in
    let parts = map-append number_of (take n (pieces_of text)) (get_or (pieces_of text) n piece ∷ []) in
    let values = r.values in
    record {
      each = subst Front (sym next) (All-more IsStop (pieces_of text) n piece h r.each (subst IsStop e s));
      values = cc;
      count = omega (arith, r.count, next, ap length pushed, length_push stops number);
    }

-- all pieces
pub Read-all : (text : List ℕ) (n : ℕ) (stops : List ℕ) → Read text n stops → n ≡ length (pieces_of text) → n ≤ 64
    → IsStops text × (stops ≡ numbers_of text)
Read-all text n stops r e h =
    let whole : take n (pieces_of text) ≡ pieces_of text = take_all n (pieces_of text) (omega arith) in (
      record { count = omega arith; each = subst (All IsStop) whole r.each },
      r.values ∙ ap (map number_of) whole,
    )

-- a piece that is no number
pub IsStops-other : (text : List ℕ) (n : ℕ) (piece : List ℕ) → n < length (pieces_of text) → piece ≡ get_or (pieces_of text) n piece
    → (IsStop piece → ⊥) → IsStops text → ⊥
IsStops-other text n piece h e other s = other (subst IsStop (sym e) (s.each n piece h))

-- there is a number, and each is of some steps
pub AreStops-numbers : (text stops : List ℕ) → IsStops text → stops ≡ numbers_of text → AreStops stops
AreStops-numbers text stops valid e =
    subst AreStops (sym e) (
      omega (arith, length-map (pieces_of text) number_of, length-slice_split (λ byte. eqb byte 44) text),
      All-map (λ steps. 0 < steps) number_of (pieces_of text) (λ k d h. omega (arith, (valid.each k d h).from_least)),
    )
