-- Marks stay the checks of the places, whatever is added to the bytes held or dropped from them.
use Rattle.std.proofs.Common.{◌≡◌, ℕ, zero, suc, ◌+◌, ◌<◌, ◌≤◌, List, [], ◌∷◌, ◌++◌, length, get_or, take, drop, inl, inr, refl, sym, ap, ◌∙◌, subst₂, append_assoc, length-append, length-drop, arith}
use Rattle.std.proofs.lemmas.Bool.{cases_lt}
use Rattle.std.proofs.lemmas.List.{get_or_append_left, take-append-le, take_more}
use Rattle.std.proofs.lemmas.List.Sums.{fold-append}
use Rattle.std.proofs.Math.Seq.{get_or-append_seam}
use Rattle.line_spec.specs.Check.{check, checked}
use Rattle.ice_recv.specs.Marks.{AreMarks}

pub AreMarks-empty : (marks held : List ℕ) → marks ≡ [] → AreMarks marks held
AreMarks-empty marks held e = record { ahead = []; within = omega (arith, ap length e); each = λ i less. omega (arith, less, ap length e) }

-- the first mark
pub AreMarks-first : (marks held : List ℕ) → length marks ≡ 0 → AreMarks (marks ++ 0xFFFF ∷ []) held
unfolding check
AreMarks-first [] held e = record {
  ahead = [];
  within = omega arith;
  each = λ i less. (let first : i ≡ 0 = omega (arith, less) in rw first refl);
}
AreMarks-first (mark ∷ marks) held e = absurd (omega (arith, e))

check_more : (x : List ℕ) (b : ℕ) → check (x ++ b ∷ []) ≡ checked (check x) b
unfolding check
check_more x b = fold-append checked 0xFFFF x (b ∷ [])

-- one mark more
pub AreMarks-more : (marks held : List ℕ) (place mark : ℕ) → AreMarks marks held → length marks ≡ place + 1 → place < length held
    → mark ≡ checked (get_or marks place 0) (get_or held place 0) → AreMarks (marks ++ mark ∷ []) held
AreMarks-more marks held place mark m e h c = record {
  ahead = m.ahead;
  within = omega (arith, e, h, length-append marks (mark ∷ []));
  each = λ i less. elim (cases_lt i (length marks)) [
    | inl before ↦ get_or_append_left marks (mark ∷ []) 0 i before ∙ m.each i before
    | inr after ↦ (let last : i ≡ length marks = omega (arith, less, after, length-append marks (mark ∷ [])) in
        let next : i ≡ place + 1 = omega (arith, last, e) in
        ap (λ (k : ℕ). get_or (marks ++ mark ∷ []) k 0) last ∙ get_or-append_seam marks mark [] 0 ∙ c
        ∙ ap (λ (r : ℕ). checked r (get_or held place 0)) (m.each place (omega (arith, e)))
        ∙ sym (check_more (m.ahead ++ take place held) (get_or held place 0))
        ∙ ap (λ (t : List ℕ). check t) (append_assoc m.ahead (take place held) (get_or held place 0 ∷ [])
        ∙ ap (λ (t : List ℕ). m.ahead ++ t) (sym (take_more held place 0 h)) ∙ ap (λ (k : ℕ). m.ahead ++ take k held) (sym next)))
  ];
}

-- one byte more is held
pub AreMarks-byte : (marks held now : List ℕ) (b : ℕ) → now ≡ held ++ b ∷ [] → AreMarks marks held → AreMarks marks now
AreMarks-byte marks held now b e m = record {
  ahead = m.ahead;
  within = omega (arith, m.within, ap length e, length-append held (b ∷ []));
  each = λ i less. m.each i less
      ∙ ap (λ (t : List ℕ). check (m.ahead ++ t)) (sym (take-append-le i held (b ∷ []) (omega (arith, less, m.within)))
      ∙ ap (λ (t : List ℕ). take i t) (sym e));
}

take_none : (n : ℕ) → take {A = ℕ} n [] ≡ []
take_none zero = refl
take_none (suc n) = refl

pub take_sum : (n k : ℕ) (x : List ℕ) → take (n + k) x ≡ take n x ++ take k (drop n x)
take_sum zero k x = let same : 0 + k ≡ k = omega arith in ap (λ (m : ℕ). take m x) same
take_sum (suc n) k [] = take_none (suc n + k) ∙ sym (take_none k)
take_sum (suc n) k (a ∷ x) =
    let same : suc n + k ≡ suc (n + k) = omega arith in
    ap (λ (m : ℕ). take m (a ∷ x)) same ∙ ap (λ (t : List ℕ). a ∷ t) (take_sum n k x)

get_or_none : (i : ℕ) → let none : List ℕ = [] in get_or none i 0 ≡ get_or none 0 0
get_or_none zero = refl
get_or_none (suc i) = refl

get_or_drop : (n i : ℕ) (x : List ℕ) → get_or (drop n x) i 0 ≡ get_or x (n + i) 0
get_or_drop zero i x = let same : i ≡ 0 + i = omega arith in ap (λ (m : ℕ). get_or x m 0) same
get_or_drop (suc n) i [] = get_or_none i ∙ sym (get_or_none (suc n + i))
get_or_drop (suc n) i (a ∷ x) =
    let same : suc (n + i) ≡ suc n + i = omega arith in
    get_or_drop n i x ∙ ap (λ (m : ℕ). get_or (a ∷ x) m 0) same

-- bytes are dropped from the front, and their marks
AreMarks-drop : (marks held : List ℕ) (n : ℕ) → n ≤ length held → AreMarks marks held → AreMarks (drop n marks) (drop n held)
AreMarks-drop marks held n h m = record {
  ahead = m.ahead ++ take n held;
  within = omega (arith, h, m.within, length-drop n marks, length-drop n held);
  each = λ i less.
      get_or_drop n i marks ∙ m.each (n + i) (omega (arith, less, length-drop n marks))
      ∙ ap (λ (t : List ℕ). check t) (ap (λ (t : List ℕ). m.ahead ++ t) (take_sum n i held)
      ∙ sym (append_assoc m.ahead (take n held) (take i (drop n held))));
}

pub AreMarks-dropped : (marks held now left : List ℕ) (n : ℕ) → now ≡ drop n marks → left ≡ drop n held → n ≤ length held
    → AreMarks marks held → AreMarks now left
AreMarks-dropped marks held now left n e f h m =
    let P : List ℕ → List ℕ → Type 0 = λ s t. AreMarks s t in subst₂ P (sym e) (sym f) (AreMarks-drop marks held n h m)
