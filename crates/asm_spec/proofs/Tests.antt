-- Tests of two parts, and of all elements of a list.
use Rattle.std.proofs.Common.{◌≡◌, ◌&&◌, Bool, true, false, List, [], ◌∷◌, ◌++◌, refl, ap, ◌∙◌}
use Rattle.std.specs.Prelude.{not, reverse}
use Rattle.std.specs.List.{list_all}
use Rattle.std.proofs.lemmas.List.{reverse-append}
use Rattle.std.proofs.lemmas.List.Folds.{list_all-append}

pub and_parts : (a b : Bool) → (a && b) ≡ true → (a ≡ true) × (b ≡ true)
and_parts true b h = (refl, h)
and_parts false b h = cc

pub and_both : (a b : Bool) → a ≡ true → b ≡ true → (a && b) ≡ true
and_both true b h k = k
and_both false b h k = cc

pub second_false : (a b : Bool) → b ≡ false → (a && b) ≡ false
second_false true b h = h
second_false false b h = refl

pub first_false : (a b : Bool) → a ≡ false → (a && b) ≡ false
first_false true b h = cc
first_false false b h = refl

pub not_true : (b : Bool) → not b ≡ true → b ≡ false
not_true true h = cc
not_true false h = refl

module _ {X : Type 0} where
  -- a test that follows from another one
  pub all_weaker : (p q : X → Bool) → ((x : X) → p x ≡ true → q x ≡ true) → (xs : List X) → list_all p xs ≡ true → list_all q xs ≡ true
  all_weaker p q from [] h = refl
  all_weaker p q from (x ∷ xs) h =
      let parts = and_parts (p x) (list_all p xs) h in
      and_both (q x) (list_all q xs) (from x parts.0) (all_weaker p q from xs parts.1)

  -- a test of two lists
  pub all_append : (p : X → Bool) (xs ys : List X) → list_all p xs ≡ true → list_all p ys ≡ true → list_all p (xs ++ ys) ≡ true
  all_append p xs ys h k = list_all-append p xs ys ∙ and_both (list_all p xs) (list_all p ys) h k

  -- a test of a list from its end
  pub all_reverse : (p : X → Bool) (xs : List X) → list_all p xs ≡ true → list_all p (reverse xs) ≡ true
  all_reverse p [] h = refl
  all_reverse p (x ∷ xs) h =
      let parts = and_parts (p x) (list_all p xs) h in
      ap (list_all p) (reverse-append (x ∷ []) xs) ∙
      all_append p (reverse xs) (x ∷ []) (all_reverse p xs parts.1) (and_both (p x) true parts.0 refl)
