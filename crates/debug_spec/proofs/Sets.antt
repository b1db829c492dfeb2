-- Sets of addresses, and the words of a program with a set planted in it.
use Rattle.std.proofs.Common.{◌≡◌, ℕ, zero, suc, ◌+◌, ◌<◌, ◌==◌, ◌||◌, cond, Bool, true, false, List, [], ◌∷◌, length, get_or, refl, sym}
use Rattle.std.proofs.Common.{◌∙◌, ap, subst, arith}
use Rattle.std.proofs.lemmas.Bool.{or_from, cond-true, cond-false, eqb-false, ne_eqb, eqb-true, true≢false}
use Rattle.debug_spec.specs.Patch.{break_word, has, without, patched_from, patch}

-- a set without an address does not have it
pub has-without : (a : ℕ) (set : List ℕ) → has (without a set) a ≡ false
has-without a [] = refl
has-without a (b ∷ set) = by_test (a == b) refl (has-without a set)
  where
    by_test : (t : Bool) → (a == b) ≡ t → has (without a set) a ≡ false → has (cond t (without a set) (b ∷ without a set)) a ≡ false
    by_test true e later = later
    by_test false e later = or_from (a == b) (has (without a set) a) e later

-- it has the others
pub has-without_other : (a c : ℕ) (set : List ℕ) → (a ≡ c → ⊥) → has (without a set) c ≡ has set c
has-without_other a c [] apart = refl
has-without_other a c (b ∷ set) apart = by_test (a == b) refl (has-without_other a c set apart)
  where
    by_test : (t : Bool) → (a == b) ≡ t → has (without a set) c ≡ has set c →
        has (cond t (without a set) (b ∷ without a set)) c ≡ ((c == b) || has set c)
    by_test true e later = later ∙ ap (λ (t : Bool). t || has set c) (sym (ne_eqb c b (λ h. apart (eqb-true a b e ∙ sym h))))
    by_test false e later = ap (λ (t : Bool). (c == b) || t) later

-- a set that does not have an address is the same without it
pub has-without_absent : (a : ℕ) (set : List ℕ) → has set a ≡ false → (c : ℕ) → has (without a set) c ≡ has set c
has-without_absent a set h c = by_test (a == c) refl
  where
    by_test : (t : Bool) → (a == c) ≡ t → has (without a set) c ≡ has set c
    by_test true e = subst (λ (k : ℕ). has (without a set) k ≡ has set k) (eqb-true a c e) (has-without a set ∙ sym h)
    by_test false e = has-without_other a c set (eqb-false a c e)

-- it has no more
pub has-within : (a c : ℕ) (set : List ℕ) → has (without a set) c ≡ true → has set c ≡ true
has-within a c set h = by_test (a == c) refl
  where
    by_test : (t : Bool) → (a == c) ≡ t → has set c ≡ true
    by_test true e =
        absurd (true≢false (sym h ∙ subst (λ (k : ℕ). has (without a set) k ≡ false) (eqb-true a c e) (has-without a set)))
    by_test false e = sym (has-without_other a c set (eqb-false a c e)) ∙ h

-- the words of a program at addresses that are not planted, and at those that are
pub word-kept : (words set : List ℕ) (from i : ℕ) → has set (from + i) ≡ false → get_or (patched_from from words set) i 0 ≡ get_or words i 0
word-kept [] set from i h = refl
word-kept (word ∷ words) set from zero h =
    let here : from + 0 ≡ from = omega arith in
    cond-false (has set from) break_word word (subst (λ (k : ℕ). has set k ≡ false) here h)
word-kept (word ∷ words) set from (suc i) h =
    let here : from + suc i ≡ suc from + i = omega arith in
    word-kept words set (suc from) i (subst (λ (k : ℕ). has set k ≡ false) here h)

pub word-planted : (words set : List ℕ) (from i : ℕ) → has set (from + i) ≡ true → i < length words →
    get_or (patched_from from words set) i 0 ≡ break_word
word-planted [] set from i h inside = absurd (omega arith)
word-planted (word ∷ words) set from zero h inside =
    let here : from + 0 ≡ from = omega arith in
    cond-true (has set from) break_word word (subst (λ (k : ℕ). has set k ≡ true) here h)
word-planted (word ∷ words) set from (suc i) h inside =
    let here : from + suc i ≡ suc from + i = omega arith in
    word-planted words set (suc from) i (subst (λ (k : ℕ). has set k ≡ true) here h) (omega arith)

pub patch-kept : (prog set : List ℕ) (i : ℕ) → has set i ≡ false → get_or (patch prog set) i 0 ≡ get_or prog i 0
patch-kept prog set i h = let here : i ≡ 0 + i = omega arith in word-kept prog set 0 i (subst (λ (k : ℕ). has set k ≡ false) here h)

pub patch-planted : (prog set : List ℕ) (i : ℕ) → has set i ≡ true → i < length prog → get_or (patch prog set) i 0 ≡ break_word
patch-planted prog set i h inside = let here : i ≡ 0 + i =
    omega arith in word-planted prog set 0 i (subst (λ (k : ℕ). has set k ≡ true) here h) inside

pub length-patched_from : (words set : List ℕ) (from : ℕ) → length (patched_from from words set) ≡ length words
length-patched_from [] set from = refl
length-patched_from (word ∷ words) set from = ap suc (length-patched_from words set (suc from))

pub length-patch : (prog set : List ℕ) → length (patch prog set) ≡ length prog
length-patch prog set = length-patched_from prog set 0
