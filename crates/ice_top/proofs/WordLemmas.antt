-- Lemmas on the words of the command line.
use Rattle.std.proofs.Common.{◌≡◌, ℕ, Bool, true, false, not, refl, ◌<◌, ◌≤◌, inl, inr, List, [], ◌∷◌, length, get_or, arith}
use Rattle.std.specs.Prelude.{◌↔◌, MatchOption, Option, None, Some, string_bytes}
use Rattle.std.specs.declared.alloc.Global.{Global}
use Rattle.std.specs.declared.string.String.{String}
use Rattle.part_spec.specs.declared.part.Part.TheVariants.{M16, M32}
use Rattle.ice_top.specs.Calls.{form_told}
use Rattle.ice_top.specs.declared.words.Call.{Call}
use Rattle.ice_top.specs.Words.{HasNoForm, Names, NamesPart, NamesNone, Says, SaysNone, texts}

-- three words as texts
pub texts_three : (words : List (String Global)) (first second third : String Global) → 3 ≤ length words → length words < 4
    → first ≡ get_or words 0 first → second ≡ get_or words 1 second → third ≡ get_or words 2 third
    → texts words ≡ string_bytes first ∷ string_bytes second ∷ string_bytes third ∷ []
texts_three [] a b c low high p q r = absurd (omega arith)
texts_three (x ∷ []) a b c low high p q r = absurd (omega arith)
texts_three (x ∷ y ∷ []) a b c low high p q r = absurd (omega arith)
texts_three (x ∷ y ∷ z ∷ []) a b c low high p q r = cc
texts_three (x ∷ y ∷ z ∷ w ∷ more) a b c low high p q r = absurd (omega arith)

-- two words as texts
pub texts_two : (words : List (String Global)) (first second : String Global) → 2 ≤ length words → length words < 3
    → first ≡ get_or words 0 first → second ≡ get_or words 1 second → texts words ≡ string_bytes first ∷ string_bytes second ∷ []
texts_two [] a b low high p q = absurd (omega arith)
texts_two (x ∷ []) a b low high p q = absurd (omega arith)
texts_two (x ∷ y ∷ []) a b low high p q = cc
texts_two (x ∷ y ∷ z ∷ more) a b low high p q = absurd (omega arith)

-- one word as a text
pub texts_one : (words : List (String Global)) (first : String Global) → 1 ≤ length words → length words < 2
    → first ≡ get_or words 0 first → texts words ≡ string_bytes first ∷ []
texts_one [] a low high p = absurd (omega arith)
texts_one (x ∷ []) a low high p = cc
texts_one (x ∷ y ∷ more) a low high p = absurd (omega arith)

-- a test that fails in the negative holds
pub not_false : (test : Bool) → false ≡ not test → test ≡ true
not_false true e = refl
not_false false e = e

-- and does not fail
pub not_true : (test : Bool) → true ≡ not test → test ≡ true → ⊥
not_true true e h = cc
not_true false e h = cc

-- the parts are two
parts_ne : M16 ≡ M32 → ⊥
parts_ne e = cc

-- what words say that have no form, and name a part or none
pub Says-named : (words : List (List ℕ)) → HasNoForm words → NamesNone words → SaysNone words
Says-named words none unnamed form part (inl s) = none form s.0
Says-named words none unnamed form part (inr s) = unnamed part (form, s)

-- where no call is said, no part is named
pub NamesPart-none : (words : List (List ℕ)) → SaysNone words → (M16 ≡ M32) ↔ NamesPart words M32
NamesPart-none words none = (λ e. absurd (parts_ne e), λ n. absurd (none n.0 M32 (inr n.1)))

-- the call of words that have no form
pub call_named : (words : List (String Global)) (call : Option Call) → HasNoForm (texts words)
    → MatchOption call (NamesNone (texts words)) (λ call. Names (texts words) (form_told call.form) call.part)
    → MatchOption call (SaysNone (texts words)) (λ call. Says (texts words) (form_told call.form) call.part)
call_named words None none named = Says-named (texts words) none named
call_named words (Some call) none named = inr named
