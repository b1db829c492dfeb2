-- The rows of the instruction table with their forms: what holds of each of them holds of the one of a word.
use Rattle.std.proofs.Common.{◌≡◌, ℕ, zero, suc, Bool, true, List, [], ◌∷◌, length, map, slice_get, refl, ap, arith, subst}
use Rattle.std.specs.Prelude.{Option, None, Some}
use Rattle.std.specs.List.{list_all, zip}
use Rattle.avr_spec.specs.Table.{Row, table}
use Rattle.asm_spec.specs.Forms.{Form, forms}
use Rattle.asm_spec.proofs.Tests.{and_parts}
use Rattle.asm_spec.proofs.WordLetters.{is_word_of_letters}

-- the rows with their forms
abbrev pub rows : List (Row × Form)
rows = zip table forms

-- a row has a form
pub form_at : (list : List Row) (others : List Form) → length list ≡ length others → (index : ℕ) (row : Row) →
    slice_get list index ≡ Some row → (form : Form) × (slice_get (zip list others) index ≡ Some (row, form))
form_at [] others long index row there = absurd (cc)
form_at (first ∷ list) [] long index row there = absurd (omega arith)
form_at (first ∷ list) (form ∷ others) long zero row there = (form, ap (λ (o : Option Row). with_form o) there)
  where
    with_form : Option Row → Option (Row × Form)
    with_form None = None
    with_form (Some row) = Some (row, form)
form_at (first ∷ list) (form ∷ others) long (suc index) row there = form_at list others (omega arith) index row there

-- what two functions have in common at all entries of a list they have at each
pub same_at : {A E : Type 0} (f g : E → A) (list : List E) → map f list ≡ map g list → (index : ℕ) (entry : E) →
    slice_get list index ≡ Some entry → f entry ≡ g entry
same_at f g [] all index entry there = absurd (cc)
same_at f g (first ∷ list) all zero entry there =
    let same : first ≡ entry = cc in let head : f first ≡ g first = cc in subst (λ e. f e ≡ g e) same head
same_at f g (first ∷ list) all (suc index) entry there =
    let rest : map f list ≡ map g list = cc in same_at f g list rest index entry there

-- what is found true of all entries of a list is true of each
pub true_at : {E : Type 0} (test : E → Bool) (list : List E) → list_all test list ≡ true → (index : ℕ) (entry : E) →
    slice_get list index ≡ Some entry → test entry ≡ true
true_at test [] all index entry there = absurd (cc)
true_at test (first ∷ list) all zero entry there =
    let same : first ≡ entry = cc in subst (λ e. test e ≡ true) same (and_parts (test first) (list_all test list) all).0
true_at test (first ∷ list) all (suc index) entry there =
    true_at test list (and_parts (test first) (list_all test list) all).1 index entry there

-- the letters of each row stand for a word
pub rows_are_words : list_all (λ (entry : Row × Form). is_word_of_letters entry.0.letters) rows ≡ true
rows_are_words = refl
