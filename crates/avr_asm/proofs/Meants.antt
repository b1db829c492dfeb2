-- What operands mean, one by one.
use Rattle.std.proofs.Common.{◌≡◌, ℕ, ◌≤◌, List, [], ◌∷◌, length, refl, sym, ap, ◌∙◌, subst, arith}
use Rattle.std.specs.Prelude.{Option, None, Some, option_map}
use Rattle.part_spec.specs.Chip.{Chip}
use Rattle.asm_spec.specs.Forms.{Operand}
use Rattle.asm_spec.specs.Reading.{Meaning, Meant, and_more, meaning, meanings}
use Rattle.std.specs.Borrow.{Bor}
use Rattle.avr_asm.specs.declared.statements.Few.{Few}
use Rattle.avr_asm.specs.declared.statements.Few.TheVariants.{One, Two, More}
use Rattle.avr_asm.specs.Statements.{AreFew}

-- what stands for operands
pub few_one : (few : Few) (bytes : Bor (List ℕ)) (operands : List (List ℕ)) → few ≡ One bytes → AreFew few operands → operands ≡ bytes.now ∷ []
few_one few bytes operands is are = subst (λ (f : Few). AreFew f operands) is are

pub few_two : (few : Few) (first second : Bor (List ℕ)) (operands : List (List ℕ)) → few ≡ Two first second → AreFew few operands →
    operands ≡ first.now ∷ second.now ∷ []
few_two few first second operands is are = subst (λ (f : Few). AreFew f operands) is are

pub few_more : (few : Few) (operands : List (List ℕ)) → few ≡ More → AreFew few operands → 3 ≤ length operands
few_more few operands is are = subst (λ (f : Few). AreFew f operands) is are

-- an operand with a meaning
abbrev pub meant_as : Operand → Meaning → Meant
meant_as operand m = record { operand = operand; meaning = m }

abbrev pub meant_found : Operand → Option Meaning → Option Meant
meant_found operand found = option_map (λ m. record { operand = operand; meaning = m }) found

more_found : (operand : Operand) (found : Option Meaning) (meant : Meant) (more : List Meant) → Some meant ≡ meant_found operand found →
    and_more operand found (Some more) ≡ Some (meant ∷ more)
more_found operand None meant more is = absurd (cc)
more_found operand (Some m) meant more is =
    let same : meant ≡ meant_as operand m = cc in
    ap (λ (x : Meant). Some (x ∷ more)) (sym same)

none_found : (operand : Operand) (found : Option Meaning) (more : Option (List Meant)) → None ≡ meant_found operand found →
    and_more operand found more ≡ None
none_found operand None more is = refl
none_found operand (Some m) more is = absurd (cc)

none_behind : (operand : Operand) (found : Option Meaning) → and_more operand found None ≡ None
none_behind operand None = refl
none_behind operand (Some m) = refl

module _ (part : Chip) (letters : List ℕ) where
  pub meant_one : (operand : Operand) (bytes : List ℕ) (operands : List (List ℕ)) (meant : Meant) →
      Some meant ≡ meant_found operand (meaning part letters operand bytes) → operands ≡ bytes ∷ [] →
      Some (meant ∷ []) ≡ meanings part letters (operand ∷ []) operands
  meant_one operand bytes operands meant found are =
      sym (ap (meanings part letters (operand ∷ [])) are ∙ more_found operand (meaning part letters operand bytes) meant [] found)

  pub meant_two : (left right : Operand) (first second : List ℕ) (operands : List (List ℕ)) (one other : Meant) →
      Some one ≡ meant_found left (meaning part letters left first) → Some other ≡ meant_found right (meaning part letters right second) →
      operands ≡ first ∷ second ∷ [] → Some (one ∷ other ∷ []) ≡ meanings part letters (left ∷ right ∷ []) operands
  meant_two left right first second operands one other found found_other are =
      sym (ap (meanings part letters (left ∷ right ∷ [])) are
      ∙ ap (and_more left (meaning part letters left first)) (more_found right (meaning part letters right second) other [] found_other)
      ∙ more_found left (meaning part letters left first) one (other ∷ []) found)

  pub second_none : (left right : Operand) (first second : List ℕ) (operands : List (List ℕ)) →
      None ≡ meant_found right (meaning part letters right second) → operands ≡ first ∷ second ∷ [] →
      None ≡ meanings part letters (left ∷ right ∷ []) operands
  second_none left right first second operands found are =
      sym (ap (meanings part letters (left ∷ right ∷ [])) are
      ∙ ap (and_more left (meaning part letters left first)) (none_found right (meaning part letters right second) (Some []) found)
      ∙ none_behind left (meaning part letters left first))

  pub too_many : (left right : Operand) (operands : List (List ℕ)) → 3 ≤ length operands → None ≡ meanings part letters (left ∷ right ∷ []) operands
  too_many left right [] many = absurd (omega arith)
  too_many left right (first ∷ []) many = absurd (omega arith)
  too_many left right (first ∷ second ∷ []) many = absurd (omega arith)
  too_many left right (first ∷ second ∷ third ∷ more) many =
      sym (ap (and_more left (meaning part letters left first)) (none_behind right (meaning part letters right second))
      ∙ none_behind left (meaning part letters left first))
