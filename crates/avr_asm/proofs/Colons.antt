-- A line up to its colon, and what it says.
use Rattle.std.proofs.Common.{◌≡◌, ℕ, suc, ◌+◌, ◌<◌, ◌≤◌, Bool, true, false, List, [], ◌∷◌, length, take, drop, refl, sym, ap, ◌∙◌, arith}
use Rattle.std.specs.Prelude.{◌==◌, Option, None, Some, Result, Ok, Err}
use Rattle.part_spec.specs.Chip.{Chip}
use Rattle.asm_spec.specs.declared.kind.AsmKind.{AsmKind}
use Rattle.asm_spec.specs.declared.kind.AsmKind.TheVariants.{Text}
use Rattle.asm_spec.specs.Tokens.{behind_blanks, is_name, statement_of, trimmed}
use Rattle.asm_spec.specs.Reading.{Order, at_colon, by_colon, labelled, order_in, order_of, reading, with_front, without_comment}
use Rattle.avr_asm.specs.Orders.{capped_answer}
use Rattle.avr_asm.specs.Readings.{capped_line}
use Rattle.avr_asm.proofs.Fronts.{front_here, front_of, front_past}

-- what a line says, by its colon
pub reading_is : (part : Chip) (line said : List ℕ) → said ≡ without_comment line →
    capped_line (by_colon part said (at_colon said)) ≡ capped_line (reading part line)
unfolding reading
reading_is part line said is = ap (λ (l : List ℕ). capped_line (by_colon part l (at_colon l))) is

-- a statement
pub order_some : (part : Chip) (bytes : List ℕ) (empty : Bool) → empty ≡ (length bytes == 0) → empty ≡ false →
    order_in part bytes ≡ order_of part (statement_of bytes)
order_some part [] empty is never = absurd (let wrong : true ≡ false = sym is ∙ never in cc)
order_some part (first ∷ more) empty is never = refl

-- a line cut at a place
abbrev cut_at : ℕ → List ℕ → Option (List ℕ × List ℕ)
cut_at end bytes = Some (take end bytes, drop (end + 1) bytes)

cut_suc : (first end : ℕ) (more : List ℕ) → with_front first (cut_at end more) ≡ cut_at (suc end) (first ∷ more)
cut_suc first end more = ap (λ (k : ℕ). Some (first ∷ take end more, drop k (first ∷ more))) (let e : suc (end + 1) ≡ suc end + 1 = omega arith in e)

found_step : (first : ℕ) (more : List ℕ) (b : Bool) → (first == 0x3a) ≡ b →
    (front_of 0x3a more < length more → at_colon more ≡ cut_at (front_of 0x3a more) more) →
    front_of 0x3a (first ∷ more) < length (first ∷ more) → at_colon (first ∷ more) ≡ cut_at (front_of 0x3a (first ∷ more)) (first ∷ more)
found_step first more true h rest inside =
    let here : at_colon (first ∷ more) ≡ cut_at 0 (first ∷ more) = rw h refl in
    here ∙ ap (λ (k : ℕ). cut_at k (first ∷ more)) (sym (front_here 0x3a first more h))
found_step first more false h rest inside =
    let within : front_of 0x3a more < length more = omega (arith, inside, front_past 0x3a first more h) in
    let here : at_colon (first ∷ more) ≡ with_front first (at_colon more) = rw h refl in
    here ∙ ap (with_front first) (rest within) ∙ cut_suc first (front_of 0x3a more) more
    ∙ ap (λ (k : ℕ). cut_at k (first ∷ more)) (sym (front_past 0x3a first more h))

pub colon_found : (bytes : List ℕ) → front_of 0x3a bytes < length bytes → at_colon bytes ≡ cut_at (front_of 0x3a bytes) bytes
colon_found [] inside = absurd (omega (arith, inside))
colon_found (first ∷ more) inside = found_step first more (first == 0x3a) refl (λ within. colon_found more within) inside

none_step : (first : ℕ) (more : List ℕ) (b : Bool) → (first == 0x3a) ≡ b → (length more ≤ front_of 0x3a more → at_colon more ≡ None) →
    length (first ∷ more) ≤ front_of 0x3a (first ∷ more) → at_colon (first ∷ more) ≡ None
none_step first more true h rest whole = absurd (omega (arith, whole, front_here 0x3a first more h))
none_step first more false h rest whole =
    let within : length more ≤ front_of 0x3a more = omega (arith, whole, front_past 0x3a first more h) in
    rw h (ap (with_front first) (rest within))

pub colon_none : (bytes : List ℕ) → length bytes ≤ front_of 0x3a bytes → at_colon bytes ≡ None
colon_none [] whole = refl
colon_none (first ∷ more) whole = none_step first more (first == 0x3a) refl (λ within. colon_none more within) whole

-- places are told alike ahead of the label and behind it
labelled_capped : (name : Option (List ℕ)) (said : Result Order AsmKind) → labelled name (capped_answer said) ≡ capped_line (labelled name said)
labelled_capped name (Ok order) = refl
labelled_capped name (Err kind) = refl

module _ (part : Chip) (said : List ℕ) (end : ℕ) (is : end ≡ front_of 0x3a said) where
  pub no_label : (answer : Result Order AsmKind) → length said ≤ end → answer ≡ capped_answer (order_in part (trimmed said)) →
      labelled None answer ≡ capped_line (by_colon part said (at_colon said))
  no_label answer whole ordered =
      ap (labelled None) ordered ∙ labelled_capped None (order_in part (trimmed said))
      ∙ sym (ap (λ (o : Option (List ℕ × List ℕ)). capped_line (by_colon part said o)) (colon_none said (omega (arith, is, whole))))

  at_end : end < length said → at_colon said ≡ Some (take end said, drop (end + 1) said)
  at_end inside =
      colon_found said (omega (arith, is, inside))
      ∙ ap (λ (k : ℕ). Some (take k said, drop (k + 1) said)) (sym is)

  pub never_name : (name : List ℕ) → end < length said → name ≡ behind_blanks (take end said) → is_name name ≡ false →
      Err Text ≡ capped_line (by_colon part said (at_colon said))
  never_name name inside front other =
      let here : is_name (behind_blanks (take end said)) ≡ false = ap is_name (sym front) ∙ other in
      sym (ap (λ (o : Option (List ℕ × List ℕ)). capped_line (by_colon part said o)) (at_end inside) ∙ rw here refl)

  pub with_label : (name : List ℕ) (answer : Result Order AsmKind) → end < length said → name ≡ behind_blanks (take end said) →
      is_name name ≡ true → answer ≡ capped_answer (order_in part (trimmed (drop (end + 1) said))) →
      labelled (Some name) answer ≡ capped_line (by_colon part said (at_colon said))
  with_label name answer inside front named ordered =
      let here : is_name (behind_blanks (take end said)) ≡ true = ap is_name (sym front) ∙ named in
      ap (labelled (Some name)) ordered ∙ labelled_capped (Some name) (order_in part (trimmed (drop (end + 1) said)))
      ∙ ap (λ (n : List ℕ). capped_line (labelled (Some n) (order_in part (trimmed (drop (end + 1) said))))) front
      ∙ sym (ap (λ (o : Option (List ℕ × List ℕ)). capped_line (by_colon part said o)) (at_end inside) ∙ rw here refl)
