-- A listing line by line, and its end.
use Rattle.std.proofs.Common.{◌≡◌, ◌<◌, ◌≤◌, ℕ, zero, suc, ◌+◌, ◌-◌, Bool, true, false, nat_le, if◌then◌else◌, List, [], ◌∷◌, ◌++◌, length, drop, get_or}
use Rattle.std.proofs.Common.{refl, sym, ap, ◌∙◌, arith, inl, inr, add-one, drop-cons, length-drop}
use Rattle.std.proofs.Math.Seq.{drop-drop}
use Rattle.std.proofs.lemmas.List.{get_or-drop}
use Rattle.std.proofs.lemmas.Bool.{cases_lt}
use Rattle.std.proofs.lemmas.Bool.Decides.{nat_tests}
use Rattle.std.proofs.lemmas.Grind.{common_steps}
use Rattle.part_spec.specs.Chip.{Chip}
use Rattle.avr_spec.specs.Decode.{words}
use Rattle.asm_spec.specs.Listing.{are_erased, line_of, lines_from, shown, shown_at}

-- the words of the line before are left out
told_before : (part : Chip) (told : ℕ) (program : List ℕ) → lines_from part told program ≡ lines_from part 0 (drop told program)
unfolding lines_from
told_before part zero program = refl
told_before part (suc told) [] = refl
told_before part (suc told) (word ∷ behind) = told_before part told behind

-- the line of a word, and those behind it
first_line : (part : Chip) (word : ℕ) (behind : List ℕ) → are_erased (word ∷ behind) ≡ false →
    lines_from part 0 (word ∷ behind) ≡
    line_of part (shown part word behind) ++ lines_from part 0 (drop (words (shown part word behind) - 1) behind)
unfolding lines_from
first_line part word behind here =
    let line : List ℕ = line_of part (shown part word behind) in
    let told : ℕ = words (shown part word behind) - 1 in
    ap (λ (b : Bool). if b then [] else line ++ lines_from part told behind) here ∙
    ap (λ (rest : List ℕ). line ++ rest) (told_before part told behind)

pub no_lines : (part : Chip) (program : List ℕ) → are_erased program ≡ true → lines_from part 0 program ≡ []
unfolding lines_from
no_lines part [] erased = refl
no_lines part (word ∷ behind) erased =
    let line : List ℕ = line_of part (shown part word behind) in
    let told : ℕ = words (shown part word behind) - 1 in
    ap (λ (b : Bool). if b then [] else line ++ lines_from part told behind) erased

pub words_behind : (program : List ℕ) (place count : ℕ) → 1 ≤ count → drop (count - 1) (drop (place + 1) program) ≡ drop (place + count) program
words_behind program place count some =
    drop-drop (count - 1) (place + 1) program ∙
    ap (λ (n : ℕ). drop n program) (let e : place + 1 + (count - 1) ≡ place + count = omega arith in e)

-- the line of a place, and those behind it
pub line_at : (part : Chip) (program : List ℕ) (place : ℕ) → place < length program → are_erased (drop place program) ≡ false →
    1 ≤ words (shown_at part program place) → lines_from part 0 (drop place program) ≡
    line_of part (shown_at part program place) ++ lines_from part 0 (drop (place + words (shown_at part program place)) program)
line_at part program place within here some =
    let behind : List ℕ = drop (place + 1) program in
    let cut : drop place program ≡ get_or program place 0 ∷ behind = rw add-one (drop-cons program place 0 within) in
    ap (lines_from part 0) cut ∙
    first_line part (get_or program place 0) behind (ap are_erased (sym cut) ∙ here) ∙
    ap (λ (rest : List ℕ). line_of part (shown_at part program place) ++ lines_from part 0 rest)
    (words_behind program place (words (shown_at part program place)) some)

pub erased_behind : (program : List ℕ) (n : ℕ) → are_erased program ≡ true → are_erased (drop n program) ≡ true
erased_behind program zero erased = erased
erased_behind [] (suc n) erased = refl
erased_behind (word ∷ program) (suc n) erased = erased_behind program n (grind (arith, common_steps))

one_left : (program : List ℕ) (index : ℕ) → index < length program → (get_or program index 0 ≡ 0xffff → ⊥) → are_erased program ≡ false
one_left [] index within left = absurd (omega arith)
one_left (word ∷ program) zero within left = grind (arith, common_steps, nat_tests)
one_left (word ∷ program) (suc index) within left = let more = one_left program index (omega arith) left in grind (arith, common_steps)

-- a word in front is erased too
pub erased_more : (program : List ℕ) (used : ℕ) → 0 < used → used ≤ length program → get_or program (used - 1) 0 ≡ 0xffff →
    are_erased (drop used program) ≡ true → are_erased (drop (used - 1) program) ≡ true
erased_more program used some within word behind =
    let cut : drop (used - 1) program ≡ get_or program (used - 1) 0 ∷ drop used program =
    drop-cons program (used - 1) 0 (omega arith) ∙
    ap (λ (n : ℕ). get_or program (used - 1) 0 ∷ drop n program) (let e : suc (used - 1) ≡ used = omega arith in e) in
    ap are_erased (cut ∙ ap (λ (w : ℕ). w ∷ drop used program) word) ∙ behind

pub reached : (a b : ℕ) → a ≤ b → nat_le a b ≡ true
reached a b h = grind (arith, nat_tests)

pub not_reached : (a b : ℕ) → b < a → nat_le a b ≡ false
not_reached a b h = grind (arith, nat_tests)

-- all words are erased
pub all_erased : (program : List ℕ) → are_erased program ≡ true → (k : ℕ) → are_erased (drop k program) ≡ nat_le 0 k
all_erased program erased k = erased_behind program k erased ∙ sym (reached 0 k (omega arith))

-- the word in front of these is not erased
pub last_used : (program : List ℕ) (used : ℕ) → 0 < used → used ≤ length program → (get_or program (used - 1) 0 ≡ 0xffff → ⊥) →
    are_erased (drop used program) ≡ true → (k : ℕ) → are_erased (drop k program) ≡ nat_le used k
last_used program used some within word behind k = elim (cases_lt k used) [
  | inl before ↦
      let index : ℕ = used - 1 - k in
      let there : get_or (drop k program) index 0 ≡ get_or program (used - 1) 0 =
      get_or-drop k program index 0 ∙ ap (λ (n : ℕ). get_or program n 0) (let e : k + index ≡ used - 1 = omega arith in e) in
      one_left (drop k program) index (omega (arith, length-drop k program)) (λ is. word (sym there ∙ is)) ∙ sym (not_reached used k before)
  | inr after ↦
      ap are_erased (sym (drop-drop (k - used) used program ∙
      ap (λ (n : ℕ). drop n program) (let e : used + (k - used) ≡ k = omega arith in e))) ∙
      erased_behind (drop used program) (k - used) behind ∙ sym (reached used k after)
]
