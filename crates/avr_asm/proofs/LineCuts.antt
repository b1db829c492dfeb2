-- A text cut behind its first line.
use Rattle.std.proofs.Common.{◌≡◌, ◌≢◌, ℕ, zero, suc, ◌+◌, ◌<◌, Bool, true, false, List, [], ◌∷◌, length, get_or, take, drop, refl, sym, ap, ◌∙◌, arith, length-drop}
use Rattle.std.specs.Prelude.{◌==◌, None, Some}
use Rattle.std.specs.List.{onto_first, slice_split}
use Rattle.std.proofs.lemmas.Bool.Decides.{nat_tests}
use Rattle.std.proofs.lemmas.List.Elements.{All-from_get_or}
use Rattle.std.proofs.lemmas.List.Splits.{slice_split_first, slice_split_none}
use Rattle.std.proofs.lemmas.List.Sums.{fails_before_first}
use Rattle.asm_spec.specs.Words.{lines_among, lines_of, without_return}
use Rattle.avr_asm.specs.Cuts.{Leaves}
use Rattle.avr_asm.proofs.Fronts.{front_of}

-- the parts between line feeds
abbrev parts_of : List ℕ → List (List ℕ)
parts_of bytes = slice_split (λ other. other == 0x0a) bytes

-- a part behind a byte of the first one
onto_some : (byte : ℕ) (parts : List (List ℕ)) → (first : List ℕ) × (more : List (List ℕ)) × (onto_first byte parts ≡ first ∷ more)
onto_some byte [] = (byte ∷ [], [], refl)
onto_some byte (part ∷ parts) = (byte ∷ part, parts, refl)

-- there is a part
parts_some : (bytes : List ℕ) → (first : List ℕ) × (more : List (List ℕ)) × (parts_of bytes ≡ first ∷ more)
parts_some [] = ([], [], refl)
parts_some (byte ∷ bytes) = by_test (byte == 0x0a) refl
  where
    by_test : (b : Bool) → (byte == 0x0a) ≡ b → (first : List ℕ) × (more : List (List ℕ)) × (parts_of (byte ∷ bytes) ≡ first ∷ more)
    by_test true h = ([], parts_of bytes, rw h refl)
    by_test false h =
        let some = onto_some byte (parts_of bytes) in
        (some.0, some.1, rw h some.2)

among_more : (line first : List ℕ) (parts more : List (List ℕ)) → parts ≡ first ∷ more →
    lines_among (line ∷ parts) ≡ without_return line ∷ lines_among parts
among_more line first parts more is = rw is refl

pub leaves_whole : (text : List ℕ) (end : ℕ) → end ≡ front_of 0x0a text → end ≡ length text → Leaves text text None
leaves_whole text end is whole = record {
  lines = ap lines_among (slice_split_none (λ other. other == 0x0a) text
      (All-from_get_or (λ x. (x == 0x0a) ≡ false) text 0
      (λ i inside. fails_before_first (λ other. other == 0x0a) text i 0 (omega (arith, is, whole, inside)))));
  less = omega arith;
}

pub leaves_more : (text line rest : List ℕ) (end : ℕ) → end ≡ front_of 0x0a text → end < length text → line ≡ without_return (take end text) →
    rest ≡ drop (end + 1) text → Leaves text line (Some rest)
leaves_more text line rest end is inside cut behind =
    let found = slice_split_first (λ other. other == 0x0a) text 0 (omega (arith, is, inside)) in
    let some = parts_some (drop (front_of 0x0a text + 1) text) in
    record {
      lines = ap lines_among found
          ∙ among_more (take (front_of 0x0a text) text) some.0 (parts_of (drop (front_of 0x0a text + 1) text)) some.1 some.2
          ∙ ap (λ (k : ℕ). without_return (take k text) ∷ lines_of (drop (k + 1) text)) (sym is)
          ∙ ap (λ (t : List ℕ). without_return (take end text) ∷ lines_of t) (sym behind)
          ∙ ap (λ (l : List ℕ). l ∷ lines_of rest) (sym cut);
      less = omega (arith, ap length behind, length-drop (end + 1) text);
    }

-- ---- the end of a line
pub return_cut : (line : List ℕ) (i : ℕ) → i + 1 ≡ length line → get_or line i 0 ≡ 0x0d → take i line ≡ without_return line
return_cut [] i long is = absurd (omega arith)
return_cut (last ∷ []) zero long is = let yes : (last == 0x0d) ≡ true = grind (arith, nat_tests) in rw yes refl
return_cut (last ∷ []) (suc i) long is = absurd (omega arith)
return_cut (first ∷ second ∷ more) zero long is = absurd (omega arith)
return_cut (first ∷ second ∷ more) (suc i) long is = ap (λ (t : List ℕ). first ∷ t) (return_cut (second ∷ more) i (omega arith) is)

pub return_none : (line : List ℕ) (i : ℕ) → i + 1 ≡ length line → get_or line i 0 ≢ 0x0d → line ≡ without_return line
return_none [] i long is = absurd (omega arith)
return_none (last ∷ []) zero long is = let never : (last == 0x0d) ≡ false = grind (arith, nat_tests) in rw never refl
return_none (last ∷ []) (suc i) long is = absurd (omega arith)
return_none (first ∷ second ∷ more) zero long is = absurd (omega arith)
return_none (first ∷ second ∷ more) (suc i) long is = ap (λ (t : List ℕ). first ∷ t) (return_none (second ∷ more) i (omega arith) is)
