-- A text cut into its lines.
use Rattle.std.proofs.Common.{◌≡◌, ℕ, ◌==◌, Bool, true, false, cond, List, [], ◌∷◌, ◌++◌, refl, ap, ◌∙◌, arith}
use Rattle.std.specs.Prelude.{if◌then◌else◌}
use Rattle.std.specs.List.{list_all, onto_first, slice_split}
use Rattle.std.proofs.lemmas.Bool.Decides.{nat_tests}
use Rattle.std.proofs.lemmas.List.{append_assoc}
use Rattle.asm_spec.specs.Words.{lines_among, lines_of, without_return}
use Rattle.asm_spec.proofs.Tests.{and_parts}
use Rattle.asm_spec.proofs.Trims.{is_plain_byte}

-- the parts between line feeds
abbrev pub parts_of : List ℕ → List (List ℕ)
parts_of bytes = slice_split (λ other. other == 0x0a) bytes

no_feed : (byte : ℕ) → is_plain_byte byte ≡ true → (byte == 0x0a) ≡ false
no_feed byte h = grind (arith, nat_tests)

no_return : (byte : ℕ) → is_plain_byte byte ≡ true → (byte == 0x0d) ≡ false
no_return byte h = grind (arith, nat_tests)

-- there is a part
onto_some : (byte : ℕ) (parts : List (List ℕ)) → (first : List ℕ) × (more : List (List ℕ)) × (onto_first byte parts ≡ first ∷ more)
onto_some byte [] = (byte ∷ [], [], refl)
onto_some byte (part ∷ parts) = (byte ∷ part, parts, refl)

pub parts_some : (bytes : List ℕ) → (first : List ℕ) × (more : List (List ℕ)) × (parts_of bytes ≡ first ∷ more)
parts_some [] = ([], [], refl)
parts_some (byte ∷ bytes) = by_test (byte == 0x0a) refl
  where
    by_test : (b : Bool) → (byte == 0x0a) ≡ b → (first : List ℕ) × (more : List (List ℕ)) × (parts_of (byte ∷ bytes) ≡ first ∷ more)
    by_test true h = ([], parts_of bytes, ap (λ (b : Bool). cond b ([] ∷ parts_of bytes) (onto_first byte (parts_of bytes))) h)
    by_test false h =
        let some = onto_some byte (parts_of bytes) in
        (some.0, some.1, ap (λ (b : Bool). cond b ([] ∷ parts_of bytes) (onto_first byte (parts_of bytes))) h ∙ some.2)

pub among_more : (line first : List ℕ) (parts more : List (List ℕ)) → parts ≡ first ∷ more →
    lines_among (line ∷ parts) ≡ without_return line ∷ lines_among parts
among_more line first parts more is = rw is refl

-- the part in front of a line feed
part_in_front : (line behind : List ℕ) → list_all is_plain_byte line ≡ true → parts_of (line ++ 0x0a ∷ behind) ≡ line ∷ parts_of behind
part_in_front [] behind h = refl
part_in_front (byte ∷ bytes) behind h =
    let tests = and_parts (is_plain_byte byte) (list_all is_plain_byte bytes) h in
    let parts : List (List ℕ) = parts_of (bytes ++ 0x0a ∷ behind) in
    ap (λ (b : Bool). cond b ([] ∷ parts) (onto_first byte parts)) (no_feed byte tests.0) ∙ ap (onto_first byte) (part_in_front bytes behind tests.1)

-- nothing is left out of such a line
whole_line : (line : List ℕ) → list_all is_plain_byte line ≡ true → without_return line ≡ line
whole_line [] h = refl
whole_line (last ∷ []) h =
    let tests = and_parts (is_plain_byte last) true h in
    ap (λ (b : Bool). if b then [] else last ∷ []) (no_return last tests.0)
whole_line (first ∷ second ∷ more) h =
    let tests = and_parts (is_plain_byte first) (list_all is_plain_byte (second ∷ more)) h in
    ap (λ (l : List ℕ). first ∷ l) (whole_line (second ∷ more) tests.1)

-- a line with its line feed in front of others
pub line_in_front : (line behind : List ℕ) → list_all is_plain_byte line ≡ true →
    lines_of ((line ++ 0x0a ∷ []) ++ behind) ≡ line ∷ lines_of behind
line_in_front line behind h =
    let some = parts_some behind in
    ap lines_of (append_assoc line (0x0a ∷ []) behind) ∙ ap lines_among (part_in_front line behind h) ∙
    among_more line some.0 (parts_of behind) some.1 some.2 ∙ ap (λ (l : List ℕ). l ∷ lines_of behind) (whole_line line h)
