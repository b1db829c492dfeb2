-- Pieces of operands.
use Rattle.std.proofs.Common.{◌≡◌, ℕ, ◌+◌, ◌<◌, ◌≤◌, List, [], ◌∷◌, ◌++◌, length, get_or, map, take, take_all, sym, ap, ◌∙◌, arith}
use Rattle.std.specs.Prelude.{◌==◌}
use Rattle.std.specs.List.{slice_split}
use Rattle.std.proofs.lemmas.List.{take_more, map-append}
use Rattle.asm_spec.specs.Tokens.{operands_in, trimmed}

-- the pieces between commas
abbrev pub pieces_of : List ℕ → List (List ℕ)
pieces_of bytes = slice_split (λ other. other == 0x2c) bytes

-- one piece more
pub pieces_more : (pieces : List (List ℕ)) (n more : ℕ) (piece : List ℕ) → n < length pieces → piece ≡ get_or pieces n piece → more ≡ n + 1 →
    map trimmed (take n pieces) ++ trimmed piece ∷ [] ≡ map trimmed (take more pieces)
pieces_more pieces n more piece inside is next =
    ap (λ (last : List ℕ). map trimmed (take n pieces) ++ trimmed last ∷ []) is
    ∙ sym (map-append trimmed (take n pieces) (get_or pieces n piece ∷ []))
    ∙ ap (map trimmed) (sym (take_more pieces n piece inside))
    ∙ ap (λ (k : ℕ). map trimmed (take k pieces)) (sym next)

-- all pieces
pub pieces_all : (bytes : List ℕ) (n : ℕ) → 1 ≤ length bytes → n ≡ length (pieces_of bytes) →
    map trimmed (take n (pieces_of bytes)) ≡ operands_in bytes
pieces_all [] n some is = absurd (omega arith)
pieces_all (byte ∷ bytes) n some is = ap (map trimmed) (take_all n (pieces_of (byte ∷ bytes)) (omega arith))
