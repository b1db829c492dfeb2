-- Lists that lose a front, and a search in a list whose items are seen by a function.
use Rattle.std.proofs.Common.{◌≡◌, ℕ, ◌+◌, ◌-◌, ◌≤◌, min, Bool, true, false, cond, Some, List, [], ◌∷◌, ◌++◌, map, length, take, drop, refl, sym, ap, ◌∙◌, arith}
use Rattle.std.proofs.lemmas.List.{take-append-drop, drop-drop, drop-take, drop_min, length-take, length-drop, take-append-le}
use Rattle.std.proofs.Math.Seq.{take-length}
use Rattle.std.specs.List.{find}
use Rattle.std.specs.Option.{option_map}

-- a front of the bytes, put before others, is the front there
pub take_front : (bytes rest : List ℕ) (count : ℕ) → count ≤ length bytes → take count (take count bytes ++ rest) ≡ take count bytes
take_front bytes rest count fits =
    let front = take count bytes in
    let len : length front ≡ count = omega (arith, length-take count bytes) in
    take-append-le count front rest (omega (arith, len)) ∙ ap (λ n. take n front) (sym len) ∙ take-length front

-- the first bytes, put at the front of a buffer and taken from it, and the others are all
pub front_and_rest : (bytes rest : List ℕ) (given count : ℕ) → given + count ≤ length bytes
    → drop given bytes ≡ take count (take count (drop given bytes) ++ rest) ++ drop (given + count) bytes
front_and_rest bytes rest given count fits =
    let fronted = take_front (drop given bytes) rest count (omega (arith, length-drop given bytes)) in
    sym (ap (λ l. l ++ drop (given + count) bytes) fronted ∙ ap (λ l. take count (drop given bytes) ++ l) (sym (drop-drop count given bytes)) ∙ take-append-drop count (drop given bytes))

-- one place further, and never behind the end
pub drop_next : {X : Type 0} (items : List X) (place : ℕ) → drop (min (place + 1) (length items)) items ≡ drop 1 (drop place items)
drop_next items place = drop_min (place + 1) items ∙ sym (drop-drop 1 place items)

-- what is found among the seen items is what is found among the items, seen
pub find-map : {X Y Z : Type 0} (seen : X → Y) (test : Y → Bool) (part : Y → Z) (items : List X)
    → option_map part (find test (map seen items)) ≡ option_map (λ x. part (seen x)) (find (λ x. test (seen x)) items)
find-map seen test part [] = refl
find-map seen test part (x ∷ items) =
    elim (test (seen x)) as (λ found. option_map part (cond found (Some (seen x)) (find test (map seen items))) ≡ option_map (λ y. part (seen y)) (cond found (Some x) (find (λ y. test (seen y)) items)))
    [ true ↦ refl | false ↦ find-map seen test part items ]

-- what is left between two places once the first is moved up
pub drop_between : (items : List ℕ) (start end count : ℕ) → start + count ≤ end
    → take (end - (start + count)) (drop (start + count) items) ≡ drop count (take (end - start) (drop start items))
drop_between items start end count within =
    let left = end - (start + count) in
    let len : count + left ≡ end - start = omega arith in
    sym (ap (λ n. drop count (take n (drop start items))) (sym len) ∙ drop-take count left (drop start items) ∙ ap (λ l. take left l) (drop-drop count start items))
