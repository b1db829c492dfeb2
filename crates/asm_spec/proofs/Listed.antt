-- How many words the lines of a listing stand for, line by line.
use Rattle.std.proofs.Common.{◌≡◌, ℕ, zero, suc, ◌+◌, ◌-◌, ◌<◌, ◌≤◌, Bool, true, false, if◌then◌else◌, List, [], ◌∷◌, length, drop, get_or, refl, sym, ap, ◌∙◌, add-one, arith, drop-cons}
use Rattle.std.proofs.Math.Seq.{drop-drop}
use Rattle.part_spec.specs.Chip.{Chip}
use Rattle.avr_spec.specs.Decode.{words}
use Rattle.asm_spec.specs.Listing.{are_erased, shown, shown_at}
use Rattle.asm_spec.specs.ListingLaws.{listed_from}
use Rattle.asm_spec.proofs.Listings.{erased_behind, words_behind}

-- the words of the line before are left out
listed_before : (part : Chip) (told : ℕ) (program : List ℕ) → listed_from part told program ≡ listed_from part 0 (drop told program)
unfolding listed_from
listed_before part zero program = refl
listed_before part (suc told) [] = refl
listed_before part (suc told) (word ∷ behind) = listed_before part told behind

-- the words of the first line, and those behind it
first_listed : (part : Chip) (word : ℕ) (behind : List ℕ) → are_erased (word ∷ behind) ≡ false →
    listed_from part 0 (word ∷ behind) ≡
    words (shown part word behind) + listed_from part 0 (drop (words (shown part word behind) - 1) behind)
unfolding listed_from
first_listed part word behind here =
    let count : ℕ = words (shown part word behind) in
    ap (λ (b : Bool). if b then 0 else count + listed_from part (count - 1) behind) here ∙
    ap (λ (rest : ℕ). count + rest) (listed_before part (count - 1) behind)

pub none_listed : (part : Chip) (program : List ℕ) → are_erased program ≡ true → listed_from part 0 program ≡ 0
unfolding listed_from
none_listed part [] erased = refl
none_listed part (word ∷ behind) erased =
    let count : ℕ = words (shown part word behind) in
    ap (λ (b : Bool). if b then 0 else count + listed_from part (count - 1) behind) erased

-- the words of the line of a place, and those behind it
pub listed_at : (part : Chip) (program : List ℕ) (place : ℕ) → place < length program → are_erased (drop place program) ≡ false →
    1 ≤ words (shown_at part program place) → listed_from part 0 (drop place program) ≡
    words (shown_at part program place) + listed_from part 0 (drop (place + words (shown_at part program place)) program)
listed_at part program place within here some =
    let behind : List ℕ = drop (place + 1) program in
    let cut : drop place program ≡ get_or program place 0 ∷ behind = rw add-one (drop-cons program place 0 within) in
    ap (listed_from part 0) cut ∙
    first_listed part (get_or program place 0) behind (ap are_erased (sym cut) ∙ here) ∙
    ap (λ (rest : List ℕ). words (shown_at part program place) + listed_from part 0 rest)
    (words_behind program place (words (shown_at part program place)) some)

-- where a word is not erased, one is not from an earlier place on
pub not_erased_before : (program : List ℕ) (place earlier : ℕ) → earlier ≤ place → are_erased (drop place program) ≡ false →
    are_erased (drop earlier program) ≡ false
not_erased_before program place earlier before here = by_earlier (are_erased (drop earlier program)) refl
  where
    by_earlier : (b : Bool) → are_erased (drop earlier program) ≡ b → are_erased (drop earlier program) ≡ false
    by_earlier false is = is
    by_earlier true is =
        let there : drop (place - earlier) (drop earlier program) ≡ drop place program =
        drop-drop (place - earlier) earlier program ∙
        ap (λ (n : ℕ). drop n program) (let e : earlier + (place - earlier) ≡ place = omega arith in e) in
        let all : are_erased (drop place program) ≡ true =
        sym (ap are_erased there) ∙ erased_behind (drop earlier program) (place - earlier) is in
        absurd (let never : true ≡ false = sym all ∙ here in cc)
