-- Lines gathered, and pieces put, one behind the other.
use Rattle.std.proofs.Common.{◌≡◌, ◌<◌, ◌≤◌, ℕ, ◌+◌, true, false, nat_le, List, [], ◌++◌, Option, length, drop}
use Rattle.std.proofs.Common.{sym, ap, ◌∙◌, subst, arith, append-nil, append_assoc}
use Rattle.part_spec.specs.Chip.{Chip}
use Rattle.avr_spec.specs.Decode.{words}
use Rattle.ice_line.specs.Lines.{WritesAll, WritesFront, Writes}
use Rattle.ice_line.proofs.Pieces.{front_first, front_more}
use Rattle.asm_spec.specs.Listing.{are_erased, line_of, lines_from, shown_at}
use Rattle.asm_spec.proofs.Listings.{all_erased, line_at, no_lines, not_reached, reached}

-- with the line of one place more
pub one_more : (part : Chip) (program : List ℕ) (start place used count : ℕ) (lines more : List ℕ) →
    ((k : ℕ) → are_erased (drop k program) ≡ nat_le used k) → place < used → used ≤ length program →
    lines_from part 0 (drop start program) ≡ lines ++ lines_from part 0 (drop place program) →
    more ≡ lines ++ line_of part (shown_at part program place) → count ≡ words (shown_at part program place) → 1 ≤ count →
    lines_from part 0 (drop start program) ≡ more ++ lines_from part 0 (drop (place + count) program)
one_more part program start place used count lines more left before within far line is some =
    let here : are_erased (drop place program) ≡ false = left place ∙ not_reached used place before in
    let behind : List ℕ = lines_from part 0 (drop (place + words (shown_at part program place)) program) in
    far ∙ ap (λ (rest : List ℕ). lines ++ rest) (line_at part program place (omega arith) here (omega (arith, is))) ∙
    sym (append_assoc lines (line_of part (shown_at part program place)) behind) ∙
    ap (λ (front : List ℕ). front ++ behind) (sym line) ∙
    ap (λ (n : ℕ). more ++ lines_from part 0 (drop (place + n) program)) (sym is)

-- behind the last word there are no lines
pub none_left : (part : Chip) (program : List ℕ) (place used : ℕ) → ((k : ℕ) → are_erased (drop k program) ≡ nat_le used k) → used ≤ place →
    lines_from part 0 (drop place program) ≡ []
none_left part program place used left behind = no_lines part (drop place program) (left place ∙ reached used place behind)

pub joined_more : (all told rest piece more : List ℕ) → all ≡ told ++ rest → rest ≡ piece ++ more → all ≡ (told ++ piece) ++ more
joined_more all told rest piece more is cut = is ∙ ap (λ (behind : List ℕ). told ++ behind) cut ∙ sym (append_assoc told piece more)

-- all was put
pub all_put : (before after : Option (List ℕ)) (faults faults_now : ℕ) (all told rest : List ℕ) → WritesAll before after faults faults_now told →
    all ≡ told ++ rest → rest ≡ [] → Writes true before after faults faults_now all
all_put before after faults faults_now all told rest put is none =
    subst (λ (bytes : List ℕ). WritesAll before after faults faults_now bytes)
    (sym (is ∙ ap (λ (behind : List ℕ). told ++ behind) none ∙ append-nil told)) put

-- a piece was put in part
pub put_in_part : (before middle after : Option (List ℕ)) (faults between faults_now : ℕ) (all told rest piece more : List ℕ) →
    WritesAll before middle faults between told → WritesFront middle after between faults_now piece →
    all ≡ told ++ rest → rest ≡ piece ++ more → Writes false before after faults faults_now all
put_in_part before middle after faults between faults_now all told rest piece more put front is cut =
    subst (λ (bytes : List ℕ). WritesFront before after faults faults_now bytes) (sym (joined_more all told rest piece more is cut))
    (front_first before after faults faults_now (told ++ piece) more
    (front_more before middle after faults between faults_now told piece put front))

-- no word is used
pub none_used : (program : List ℕ) (used : ℕ) → used ≤ 0 → are_erased (drop used program) ≡ true →
    (k : ℕ) → are_erased (drop k program) ≡ nat_le used k
none_used program used none behind k =
    let is : used ≡ 0 = omega arith in
    all_erased program (ap (λ (n : ℕ). are_erased (drop n program)) (sym is) ∙ behind) k ∙ ap (λ (n : ℕ). nat_le n k) (sym is)
