-- Texts and their lines.
use Rattle.std.proofs.Common.{◌≡◌, ℕ, zero, suc, ◌+◌, ◌≤◌, ◌<◌, List, [], ◌∷◌, Some, None, length, get_or, take, drop, refl, ap, subst, ◌∙◌, eq-eqb, arith}
use Rattle.std.specs.Prelude.{◌≢◌, ◌==◌, position}
use Rattle.std.specs.List.{position_or_len, slice_split}
use Rattle.std.proofs.lemmas.Bool.{ne_eqb}
use Rattle.std.proofs.lemmas.Grind.{common_steps}
use Rattle.std.proofs.lemmas.List.Splits.{length-slice_split, slice_split_first, slice_split_none}
use Rattle.std.proofs.lemmas.List.Sums.{fails_before_first}
use Rattle.image_hex.specs.Lines.{carriage_return, line_feed, without_return, lines_cut, lines_of}

-- a carriage return at the end is left out
pub without_return-last : (line : List ℕ) (n : ℕ) → length line ≡ suc n → get_or line n 0 ≡ carriage_return → take n line
    ≡ without_return line
without_return-last [] n size is = absurd (omega arith)
without_return-last (byte ∷ []) zero size is = rw (eq-eqb byte carriage_return is) refl
without_return-last (byte ∷ []) (suc n) size is = absurd (omega arith)
without_return-last (byte ∷ next ∷ line) zero size is = absurd (omega arith)
without_return-last (byte ∷ next ∷ line) (suc n) size is = ap (λ (more : List ℕ). byte ∷ more) (without_return-last (next ∷ line) n
    (omega arith) is)

-- any other byte at the end stays
pub without_return-other : (line : List ℕ) (n : ℕ) → length line ≡ suc n → get_or line n 0 ≢ carriage_return → line ≡ without_return line
without_return-other [] n size other = absurd (omega arith)
without_return-other (byte ∷ []) zero size other = rw (ne_eqb byte carriage_return other) refl
without_return-other (byte ∷ []) (suc n) size other = absurd (omega arith)
without_return-other (byte ∷ next ∷ line) zero size other = absurd (omega arith)
without_return-other (byte ∷ next ∷ line) (suc n) size other =
    ap (λ (more : List ℕ). byte ∷ more) (without_return-other (next ∷ line) n (omega arith) other)

-- a part with others behind it was ended by a line feed
pub lines_cut-more : (line : List ℕ) (parts : List (List ℕ)) → 0 < length parts → lines_cut (line ∷ parts)
    ≡ without_return line ∷ lines_cut parts
lines_cut-more line [] some = absurd (omega arith)
lines_cut-more [] (next ∷ parts) some = refl
lines_cut-more (byte ∷ line) (next ∷ parts) some = refl

-- a line feed ends the first line
pub lines_of-ended : (text : List ℕ) (end : ℕ) → position (λ byte. byte == line_feed) text ≡ Some end
    → lines_of text ≡ without_return (take end text) ∷ lines_of (drop (end + 1) text)
lines_of-ended text end found =
    let at : position_or_len (λ byte. byte == line_feed) text ≡ end = grind (arith, common_steps) in
    let inside : position_or_len (λ byte. byte == line_feed) text < length text = grind (arith, common_steps) in
    let P : ℕ → Type 0 = λ n. slice_split (λ byte. byte == line_feed) text
    ≡ take n text ∷ slice_split (λ byte. byte == line_feed) (drop (n + 1) text) in
    let cut : P end = subst P at (slice_split_first (λ byte. byte == line_feed) text 0 inside) in
    ap lines_cut cut
    ∙ lines_cut-more (take end text) (slice_split (λ byte. byte == line_feed) (drop (end + 1) text))
    (omega (arith, length-slice_split (λ byte. byte == line_feed) (drop (end + 1) text)))

lines_cut-last : (text : List ℕ) → text ≢ [] → lines_cut (text ∷ []) ≡ text ∷ []
lines_cut-last [] some = absurd (some refl)
lines_cut-last (byte ∷ text) some = refl

-- a text with no line feed is one line, if it is not empty
pub lines_of-endless : (text : List ℕ) → text ≢ [] → position (λ byte. byte == line_feed) text ≡ None → lines_of text ≡ text ∷ []
lines_of-endless text some none =
    let outside : length text ≤ position_or_len (λ byte. byte == line_feed) text = grind (arith, common_steps) in
    let cut = slice_split_none (λ byte. byte == line_feed) text
    (λ k d inside. fails_before_first (λ byte. byte == line_feed) text k d (omega arith)) in
    ap lines_cut cut ∙ lines_cut-last text some
