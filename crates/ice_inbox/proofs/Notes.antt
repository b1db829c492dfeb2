-- Notes of the two senders, apart.
use Rattle.std.proofs.Common.{◌≡◌, ◌+◌, ◌≤◌, Bool, true, false, true≢false, ◌||◌, List, [], ◌∷◌, ◌++◌}
use Rattle.std.proofs.Common.{refl, sym, ap, ◌∙◌, append_assoc, arith}
use Rattle.std.specs.Prelude.{filter}
use Rattle.std.proofs.lemmas.List.Elements.{filter-append}
use Rattle.std.proofs.lemmas.List.Sums.{sum_by-append, sum_by-cons}
use mathlib.Core.List.{IsPrefix}
use Rattle.ice_inbox.specs.declared.inbox.Note.{Note}
use Rattle.ice_inbox.specs.declared.inbox.Note.TheVariants.{Bytes, LineEnd, LineFault, TooLong, Halted}
use Rattle.ice_inbox.specs.Notes.{is_of_line, of_line, of_target, size_of, bytes_in, line_limit, is_last, has_last, EndsOnce}

-- a note of the line is one of the line's, and none of the target's
pub of_line-one : (note : Note) → is_of_line note ≡ true → (of_line (note ∷ []) ≡ note ∷ []) × (of_target (note ∷ []) ≡ [])
of_line-one (Bytes bytes) e = (refl, refl)
of_line-one LineEnd e = (refl, refl)
of_line-one LineFault e = (refl, refl)
of_line-one TooLong e = (refl, refl)
of_line-one (Halted number) e = absurd (true≢false (sym e))

-- one note more
pub bytes_in-more : (notes : List Note) (note : Note) → bytes_in (notes ++ note ∷ []) ≡ bytes_in notes + size_of note
bytes_in-more notes note = omega (arith, sum_by-append size_of notes (note ∷ []), sum_by-cons size_of note [])

-- the same note ahead of both
ahead : (note : Note) (notes : List Note) → bytes_in (of_line notes) ≡ bytes_in notes
    → bytes_in (note ∷ of_line notes) ≡ bytes_in (note ∷ notes)
ahead note notes e = omega (arith, sum_by-cons size_of note (of_line notes), sum_by-cons size_of note notes, e)

-- only notes of the line hold bytes
pub bytes_in-of_line : (notes : List Note) → bytes_in (of_line notes) ≡ bytes_in notes
bytes_in-of_line [] = refl
bytes_in-of_line (Bytes bytes ∷ notes) = ahead (Bytes bytes) notes (bytes_in-of_line notes)
bytes_in-of_line (LineEnd ∷ notes) = ahead LineEnd notes (bytes_in-of_line notes)
bytes_in-of_line (LineFault ∷ notes) = ahead LineFault notes (bytes_in-of_line notes)
bytes_in-of_line (TooLong ∷ notes) = ahead TooLong notes (bytes_in-of_line notes)
bytes_in-of_line (Halted number ∷ notes) = omega (arith, sum_by-cons size_of (Halted number) notes, bytes_in-of_line notes)

-- a front holds no more bytes than the line may send, where the line's of the whole do not
pub bytes_in-front : (taken items by_line : List Note) → of_line (taken ++ items) ≡ by_line → bytes_in by_line ≤ line_limit
    → bytes_in taken ≤ line_limit
bytes_in-front taken items by_line whole bounded =
    omega (arith, sum_by-append size_of taken items, bytes_in-of_line (taken ++ items), ap bytes_in whole, bounded)

-- one note more waits
pub filter-more : (p : Note → Bool) (taken items by more : List Note) (note : Note) → filter p (taken ++ items) ≡ by
    → filter p (note ∷ []) ≡ more → filter p (taken ++ (items ++ note ∷ [])) ≡ by ++ more
filter-more p taken items by more note whole one =
    let behind = append_assoc taken items (note ∷ []) in
    ap (λ (notes : List Note). filter p notes) (sym behind) ∙ filter-append p (taken ++ items) (note ∷ []) ∙ (λ i. whole i ++ one i)

-- of what was taken and what waits, the front is a prefix
pub filter-prefix : (p : Note → Bool) (taken items by : List Note) → filter p (taken ++ items) ≡ by → IsPrefix (filter p taken) by
filter-prefix p taken items by whole = (filter p items, sym (filter-append p taken items) ∙ whole)

-- where neither of two tests passes
neither : (a b : Bool) → (a || b) ≡ false → (a ≡ false) × (b ≡ false)
neither false b e = (refl, e)
neither true b e = absurd (true≢false e)

-- where one of two tests passes, and not the first
second : (a b : Bool) → a ≡ false → (a || b) ≡ true → b ≡ true
second false b e some = some
second true b e some = absurd (true≢false e)

nothing_ahead : (front rest : List Note) → front ++ rest ≡ [] → front ≡ []
nothing_ahead [] rest e = refl
nothing_ahead (note ∷ front) rest e = absurd (cc e)

-- a front with a last note is the whole, where only the end is one
front_is_whole : (front before rest : List Note) (last : Note) → front ++ rest ≡ before ++ last ∷ [] → has_last before ≡ false
    → has_last front ≡ true → front ≡ before ++ last ∷ []
front_is_whole [] before rest last whole once ends = absurd (true≢false (sym ends))
front_is_whole (note ∷ front) [] rest last whole once ends =
    let behind : front ++ rest ≡ [] = cc whole in
    let none = nothing_ahead front rest behind in
    cc (whole, none)
front_is_whole (note ∷ front) (first ∷ before) rest last whole once ends =
    let same : note ≡ first = cc whole in
    let behind : front ++ rest ≡ before ++ last ∷ [] = cc whole in
    let not_last = neither (is_last first) (has_last before) once in
    let later = second (is_last note) (has_last front) (ap is_last same ∙ not_last.0) ends in
    cc (same, front_is_whole front before rest last behind not_last.1 later)

-- where one of the notes taken is the line's last, all was taken that the line has sent
pub all_is_taken : (taken sent : List Note) → EndsOnce sent → IsPrefix taken sent → has_last taken ≡ true → taken ≡ sent
all_is_taken taken sent e prefix ends =
    front_is_whole taken e.before prefix.0 e.last (prefix.1 ∙ e.whole) e.once ends ∙ sym e.whole
