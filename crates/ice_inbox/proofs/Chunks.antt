-- The notes of a line: its chunks, and how it ended.
use Rattle.std.proofs.Common.{◌≡◌, ℕ, true, false, ◌||◌, List, [], ◌∷◌, ◌++◌}
use Rattle.std.proofs.Common.{refl, sym, ap, ◌∙◌, subst, append_assoc}
use Rattle.std.specs.Prelude.{Option, All}
use Rattle.std.proofs.lemmas.List.Elements.{All-head, All-tail}
use Rattle.ice_base.specs.Counts.{Rose}
use Rattle.ice_inbox.specs.declared.inbox.Note.{Note}
use Rattle.ice_inbox.specs.declared.inbox.Note.TheVariants.{Bytes, LineEnd, LineFault, TooLong, Halted}
use Rattle.ice_inbox.specs.Notes.{is_of_line, size_of, is_last, has_last}
use Rattle.ice_inbox.specs.Lines.{bytes_of, IsChunk, IsEnded}

-- the bytes of notes that stand one behind the other
pub bytes_of-append : (notes more : List Note) → bytes_of (notes ++ more) ≡ bytes_of notes ++ bytes_of more
bytes_of-append [] more = refl
bytes_of-append (Bytes bytes ∷ notes) more =
    ap (λ (l : List ℕ). bytes.items ++ l) (bytes_of-append notes more) ∙ sym (append_assoc bytes.items (bytes_of notes) (bytes_of more))
bytes_of-append (LineEnd ∷ notes) more = bytes_of-append notes more
bytes_of-append (LineFault ∷ notes) more = bytes_of-append notes more
bytes_of-append (TooLong ∷ notes) more = bytes_of-append notes more
bytes_of-append (Halted number ∷ notes) more = bytes_of-append notes more

-- a chunk is not the last note
not_last : (note : Note) → IsChunk note → is_last note ≡ false
not_last (Bytes bytes) is = refl
not_last LineEnd is = absurd is
not_last LineFault is = absurd is
not_last TooLong is = absurd is
not_last (Halted number) is = absurd is

-- and no chunk is
pub none_last : (notes : List Note) → All IsChunk notes → has_last notes ≡ false
none_last [] all = refl
none_last (note ∷ notes) all =
    ap (λ b. b || has_last notes) (not_last note (All-head IsChunk note notes all)) ∙ none_last notes (All-tail IsChunk note notes all)

-- a note by which a line ended is the last of the line, and holds no bytes
pub is_end : {S : Type 0} (left : S → Option (List ℕ)) (faults : S → ℕ) (before : S) (sent : ℕ) (unsent : List ℕ) (note : Note) (after : S)
    → IsEnded left faults before sent unsent note after → (is_last note ≡ true) × (is_of_line note ≡ true) × (size_of note ≡ 0)
is_end left faults before sent unsent (Bytes bytes) after is = absurd is
is_end left faults before sent unsent LineEnd after is = (refl, refl, refl)
is_end left faults before sent unsent LineFault after is = (refl, refl, refl)
is_end left faults before sent unsent TooLong after is = (refl, refl, refl)
is_end left faults before sent unsent (Halted number) after is = absurd is

-- the same, of a source that was read further before
pub ended_on : {S : Type 0} (left : S → Option (List ℕ)) (faults : S → ℕ) (first before : S) (sent more : ℕ) (unsent : List ℕ) (note : Note)
    (after : S) → faults before ≡ faults first → more ≡ sent → IsEnded left faults before sent unsent note after
    → IsEnded left faults first more unsent note after
ended_on left faults first before sent more unsent (Bytes bytes) after same count is = absurd is
ended_on left faults first before sent more unsent LineEnd after same count is = (is.0, is.1, is.2 ∙ same)
ended_on left faults first before sent more unsent LineFault after same count is =
    (is.0, subst (λ (n : ℕ). Rose n (faults after)) same is.1)
ended_on left faults first before sent more unsent TooLong after same count is = (is.0, count ∙ is.1, is.2 ∙ same)
ended_on left faults first before sent more unsent (Halted number) after same count is = absurd is
