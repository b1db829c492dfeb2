-- The parts of a frame, one behind the other, are its bytes.
use Rattle.std.proofs.Common.{◌≡◌, ℕ, List, [], ◌∷◌, ◌++◌, length, sym, ap, ◌∙◌}
use Rattle.std.specs.Int.{w16, w32, to_le_bytes}
use Rattle.line_spec.specs.Check.{check}
use Rattle.line_spec.specs.Frames.{Frame, unchecked, bytes_of}
use Rattle.line_spec.proofs.FrameBytes.{unchecked-headed, bytes_of-unchecked}

pub written : (frame : Frame) (sum : ℕ) (none start number size token body whole : List ℕ) → none ≡ []
    → start ≡ none ++ 0x1B ∷ [] → number ≡ start ++ to_le_bytes w16 frame.number
    → size ≡ number ++ to_le_bytes w32 (length frame.body) → token ≡ size ++ 0x0E ∷ [] → body ≡ token ++ frame.body
    → sum ≡ check body → whole ≡ body ++ to_le_bytes w16 sum → whole ≡ bytes_of frame
written frame sum none start number size token body whole a b c d e f g h =
    let started : start ≡ 0x1B ∷ [] = b ∙ ap (λ (t : List ℕ). t ++ 0x1B ∷ []) a in
    let numbered = c ∙ ap (λ (t : List ℕ). t ++ to_le_bytes w16 frame.number) started in
    let sized = d ∙ ap (λ (t : List ℕ). t ++ to_le_bytes w32 (length frame.body)) numbered in
    let tokened = e ∙ ap (λ (t : List ℕ). t ++ 0x0E ∷ []) sized in
    let all : body ≡ unchecked frame =
    f ∙ ap (λ (t : List ℕ). t ++ frame.body) tokened ∙ sym (unchecked-headed frame) in
    h ∙ ap (λ (k : ℕ). body ++ to_le_bytes w16 k) g ∙ ap (λ (t : List ℕ). t ++ to_le_bytes w16 (check t)) all
    ∙ sym (bytes_of-unchecked frame)
