-- Streams of whole frames, and what a cut of a front of one gives.
use Rattle.std.proofs.Common.{◌≡◌, ℕ, List, [], ◌∷◌, ◌++◌, length, map, refl, sym, ◌∙◌, ap, arith}
use Rattle.std.proofs.Common.{append_assoc, append-nil, length-append}
use Rattle.line_spec.specs.Frames.{Frame, IsFrame, IsPartial, bytes_of}
use Rattle.line_spec.specs.Cut.{Item, whole, junk, Cuts}
use Rattle.line_spec.proofs.FrameBytes.{length-bytes_of, same_front}
use Rattle.line_spec.proofs.Cuts.{no_partial_whole}
use Rattle.ice_recv.specs.Receiving.{OnlyJunk}
use Rattle.ice_recv.specs.Handing.{frames_in}
use Rattle.script_laws.specs.Waiting.{Each, IsFront, stream}

pub each-append : {A : Type 0} (P : A → Type 0) (xs ys : List A) → Each P xs → Each P ys → Each P (xs ++ ys)
each-append P [] ys h k = k
each-append P (x ∷ xs) ys h k = (h.0, each-append P xs ys h.1 k)

pub each-left : {A : Type 0} (P : A → Type 0) (xs ys : List A) → Each P (xs ++ ys) → Each P xs
each-left P [] ys h = tt
each-left P (x ∷ xs) ys h = (h.0, each-left P xs ys h.1)

pub each-right : {A : Type 0} (P : A → Type 0) (xs ys : List A) → Each P (xs ++ ys) → Each P ys
each-right P [] ys h = h
each-right P (x ∷ xs) ys h = each-right P xs ys h.1

-- no frame is without bytes
never_empty : (frame : Frame) (more : List ℕ) → bytes_of frame ++ more ≡ [] → ⊥
never_empty frame more e = omega (arith, ap length e, length-append (bytes_of frame) more, length-bytes_of frame)

front_more : (frame other : Frame) (frames : List Frame) (items : List Item) (behind rest : List ℕ) → frame ≡ other →
    IsFront frames items behind rest → IsFront (other ∷ frames) (whole frame ∷ items) behind rest
front_more frame other frames items behind rest same h = record {
  first = frame ∷ h.first;
  later = h.later;
  split = ap (λ (f : Frame). f ∷ frames) (sym same) ∙ ap (λ (t : List Frame). frame ∷ t) h.split;
  items_are = ap (λ (t : List Item). whole frame ∷ t) h.items_are;
  left = h.left;
}

pub front_of : (frames : List Frame) (items : List Item) (bytes behind rest : List ℕ) → Each IsFrame frames → bytes ++ rest ≡ stream frames →
    Cuts bytes items behind → IsFront frames items behind rest
front_of frames [] bytes behind rest all e c =
    record { first = []; later = frames; split = refl; items_are = refl; left = ap (λ (t : List ℕ). t ++ rest) (sym c) ∙ e }
front_of [] (whole frame ∷ items) bytes behind rest all e c =
    absurd (never_empty frame (c.0 ++ rest)
    (sym (append_assoc (bytes_of frame) c.0 rest) ∙ ap (λ (t : List ℕ). t ++ rest) (sym c.1.split) ∙ e))
front_of (other ∷ frames) (whole frame ∷ items) bytes behind rest all e c =
    let both : bytes_of frame ++ (c.0 ++ rest) ≡ bytes_of other ++ stream frames =
    sym (append_assoc (bytes_of frame) c.0 rest) ∙ ap (λ (t : List ℕ). t ++ rest) (sym c.1.split) ∙ e in
    let same = same_front frame other (c.0 ++ rest) (stream frames) c.1.valid all.0 both in
    front_more frame other frames items behind rest same.0
    (front_of frames items c.0 behind rest all.1 same.1 c.2)
front_of [] (junk byte ∷ items) bytes behind rest all e c =
    absurd (let none : byte ∷ (c.0 ++ rest) ≡ [] = ap (λ (t : List ℕ). t ++ rest) (sym c.1) ∙ e in cc)
front_of (other ∷ frames) (junk byte ∷ items) bytes behind rest all e c =
    absurd (c.2 other rest (stream frames) all.0 e)

-- where less than a frame is left and nothing behind it, the stream has ended
pub ended : (later : List Frame) (behind : List ℕ) → Each IsFrame later → IsPartial behind → behind ++ [] ≡ stream later → later ≡ []
ended [] behind all p e = refl
ended (frame ∷ later) behind all p e = absurd (no_partial_whole behind (stream later) frame p
    (record { valid = all.0; split = sym (append-nil behind) ∙ e }))

-- of whole frames none is junk
pub no_junk : (first : List Frame) → OnlyJunk (map whole first) → first ≡ []
no_junk [] only = refl
no_junk (frame ∷ first) only = absurd only

pub frames_of_whole : (first : List Frame) → frames_in (map whole first) ≡ first
frames_of_whole [] = refl
frames_of_whole (frame ∷ first) = ap (λ (t : List Frame). frame ∷ t) (frames_of_whole first)
