-- Takes of bytes.
use Rattle.std.proofs.Common.{◌≡◌, ℕ, suc, ◌<◌, ◌≤◌, ◌⊎◌, inl, inr, Bool, true, false, None, List, [], ◌∷◌, ◌++◌, length, map, take, drop}
use Rattle.std.proofs.Common.{refl, sym, ◌∙◌, ap, ap₂, subst, arith, append_assoc, append-nil, length-append}
use Rattle.std.proofs.lemmas.List.{take_at, take_all, take-append-le, take-append-drop, append_cancel_left}
use Rattle.std.proofs.lemmas.Bool.{cases_lt}
use Rattle.part_spec.specs.Chip.{Chip}
use Rattle.line_spec.specs.declared.refusal.Refusal.TheVariants.{Failed}
use Rattle.line_spec.specs.Messages.{okay, refused}
use Rattle.line_spec.specs.Frames.{Frame, IsPartial, IsJunk}
use Rattle.line_spec.specs.Cut.{whole, junk, Cuts}
use Rattle.line_spec.specs.Hearing.{Heard, Hears}
use Rattle.line_spec.proofs.FrameBytes.{same_begins}
use Rattle.line_spec.proofs.Cuts.{no_junk_whole, no_junk_partial, no_partial_whole, Cuts-more}
use Rattle.debug_spec.specs.Device.{launched}
use Rattle.debug_spec.specs.Debugger.{Mode, stopped, launching, running, Debugger, listens, replied, dropping}
use Rattle.debug_spec.specs.Running.{launch_in}
use Rattle.debug_spec.specs.Commands.{item}
use Rattle.debug_spec.specs.Schedule.{Session}
use Rattle.debug_spec.specs.Take.{goes_on, FrameWaits, Leaves, TakesFrame, TakesNone}
use Rattle.debug_spec.specs.TakeLaws.{OneTake, LaunchesDrop}
use Rattle.debug_spec.proofs.Sessions.{EitherBy}
use Rattle.debug_spec.proofs.OneChunk.{one_hearing}

-- the launch of a prepared run, told whether it was made
abbrev pub launch_told : Bool → ℕ → Debugger → Debugger
launch_told b number s = elim b [
  | true ↦ replied number okay (record s { mode = running; device = (launched s.device).device; launches = suc s.launches })
  | false ↦ replied number (refused Failed) (record s { mode = stopped; device = (launched s.device).device; run_to = None })
]

pub launches_drop : LaunchesDrop
launches_drop count s = by_mode s.mode
  where
    by_ok : (b : Bool) (number : ℕ) → launch_told b number (dropping count s) ≡ dropping count (launch_told b number s)
    by_ok true number = refl
    by_ok false number = refl

    by_mode : (m : Mode) → launch_in m (dropping count s) ≡ dropping count (launch_in m s)
    by_mode (launching number) = by_ok (launched s.device).ok number
    by_mode _ = refl

-- where all is junk up to less than a frame, no frame waits
pub none_waits : (x y z : List ℕ) (a b : List ℕ) (frame : Frame) → Cuts x (map junk a) y → IsPartial y →
    Cuts x (map junk b ++ whole frame ∷ []) z → ⊥
none_waits x y z [] [] frame c p d = no_partial_whole x d.0 frame (subst IsPartial (sym c) p) d.1
none_waits x y z [] (j ∷ b) frame c p d = no_junk_partial x d.2 (subst IsPartial (sym c) p)
none_waits x y z (i ∷ a) [] frame c p d = no_junk_whole x d.0 frame c.2 d.1
none_waits x y z (i ∷ a) (j ∷ b) frame c p d =
    let rests : d.0 ≡ c.0 = ap (λ (t : List ℕ). drop 1 t) (sym d.1 ∙ c.1) in
    none_waits c.0 y z a b frame c.3 p (subst (λ (t : List ℕ). Cuts t (map junk b ++ whole frame ∷ []) z) rests d.3)

-- one frame waits first
pub same_waits : (x y z : List ℕ) (a b : List ℕ) (frame also : Frame) → Cuts x (map junk a ++ whole frame ∷ []) y →
    Cuts x (map junk b ++ whole also ∷ []) z →
    (length a ≡ length b) × (frame ≡ also) × (y ≡ z)
same_waits x y z [] [] frame also c d =
    let same = same_begins x c.0 d.0 frame also c.1 d.1 in (refl, same.0, sym c.2 ∙ same.1 ∙ d.2)
same_waits x y z [] (j ∷ b) frame also c d = absurd (no_junk_whole x c.0 frame d.2 c.1)
same_waits x y z (i ∷ a) [] frame also c d = absurd (no_junk_whole x d.0 also c.2 d.1)
same_waits x y z (i ∷ a) (j ∷ b) frame also c d =
    let rests : d.0 ≡ c.0 = ap (λ (t : List ℕ). drop 1 t) (sym d.1 ∙ c.1) in
    let later = same_waits c.0 y z a b frame also c.3 (subst (λ (t : List ℕ). Cuts t (map junk b ++ whole also ∷ []) z) rests d.3) in
    (ap suc later.0, later.1, later.2)

-- and junk at the front is dropped in one way
pub same_cleared : (x y z : List ℕ) (a b : List ℕ) → Cuts x (map junk a) y → (IsJunk y → ⊥) → Cuts x (map junk b) z → (IsJunk z → ⊥) →
    (length a ≡ length b) × (y ≡ z)
same_cleared x y z [] [] c n d m = (refl, sym c ∙ d)
same_cleared x y z [] (j ∷ b) c n d m = absurd (n (subst IsJunk c d.2))
same_cleared x y z (i ∷ a) [] c n d m = absurd (m (subst IsJunk d c.2))
same_cleared x y z (i ∷ a) (j ∷ b) c n d m =
    let rests : d.0 ≡ c.0 = ap (λ (t : List ℕ). drop 1 t) (sym d.1 ∙ c.1) in
    let later = same_cleared c.0 y z a b c.3 n (subst (λ (t : List ℕ). Cuts t (map junk b) z) rests d.3) m in
    (ap suc later.0, later.1)

-- a frame that waits still waits when more bytes come
pub waits-more : (x more : List ℕ) → FrameWaits x → FrameWaits (x ++ more)
waits-more x more w = (w.0, w.1, w.2 ++ more, Cuts-more x more w.2 (map junk w.0 ++ whole w.1 ∷ []) w.3)

-- the shorter of two fronts is a front of the longer
pub front_of_front : (x y z w : List ℕ) → x ++ y ≡ z ++ w → length x ≤ length z → x ≡ take (length x) z
front_of_front x y z w e short = sym (take_at x y (length x) refl) ∙ ap (take (length x)) e ∙ take-append-le (length x) z w short

leaves_one : (b : Bool) (y : List ℕ) (s : Debugger) (after other : Session) → Leaves b y s after → Leaves b y s other → after ≡ other
leaves_one true y s after other h k =
    let same = same_cleared y after.held other.held h.0 k.0 h.1 h.2 k.1 k.2 in
    ap₂ (λ (x : List ℕ) (t : Debugger). record { held = x; state = t }) same.1
    (h.3 ∙ ap (λ (n : ℕ). dropping n s) same.0 ∙ sym k.3)
leaves_one false y s after other h k = h ∙ sym k

module _ (planted : Bool) (part : Chip) (before : Session) where
  abbrev Takes : List ℕ → List ℕ → Session → Type 0
  Takes used left after = TakesFrame planted part used before after ⊎ TakesNone used left before after

  abbrev LeavesBehind : ℕ → Heard → List ℕ → Session → Type 0
  LeavesBehind count heard behind after = let s =
      item planted part heard (dropping count before.state) in Leaves (goes_on s.mode) behind s after

  waits_of : (used : List ℕ) (after : Session) → TakesFrame planted part used before after → FrameWaits (before.held ++ used)
  waits_of used after t = (t.ahead, t.frame, t.behind, t.cuts)

  no_wait_of : (used left : List ℕ) (after : Session) → TakesNone used left before after → FrameWaits (before.held ++ used) → ⊥
  no_wait_of used left after t w = none_waits (before.held ++ used) after.held w.2 t.ahead w.0 w.1 t.cuts t.partial w.3

  not_shorter : (used left also others : List ℕ) (after other : Session) → used ++ left ≡ also ++ others → Takes used left after →
      Takes also others other → length used < length also → ⊥
  not_shorter used left also others after other e (inr none) k short =
      omega (arith, ap length e, length-append used left, length-append also others, ap length none.all, short)
  not_shorter used left also others after other e (inl frame) (inl later) short =
      later.no_sooner (length used) short
      (subst (λ (t : List ℕ). FrameWaits (before.held ++ t)) (front_of_front used left also others e (omega (arith, short)))
      (waits_of used after frame))
  not_shorter used left also others after other e (inl frame) (inr none) short =
      let n = length used in
      let front : used ≡ take n also = front_of_front used left also others e (omega (arith, short)) in
      let whole_of : (before.held ++ used) ++ drop n also ≡ before.held ++ also =
      append_assoc before.held used (drop n also) ∙ ap (λ (t : List ℕ). before.held ++ (t ++ drop n also)) front ∙
      ap (λ (t : List ℕ). before.held ++ t) (take-append-drop n also) in
      no_wait_of also others other none
      (subst FrameWaits whole_of (waits-more (before.held ++ used) (drop n also) (waits_of used after frame)))

  one_result : (used left : List ℕ) (after other : Session) → Takes used left after → Takes used left other → after ≡ other
  one_result used left after other (inl h) (inr k) = absurd (no_wait_of used left other k (waits_of used after h))
  one_result used left after other (inr h) (inl k) = absurd (no_wait_of used left after h (waits_of used other k))
  one_result used left after other (inr h) (inr k) =
      let same = same_cleared (before.held ++ used) after.held other.held h.ahead k.ahead h.cuts
      (λ j. no_junk_partial after.held j h.partial) k.cuts (λ j. no_junk_partial other.held j k.partial) in
      ap₂ (λ (x : List ℕ) (t : Debugger). record { held = x; state = t }) same.1 (h.state ∙ ap (λ (n : ℕ). dropping n before.state) same.0 ∙
      sym k.state)
  one_result used left after other (inl h) (inl k) =
      let same = same_waits (before.held ++ used) h.behind k.behind h.ahead k.ahead h.frame k.frame h.cuts k.cuts in
      let heard : k.heard ≡ h.heard =
      one_hearing (whole h.frame) k.heard h.heard (subst (λ (f : Frame). Hears (whole f) k.heard) (sym same.1) k.hears) h.hears in
      let leaves = subst (λ (n : ℕ). LeavesBehind n h.heard h.behind other) (sym same.0)
      (subst (λ (w : Heard). LeavesBehind (length k.ahead) w h.behind other) heard
      (subst (λ (y : List ℕ). LeavesBehind (length k.ahead) k.heard y other) (sym same.2) k.leaves)) in
      let s = item planted part h.heard (dropping (length h.ahead) before.state) in
      leaves_one (goes_on s.mode) h.behind s after other h.leaves leaves

  same_used : (used left also others : List ℕ) (after other : Session) → used ++ left ≡ also ++ others → Takes used left after →
      Takes also others other → used ≡ also
  same_used used left also others after other e h k =
      let not_less : length also ≤ length used = elim (cases_lt (length used) (length also)) [
        | inl short ↦ absurd (not_shorter used left also others after other e h k short)
        | inr long ↦ long
      ] in
      let not_more : length used ≤ length also = elim (cases_lt (length also) (length used)) [
        | inl short ↦ absurd (not_shorter also others used left other after (sym e) k h short)
        | inr long ↦ long
      ] in
      front_of_front used left also others e not_more ∙ take_all (length used) also not_less

  one_take_by : (b : Bool) (used left also others : List ℕ) (after other : Session) → used ++ left ≡ also ++ others →
      EitherBy b (Takes used left after) ((left ≡ []) × (after ≡ before)) →
      EitherBy b (Takes also others other) ((others ≡ []) × (other ≡ before)) →
      (used ≡ also) × (left ≡ others) × (after ≡ other)
  one_take_by true used left also others after other e h k =
      let same = same_used used left also others after other e h k in
      let rests : left ≡ others = append_cancel_left used left others (e ∙ ap (λ (t : List ℕ). t ++ others) (sym same)) in (
        same,
        rests,
        one_result used left after other h
            (subst (λ (t : List ℕ). Takes t left other) (sym same) (subst (λ (t : List ℕ). Takes also t other) (sym rests) k)),
      )
  one_take_by false used left also others after other e h k = (
    sym (append-nil used) ∙ ap (λ (t : List ℕ). used ++ t) (sym h.0) ∙ e ∙ ap (λ (t : List ℕ). also ++ t) k.0 ∙ append-nil also,
    h.0 ∙
        sym k.0,
    h.1 ∙ sym k.1,
  )

pub one_take : OneTake
one_take planted part used left also others before after other e h k =
    one_take_by planted part before (listens before.state.mode) used left also others after other e h k
