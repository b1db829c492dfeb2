-- The bytes of one frame, or a front of them, where nothing is held: the frame is heard, or nothing is.
use Rattle.std.proofs.Common.{◌≡◌, ℕ, ◌<◌, ◌≤◌, ◌^◌, ◌%◌, true, List, [], ◌∷◌, ◌++◌, length, map, refl, sym, ◌∙◌, ap, subst, arith}
use Rattle.std.proofs.Common.{◌⊎◌, inl, inr, append-nil, length-append}
use Rattle.std.specs.Int.{w16, w32, to_le_bytes, byte_at}
use Rattle.part_spec.specs.Chip.{Chip}
use Rattle.line_spec.specs.Check.{check}
use Rattle.line_spec.specs.Frames.{Frame, IsFrame, IsBytes, bytes_of, unchecked, body_limit}
use Rattle.line_spec.specs.Cut.{Item, whole, Cuts}
use Rattle.line_spec.specs.Messages.{Command, IsCommand, command_body, ignored_written}
use Rattle.line_spec.specs.Hearing.{Heard, Hears, HearsAll, Request, request, dropped, asks, event_number}
use Rattle.line_spec.proofs.Bodies.{written_belongs}
use Rattle.line_spec.proofs.HeardLemmas.{one_request}
use Rattle.debug_spec.specs.Replay.{over}
use Rattle.debug_spec.specs.Schedule.{Session}
use Rattle.debug_spec.specs.TakeReplays.{IsReplayed}
use Rattle.host_session.specs.Calls.{command_bytes}
use Rattle.script_laws.specs.Waiting.{IsFront, stream}
use Rattle.script_laws.proofs.Streams.{front_of}
use Rattle.script_laws.proofs.Valid.{body_bytes}

-- the frame of a command, whose number has two bytes
abbrev pub framed : ℕ → Command → Frame
framed number command = record { number = number % 2 ^ 16; body = command_body command (ignored_written command) }

low_number : (n : ℕ) → to_le_bytes w16 n ≡ to_le_bytes w16 (n % 2 ^ 16)
low_number n =
    let a : n % 256 ≡ n % 2 ^ 16 % 256 = omega arith in
    let b : byte_at 1 n ≡ byte_at 1 (n % 2 ^ 16) = omega arith in
    cc

low_frame : (n : ℕ) (body : List ℕ) →
    bytes_of (record { number = n; body = body }) ≡ bytes_of (record { number = n % 2 ^ 16; body = body })
unfolding unchecked bytes_of
low_frame n body = ap (λ (h : List ℕ).
    let u : List ℕ = 0x1B ∷ h ++ to_le_bytes w32 (length body) ++ 0x0E ∷ body in u ++ to_le_bytes w16 (check u)) (low_number n)

pub framed_bytes : (number : ℕ) (command : Command) → command_bytes number command ≡ bytes_of (framed number command)
framed_bytes number command = low_frame number (command_body command (ignored_written command))

pub framed_valid : (number : ℕ) (command : Command) → length (command_body command (ignored_written command)) ≤ body_limit →
    IsBytes (command_bytes number command) → IsFrame (framed number command)
framed_valid number command size bytes = record {
  number = omega arith;
  body = size;
  bytes = body_bytes (framed number command) (subst IsBytes (framed_bytes number command) bytes);
}

-- what is heard of it, where its number is not that of events
pub framed_heard : (number : ℕ) (command : Command) (heard : Heard) → IsCommand command → number < event_number →
    Hears (whole (framed number command)) heard → heard ≡ request number (asks command)
framed_heard number command (request n asked) valid small h =
    ap (λ (k : ℕ). request k asked) (omega (arith, h.1, small)) ∙ ap (λ (r : Request). request number r)
    (one_request (command_body command (ignored_written command)) asked (asks command) h.2 (written_belongs command valid))
framed_heard number command (dropped count) valid small h = absurd (omega (arith, h.0, small))

none_heard : (items : List Item) (heard : List Heard) → items ≡ [] → HearsAll items heard → heard ≡ []
none_heard items [] is h = refl
none_heard items (one ∷ heard) is h = absurd (subst (λ (i : List Item). HearsAll i (one ∷ heard)) is h)

one_heard : (frame : Frame) (items : List Item) (heard : List Heard) → items ≡ whole frame ∷ [] → HearsAll items heard →
    (one : Heard) × Hears (whole frame) one × (heard ≡ one ∷ [])
one_heard frame items [] is h = absurd (subst (λ (i : List Item). HearsAll i []) is h)
one_heard frame items (one ∷ []) is h = (one, (subst (λ (i : List Item). HearsAll i (one ∷ [])) is h).0, refl)
one_heard frame items (one ∷ other ∷ heard) is h =
    absurd ((subst (λ (i : List Item). HearsAll i (one ∷ other ∷ heard)) is h).1)

module _ (part : Chip) (stops : List ℕ) (frame : Frame) (bytes rest : List ℕ) (s t : Session) where
  -- the frame is heard, and nothing stays behind
  pub record HearsIt (behind : List ℕ) : Type 0 where
    pub heard : Heard
    pub hears : Hears (whole frame) heard
    pub state : t.state ≡ over true part stops (heard ∷ []) s.state
    pub nothing : behind ++ rest ≡ []

  -- nothing is heard, and all stays
  pub record HearsNone (behind : List ℕ) : Type 0 where
    pub state : t.state ≡ s.state
    pub all : behind ++ rest ≡ bytes_of frame

  pub it_or_none : IsFrame frame → bytes ++ rest ≡ bytes_of frame → s.held ≡ [] → (r : IsReplayed true part stops bytes s t) →
      HearsIt r.behind ⊎ HearsNone r.behind
  it_or_none valid split empty r = by_front front.first front.later front.split front.items_are front.left
    where
      cuts : Cuts bytes r.items r.behind
      cuts = subst (λ (l : List ℕ). Cuts (l ++ bytes) r.items r.behind) empty r.cuts

      front : IsFront (frame ∷ []) r.items r.behind rest
      front = front_of (frame ∷ []) r.items bytes r.behind rest (valid, tt) (split ∙ sym (append-nil (bytes_of frame))) cuts

      by_front : (first later : List Frame) → frame ∷ [] ≡ first ++ later → r.items ≡ map whole first → r.behind ++ rest ≡ stream later →
          HearsIt r.behind ⊎ HearsNone r.behind
      by_front [] later e is left = inr (record {
        state = r.state ∙ ap (λ (h : List Heard). over true part stops h s.state) (none_heard r.items r.heard is r.hears);
        all = left ∙ ap stream (sym e) ∙ append-nil (bytes_of frame);
      })
      by_front (f ∷ []) later e is left =
          let same : f ≡ frame = cc in
          let none : later ≡ [] = cc in
          let one = one_heard frame r.items r.heard (is ∙ ap (λ (x : Frame). whole x ∷ []) same) r.hears in
          inl (record {
            heard = one.0;
            hears = one.1;
            state = r.state ∙ ap (λ (h : List Heard). over true part stops h s.state) one.2;
            nothing = left ∙ ap stream none;
          })
      by_front (f ∷ g ∷ first) later e is left = absurd (omega (arith, ap length e, length-append first later))
