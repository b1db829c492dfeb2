-- Replies and events as frames: their bodies are those of responses and events within their limits.
use Rattle.std.proofs.Common.{◌≡◌, ◌≢◌, ℕ, zero, suc, ◌*◌, ◌<◌, ◌≤◌, ◌^◌, ◌%◌, ◌==◌, true, not, List, [], ◌∷◌, ◌++◌, length, refl, sym}
use Rattle.std.proofs.Common.{◌∙◌, ap, subst, arith, length-append}
use Rattle.std.specs.Prelude.{slice_index}
use Rattle.std.specs.List.{list_all}
use Rattle.std.specs.Int.{w32, to_le_bytes, byte_at}
use Rattle.std.proofs.lemmas.Bool.{and_parts, true≢false}
use Rattle.line_spec.specs.Frames.{Frame, IsFrame, IsBytes, bytes_of, body_limit}
use Rattle.line_spec.specs.Messages.{Response, response_body, okay, parameter, memory, program_counter, signed_on, refused}
use Rattle.line_spec.specs.Messages.{IsResponse, own_head, own_name, break_at, event_body}
use Rattle.line_spec.specs.Hearing.{event_number}
use Rattle.line_spec.proofs.Bytes.{IsBytes-along, IsBytes-left, IsBytes-cons, IsBytes-append, IsBytes-four}
use Rattle.line_spec.proofs.FrameBytes.{bytes_of-headed, check_bytes, length-bytes_of}
use Rattle.line_spec.proofs.Bodies.{one_byte}
use Rattle.debug_spec.specs.Stop.{Cause, cause_code, breakpoint, forced, by_step, by_reset, own_break, undefined, failed_write}
use Rattle.debug_spec.proofs.Soundness.{reply}
use Rattle.host_session.specs.Calls.{IsAnswer}
use Rattle.shell_spec.proofs.Streams.{are_bytes}
use Rattle.script_laws.specs.Waiting.{Each, stream, IsEvent}
use Rattle.script_laws.specs.Answers.{IsShort, IsTold}

-- a frame whose bytes are bytes has such a body
pub body_bytes : (frame : Frame) → IsBytes (bytes_of frame) → IsBytes frame.body
body_bytes frame b =
    let h = IsBytes-along _ _ (bytes_of-headed frame) b in
    IsBytes-left frame.body (check_bytes frame) (λ i. h (suc (suc (suc (suc (suc (suc (suc (suc i)))))))))

-- the four bytes of a number are those of its rest by 2^32
low_bytes : (n : ℕ) → to_le_bytes w32 n ≡ to_le_bytes w32 (n % 2 ^ 32)
low_bytes n =
    let a : n % 256 ≡ n % 2 ^ 32 % 256 = omega arith in
    let b : byte_at 1 n ≡ byte_at 1 (n % 2 ^ 32) = omega arith in
    let c : byte_at 2 n ≡ byte_at 2 (n % 2 ^ 32) = omega arith in
    let d : byte_at 3 n ≡ byte_at 3 (n % 2 ^ 32) = omega arith in
    cc

no_zero : (bytes : List ℕ) → list_all (λ byte. not (byte == 0)) bytes ≡ true → (i : ℕ) → i < length bytes → slice_index bytes i ≢ 0
no_zero [] all i h = absurd (omega (arith, h))
no_zero (byte ∷ bytes) all zero h = λ e.
    true≢false (sym (and_parts (not (byte == 0)) (list_all (λ b. not (b == 0)) bytes) all).0 ∙ ap (λ (b : ℕ). not (b == 0)) e)
no_zero (byte ∷ bytes) all (suc i) h =
    no_zero bytes (and_parts (not (byte == 0)) (list_all (λ b. not (b == 0)) bytes) all).1 i (omega (arith, h))

-- the body of a short response is that of a response within its limits
pub short_answers : (response : Response) → IsShort response → IsBytes (response_body response) → IsAnswer (response_body response)
short_answers okay h b = (okay, (tt, refl))
short_answers (parameter bytes) h b = (parameter bytes, ((λ i. b (suc i), omega (arith, h)), refl))
short_answers (memory bytes) h b = (memory bytes, ((λ i. b (suc i), h), refl))
short_answers (program_counter address) h b =
    (program_counter (address % 2 ^ 32), (omega arith, ap (λ (t : List ℕ). 0x84 ∷ t) (low_bytes address)))
short_answers (signed_on head name) h b =
    let own : IsResponse (signed_on own_head own_name) =
    (are_bytes own_head refl, are_bytes own_name refl, refl, omega arith, no_zero own_name refl) in (
      signed_on own_head own_name,
      (
        own,
        ap (λ (t : List ℕ). 0x86 ∷ t ++ name ++ 0x00 ∷ []) h.0 ∙
            ap (λ (t : List ℕ). 0x86 ∷ own_head ++ t ++ 0x00 ∷ []) h.1,
      ),
    )
short_answers (refused refusal) h b = (refused refusal, (tt, refl))

-- and fits
pub short_fits : (response : Response) → IsShort response → length (response_body response) ≤ body_limit
short_fits okay h = omega arith
short_fits (parameter bytes) h = omega (arith, h)
short_fits (memory bytes) h = omega (arith, h)
short_fits (program_counter address) h = omega arith
short_fits (signed_on head name) h =
    omega (arith, length-append (head ++ name) (0x00 ∷ []), length-append head name, ap length h.0, ap length h.1)
short_fits (refused refusal) h = omega arith

pub reply_valid : (number : ℕ) (response : Response) → number < event_number → IsShort response → IsBytes (bytes_of (reply number response)) →
    IsFrame (reply number response) × IsAnswer (reply number response).body
reply_valid number response small h b =
    let body = body_bytes (reply number response) b in
    (record { number = omega (arith, small); body = short_fits response h; bytes = body }, short_answers response h body)

small_cause : (cause : Cause) → cause_code cause < 256
small_cause breakpoint = omega arith
small_cause forced = omega arith
small_cause by_step = omega arith
small_cause by_reset = omega arith
small_cause own_break = omega arith
small_cause undefined = omega arith
small_cause failed_write = omega arith

-- an event that is told is one within its limits
told_event : (frame : Frame) → IsTold frame → IsEvent frame
told_event frame t = record {
  number = ap (λ (x : Frame). x.number) t.is;
  told_by = break_at (t.address % 2 ^ 32) (cause_code t.cause);
  body = (
    (omega arith, small_cause t.cause),
    ap (λ (x : Frame). x.body) t.is ∙ ap (λ (l : List ℕ). 0xE0 ∷ l ++ cause_code t.cause ∷ []) (low_bytes t.address),
  );
}

four_bytes : (n : ℕ) → IsBytes (to_le_bytes w32 n)
four_bytes n = IsBytes-four (byte_at 0 n) (byte_at 1 n) (byte_at 2 n) (byte_at 3 n) (omega arith) (omega arith) (omega arith) (omega arith)

told_valid : (frame : Frame) → IsTold frame → IsFrame frame
told_valid frame t = subst IsFrame (sym t.is) (record {
  number = omega arith;
  body = omega arith;
  bytes = IsBytes-cons 0xE0 (to_le_bytes w32 t.address ++ cause_code t.cause ∷ []) (omega arith)
      (IsBytes-append (to_le_bytes w32 t.address) (cause_code t.cause ∷ []) (four_bytes t.address) (one_byte (cause_code t.cause) (small_cause t.cause)));
})

pub told_events : (frames : List Frame) → Each IsTold frames → Each IsEvent frames
told_events [] h = tt
told_events (frame ∷ frames) h = (told_event frame h.0, told_events frames h.1)

pub told_frames : (frames : List Frame) → Each IsTold frames → Each IsFrame frames
told_frames [] h = tt
told_frames (frame ∷ frames) h = (told_valid frame h.0, told_frames frames h.1)

event_size : (frame : Frame) → IsEvent frame → length frame.body ≡ 6
event_size frame e = by_event e.told_by e.body.1
  where
    by_event : (event : _) → frame.body ≡ event_body event → length frame.body ≡ 6
    by_event (break_at address cause) same = ap length same

-- so many bytes have events
pub events_size : (frames : List Frame) → Each IsEvent frames → length (stream frames) ≡ 16 * length frames
events_size [] h = refl
events_size (frame ∷ frames) h = omega (
  arith,
  length-append (bytes_of frame) (stream frames),
  length-bytes_of frame,
  event_size frame h.0,
  events_size frames h.1,
)
