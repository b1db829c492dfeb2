-- A host that follows a script: its events wait where those of the script do.
use Rattle.std.specs.Prelude.{◌≡◌, ◌≤◌, ℕ, true, List, [], ◌∷◌, ◌++◌, length, Result, Ok, Err}
use Rattle.line_spec.specs.Frames.{Frame, IsFrame, IsBytes}
use Rattle.line_spec.specs.Messages.{IsEventBody}
use Rattle.debug_spec.specs.Debugger.{Debugger, listens}
use Rattle.debug_spec.specs.Replay.{bytes_sent}
use Rattle.ice_msg.specs.Reading.{told}
use Rattle.ice_msg.specs.declared.event.Event.{Event}
use Rattle.host_session.specs.Standing.{Hosted}
use Rattle.host_session.specs.declared.error.HostError.{HostError}
use Rattle.host_session.specs.declared.error.HostError.TheVariants.{Closed, EventsFull}
use Rattle.shell_spec.specs.Lines.{Line}
use Rattle.shell_spec.specs.Sent.{number_behind}
use Rattle.shell_spec.specs.Script.{Script, answer, event, no_event, events_full, goes_on, has_failed, ending_behind}
use Rattle.script_laws.specs.Waiting.{Each, stream, IsEvent, AreKept, AreShort}

-- the script goes on, and of the frames of its queue the first are the events that the host keeps, and the others have come and were not
-- taken, or wait in the link, with nothing besides
pub record Follows {L : Type 0} (waits : L → List ℕ) (host : Hosted L) (s : Script) : Type 0 where
  pub kept_frames : List Frame
  pub waiting : List Frame
  pub are : AreKept kept_frames host.standing.kept
  pub queue : s.queue ≡ kept_frames ++ waiting
  pub streams : host.standing.pending ++ waits host.standing.link ≡ stream waiting
  pub events : Each IsEvent waiting
  pub valid : Each IsFrame waiting
  pub few : length waiting ≤ 2
  pub number : host.number ≡ number_behind (length s.commands)
  pub listening : listens s.debugger.mode ≡ true
  pub short : AreShort s.debugger.parameters
  pub going : s.ending ≡ goes_on

-- what was sent over a link is answered by what a debugger sends, at the end of what waits
pub record AnswersBy {L : Type 0} (waits : L → List ℕ) (before at : L) (s after : Debugger) : Type 0 where
  pub out : List ℕ
  pub waits_then : waits at ≡ waits before ++ out
  pub sent : bytes_sent after ≡ bytes_sent s ++ out
  pub bytes : IsBytes (waits at)

-- what a request comes to in a script: its answer is said, and where the debugger still listens the host follows on; or too many events
-- wait ahead of the answer
abbrev pub Tells : {L : Type 0} → (L → List ℕ) → Line → Result Frame HostError → Hosted L → Script → Script → Type 0
Tells waits line (Ok frame) now s t = (t.said ≡ s.said ++ answer line frame ∷ []) × (t.ending ≡ ending_behind line) ×
    (listens t.debugger.mode ≡ true → ending_behind line ≡ goes_on → Follows waits now t)
Tells waits line (Err error) now s t = ((one : Event) × (error ≡ EventsFull one)) × (t.said ≡ s.said ++ events_full ∷ []) ×
    (t.ending ≡ has_failed)

-- what a wait for an event comes to: the oldest is taken, and the host follows on; or none waits, and none can come
abbrev pub Takes : {L : Type 0} → (L → List ℕ) → Result Event HostError → Hosted L → Script → Script → Type 0
Takes waits (Ok one) now s t = ((frame : Frame) × (t.said ≡ s.said ++ event frame ∷ []) × IsEventBody (told one) frame.body) ×
    Follows waits now t
Takes waits (Err error) now s t = (error ≡ Closed) × (t.said ≡ s.said ++ no_event ∷ []) × (t.ending ≡ has_failed)
