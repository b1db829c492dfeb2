-- What is printed of a script.
use Rattle.std.specs.Prelude.{◌≡◌, ℕ, Bool, List, [], ◌∷◌, ◌++◌}
use Rattle.part_spec.specs.Chip.{Chip}
use Rattle.line_spec.specs.Frames.{Frame}
use Rattle.line_spec.specs.Messages.{Response, IsResponseBody, Event, IsEventBody}
use Rattle.debug_spec.specs.Device.{Device}
use Rattle.debug_spec.specs.Debugger.{Debugger}
use Rattle.shell_spec.specs.Lines.{Line}
use Rattle.shell_spec.specs.Sends.{dump_address}
use Rattle.shell_spec.specs.Printed.{answer_text, error_text, event_text, closed_text, events_full_text}
use Rattle.shell_spec.specs.Script.{Said, wrong, answer, event, no_event, events_full, Ending, script, left_behind}

-- the text is that of the response which the frame's body is
pub record IsAnswerText (line : Line) (frame : Frame) (text : List ℕ) : Type 0 where
  pub response : Response
  pub body : IsResponseBody response frame.body
  pub is : text ≡ answer_text (dump_address line) response

-- the text is that of the event which the frame's body is
pub record IsEventText (frame : Frame) (text : List ℕ) : Type 0 where
  pub told : Event
  pub body : IsEventBody told frame.body
  pub is : text ≡ event_text told

-- the text of what is said
abbrev pub IsText : Said → (text : List ℕ) → Type 0
IsText (wrong error) text = text ≡ error_text error
IsText (answer line frame) text = IsAnswerText line frame text
IsText (event frame) text = IsEventText frame text
IsText no_event text = text ≡ closed_text
IsText events_full text = text ≡ events_full_text

-- the texts of all that is said, one behind the other
abbrev pub AreTexts : List Said → (text : List ℕ) → Type 0
AreTexts [] text = text ≡ []
AreTexts (one ∷ more) text = (first later : List ℕ) × IsText one first × AreTexts more later × (text ≡ first ++ later)

-- the transcript of a script of these lines, how it ended, and the debugger behind it
pub record IsTranscript (planted : Bool) (part : Chip) (stops prog : List ℕ) (device : Device) (lines : List (List ℕ))
    (text : List ℕ) (ending : Ending) (end : Debugger) : Type 0 where
  pub texts : AreTexts (script planted part stops prog device lines).said text
  pub is_ending : ending ≡ (script planted part stops prog device lines).ending
  pub is_end : end ≡ left_behind planted part stops (script planted part stops prog device lines)
