-- What is said has one text.
use Rattle.std.proofs.Common.{◌≡◌, ℕ, List, [], ◌∷◌, ◌++◌, refl, sym, ◌∙◌, ap, ap₂, append_assoc}
use Rattle.line_spec.specs.Frames.{Frame}
use Rattle.line_spec.specs.Messages.{Response, Event}
use Rattle.line_spec.proofs.Bodies.{one_response, one_event}
use Rattle.shell_spec.specs.Lines.{Line}
use Rattle.shell_spec.specs.Sends.{dump_address}
use Rattle.shell_spec.specs.Printed.{answer_text, event_text}
use Rattle.shell_spec.specs.Script.{Said, wrong, answer, event, no_event, events_full, script}
use Rattle.shell_spec.specs.ScriptLaws.{OneTranscript}
use Rattle.shell_spec.specs.Transcript.{IsAnswerText, IsEventText, IsText, AreTexts}

one_answer : (line : Line) (frame : Frame) (text other : List ℕ) → IsAnswerText line frame text → IsAnswerText line frame other →
    text ≡ other
one_answer line frame text other a b =
    a.is ∙ ap (λ (r : Response). answer_text (dump_address line) r) (one_response frame.body a.response b.response a.body b.body) ∙ sym b.is

one_told : (frame : Frame) (text other : List ℕ) → IsEventText frame text → IsEventText frame other → text ≡ other
one_told frame text other a b = a.is ∙ ap (λ (e : Event). event_text e) (one_event frame.body a.told b.told a.body b.body) ∙ sym b.is

one_text : (said : Said) (text other : List ℕ) → IsText said text → IsText said other → text ≡ other
one_text (wrong error) text other a b = a ∙ sym b
one_text (answer line frame) text other a b = one_answer line frame text other a b
one_text (event frame) text other a b = one_told frame text other a b
one_text no_event text other a b = a ∙ sym b
one_text events_full text other a b = a ∙ sym b

pub same_texts : (said : List Said) (text other : List ℕ) → AreTexts said text → AreTexts said other → text ≡ other
same_texts [] text other a b = a ∙ sym b
same_texts (one ∷ more) text other a b =
    a.4 ∙ ap₂ (λ (first later : List ℕ). first ++ later) (one_text one a.0 b.0 a.2 b.2) (same_texts more a.1 b.1 a.3 b.3) ∙ sym b.4

-- texts of what is said first are the first texts
pub texts-append : (said more : List Said) (text : List ℕ) → AreTexts (said ++ more) text →
    (first later : List ℕ) × AreTexts said first × AreTexts more later × (text ≡ first ++ later)
texts-append [] more text a = ([], text, refl, a, refl)
texts-append (one ∷ said) more text a =
    let behind = texts-append said more a.1 a.3 in (
      a.0 ++ behind.0,
      behind.1,
      (a.0, behind.0, a.2, behind.2, refl),
      behind.3,
      a.4 ∙ ap (λ (t : List ℕ). a.0 ++ t) behind.4 ∙ sym (append_assoc a.0 behind.0 behind.1),
    )

pub one_transcript : OneTranscript
one_transcript planted part stops prog device lines text other ending other_ending end other_end a b = (
  same_texts (script planted part stops prog device lines).said text other a.texts b.texts,
  a.is_ending ∙ sym b.is_ending,
  a.is_end ∙ sym b.is_end,
)
