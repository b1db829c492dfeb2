-- What a verifier stands for, and what it does with a line.
use Rattle.std.specs.Prelude.{◌≡◌, ◌⊎◌, ◌≤◌, ℕ, length, Bool, true, false, ◌&&◌, List, [], Option, None, Some, is_some, not}
use Rattle.part_spec.specs.declared.part.Part.{Part}
use Rattle.part_spec.specs.Chip.{chip_of}
use Rattle.avr_spec.specs.Kept.{kept}
use Rattle.debug_spec.specs.Schedule.{Keeps}
use Rattle.debug_spec.specs.SessionLaws.{is_closed}
use Rattle.debug_spec.specs.Take.{goes_on}
use Rattle.record_spec.specs.declared.limits.TheConstants.{STEP_LIMIT}
use Rattle.record_spec.specs.Lines.{Line}
use Rattle.record_spec.specs.Fits.{Point, Follows}
use Rattle.record_spec.specs.Judging.{IsBad, IsLong, IsRefuted, GoesOn}
use Rattle.ice_answer.specs.Kept.{kept_tool, prepared_number}
use Rattle.line_spec.specs.Frames.{Frame}
use Rattle.line_spec.specs.Cut.{whole}
use Rattle.line_spec.specs.Hearing.{Heard, Hears}
use Rattle.ice_recv.specs.Receiving.{Waits}
use Rattle.ice_recv.specs.Handing.{Takes}
use Rattle.debug_spec.specs.Debugger.{Debugger, dropping}
use Rattle.debug_spec.specs.Running.{launch_if_prepared}
use Rattle.debug_spec.specs.Commands.{item}
use Rattle.ice_verify.specs.Well.{IsGood, DoesWell}
use Rattle.ice_verify.specs.Standing.{IsReady, at_of}
use Rattle.ice_verify.specs.declared.verifier.Verifier.{Verifier}
use Rattle.ice_verify.specs.declared.verifier.Verdict.{Verdict}
use Rattle.ice_verify.specs.declared.verifier.Verdict.TheVariants.{Bad, Long, No as Refuted}

-- what is still to be told
abbrev pub owed_by : (owes : Bool) → (sent : List ℕ) → Option (List ℕ)
owed_by true sent = Some sent
owed_by false sent = None

-- it stands for a point, but for the steps
pub record Stands (part : Part) (v : Verifier) (at : Point) : Type 0 where
  pub tool : v.plain.tool ≡ kept_tool part at.session.state
  pub core : v.plain.core ≡ kept (chip_of part) at.session.state.machine
  pub comparators : v.plain.comparators ≡ at.session.state.comparators
  pub held : Keeps (goes_on at.session.state.mode) v.receiver.held at.session.held
  pub good : IsGood at.session.state
  pub owed : at.owed ≡ owed_by v.owes v.sent.items

-- it stands for a point of a record
pub record StandsAt (part : Part) (v : Verifier) (at : Point) : Type 0 where
  pub stands : Stands part v at
  pub steps : v.steps ≡ at.steps

-- what holds of it between two lines
pub record IsSound (v : Verifier) : Type 0 where
  pub ready : IsReady v.plain
  pub calm : prepared_number v.plain.tool.mode ≡ None
  pub told : v.owes ≡ false → v.sent.items ≡ []
  pub steps : v.steps ≤ STEP_LIMIT

-- a line is true, and the verifier then stands where it leads; or it is not
abbrev pub IsFollowed : Line → Verifier → Bool → Verifier → Type 0
IsFollowed line before result after =
    (result ≡ true → (part : Part) (at : Point) → Stands part before at →
    (to : Point) × Follows (chip_of part) line at to × Stands part after to) ×
    (result ≡ false → (part : Part) (at : Point) → Stands part before at → (to : Point) → Follows (chip_of part) line at to → ⊥)

-- what is behind a frame that was heard: its run launched, and the junk behind it dropped while the session goes on
abbrev pub behind_frame : (junk : ℕ) → Debugger → Debugger
behind_frame junk s = launch_if_prepared (elim (goes_on s.mode) [ true ↦ dropping junk s | false ↦ s ])

-- the frame that waits is taken off and heard
pub record TakesFrameOff (before after : Verifier) : Type 0 where
  pub frame : Frame
  pub takes : Takes before.receiver frame after.receiver
  pub heard : Heard
  pub hears : Hears (whole frame) heard
  pub does : DoesWell (λ part s. behind_frame (length takes.2.items) (item false part heard s))
      (at_of before.plain before.sent.items) (at_of after.plain after.sent.items)

-- if one waits
abbrev pub TakesWaiting : Verifier → Verifier → Type 0
TakesWaiting before after = ((Waits before.receiver.held → ⊥) × (after ≡ before)) ⊎ TakesFrameOff before after

-- what is said of a text at a point: a verdict, or none, and then the verifier stands behind it
abbrev pub Says : Part → Point → List ℕ → Option Verdict → Verifier → Type 0
Says part at text (Some Bad) after = IsBad at text
Says part at text (Some Long) after = IsLong at text
Says part at text (Some Refuted) after = IsRefuted (chip_of part) at text
Says part at text None after = (to : Point) × GoesOn (chip_of part) at text to × StandsAt part after to

-- all that was sent is told, and the session is closed
abbrev pub is_closed_at : Point → Bool
is_closed_at at = not (is_some at.owed) && is_closed at.session.state.mode
