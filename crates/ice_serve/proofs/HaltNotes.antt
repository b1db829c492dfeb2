-- What the end of a run, and the end of the line, come to as notes.
use Rattle.std.proofs.Common.{◌≡◌, ◌⊎◌, inl, inr, ℕ, Bool, true, false, List, [], Option, Some, None, Result, Ok, Err, refl, sym, ap, ◌∙◌, subst, arith}
use Rattle.std.proofs.KnownBytes.{Appends-nil}
use Rattle.std.specs.Prelude.{⊤}
use Rattle.part_spec.specs.declared.part.Part.{Part}
use Rattle.part_spec.specs.Chip.{Chip, chip_of}
use Rattle.debug_spec.specs.Moved.{Flash}
use Rattle.debug_spec.specs.Debugger.{Mode, stopped, launching, running, programming, leaving, closed, listens, is_out, state_number}
use Rattle.debug_spec.specs.Schedule.{Session, Note, line_end_note, line_fault, too_long, halted, line_ended, is_awaited, IsHalted}
use Rattle.flash_patch.specs.declared.plan.FlashFault.{FlashFault}
use Rattle.run_control.specs.declared.job.Job.{Job}
use Rattle.ice_emul.specs.Standing.{StandsFor, held}
use Rattle.ice_emul.specs.declared.emulator.Emulator.{Emulator}
use Rattle.ice_serve.specs.Carrying.{Stands}
use Rattle.ice_serve.specs.Causes.{cause_if}
use Rattle.ice_serve.specs.Keeping.{Seen, IsKept, place, Continues}
use Rattle.ice_serve.specs.Schedules.{NoteDoes}
use Rattle.ice_serve.specs.Notes.{WritesBy, Tells, TakesNote}
use Rattle.ice_serve.specs.declared.note.Why.{Why}
use Rattle.ice_serve.specs.declared.note.Why.TheVariants.{Okay, Read, Write, TooLong}
use Rattle.ice_serve.specs.declared.note.Noted.{Noted}
use Rattle.ice_serve.proofs.Carrying.{carries_said, carries_none}
use Rattle.ice_serve.proofs.Going.{said_so, goes_silently}
use Rattle.ice_serve.proofs.Kept.{mode_in, never}
use Rattle.ice_serve.proofs.Telling.{halt_told, halt_cut, halt_ignored, end_told, fault_told, long_told}
use Rattle.ice_serve.proofs.Telling.{awaited_so, awaited_not, awaited_other}

-- a run is out in the state of one
pub out_in : (m : Mode) → state_number m ≡ 1 → is_out m ≡ true
out_in stopped h = cc
out_in (launching number) h = cc
out_in running h = refl
out_in programming h = cc
out_in leaving h = refl
out_in (closed restored) h = cc

pub home_in : (m : Mode) → (state_number m ≡ 1 → ⊥) → is_out m ≡ false
home_in stopped h = refl
home_in (launching number) h = refl
home_in running h = absurd (h refl)
home_in programming h = refl
home_in leaving h = absurd (h refl)
home_in (closed restored) h = refl

-- of nothing nothing is written, but where something could not be
pub writes_nothing : (why : Why) (over : Option (Result ⊤ FlashFault)) (written : Option (List ℕ)) (faults : ℕ) → (why ≡ Write → ⊥) →
    WritesBy why over written written faults faults []
writes_nothing Okay None written faults not_write = (Appends-nil written, refl)
writes_nothing Okay (Some (Ok done)) written faults not_write = (Appends-nil written, refl)
writes_nothing Okay (Some (Err fault)) written faults not_write = inl (Appends-nil written)
writes_nothing Read over written faults not_write = (Appends-nil written, refl)
writes_nothing Write over written faults not_write = absurd (not_write refl)
writes_nothing TooLong over written faults not_write = (Appends-nil written, refl)

-- a cause of the line is none of writing
pub not_written : (listening : Bool) (why told : Why) → told ≡ cause_if listening why → (why ≡ Write → ⊥) → told ≡ Write → ⊥
not_written true why told is other written = other (sym is ∙ written)
not_written false why told is other written = okay_not (sym is ∙ written)
  where
    okay_not : Okay ≡ Write → ⊥
    okay_not e = cc

-- what it does behind the end of a run that was told
then_told : (part : Chip) (number : ℕ) (why : Why) (s m t : Session) → is_awaited number s ≡ true → IsHalted true part s m →
    Tells why part m t → NoteDoes why (halted number) part s t
then_told part number Okay s m t awaited halts tells =
    subst (λ (x : Session). NoteDoes Okay (halted number) part s x) (sym tells) (halt_told part number s m awaited halts)
then_told part number Read s m t awaited halts tells = absurd tells
then_told part number Write s m t awaited halts tells = halt_cut part number s m t awaited halts tells
then_told part number TooLong s m t awaited halts tells = absurd tells

module _ {F : Type 0} (flash : Flash F) (part_of : F → Part) (e : Emulator F) (job : Job F) (v : Seen F) where
  abbrev chip : Chip
  chip = chip_of e.tool.plan.part

  -- a run is awaited with the number of the newest launch
  awaited_in : (number : ℕ) → is_out e.tool.mode ≡ true → number ≡ v.launches → (s : Session) →
      Stands (StandsFor flash) (place e job v) s → is_awaited number s ≡ true
  awaited_in number out same s from =
      awaited_so number s (ap is_out (mode_in flash e job v s from) ∙ out) (same ∙ sym from.launches)

  unawaited_in : (number : ℕ) → (is_out e.tool.mode ≡ false) ⊎ (number ≡ v.launches → ⊥) → (s : Session) →
      Stands (StandsFor flash) (place e job v) s → is_awaited number s ≡ false
  unawaited_in number (inl home) s from = awaited_not number s (ap is_out (mode_in flash e job v s from) ∙ home)
  unawaited_in number (inr other) s from = awaited_other number s (λ same. other (same ∙ from.launches))

  -- the end of an older run
  pub ignored_note : (number : ℕ) → IsKept flash part_of e job v → (is_out e.tool.mode ≡ false) ⊎ (number ≡ v.launches → ⊥) →
      (written : Option (List ℕ)) (faults : ℕ) →
      TakesNote flash part_of (halted number) (record { why = Okay; over = None }) e job v written written faults faults e v
  ignored_note number kept why written faults = record {
    out = [];
    continues = record {
      job_then = job;
      kept = kept;
      goes = carries_said flash (λ h. h.job.flash) (StandsFor flash) (λ s t. t ≡ s) (NoteDoes Okay (halted number) chip) (place e job v)
          (place e job v) [] (λ s t from to same. halt_ignored chip number s t (unawaited_in number why s from) same)
          (carries_none flash (λ h. h.job.flash) (StandsFor flash) (held e job) v.launches v.faults v.faults (omega arith));
    };
    writes = (Appends-nil written, refl);
    silent = λ off. refl;
  }

  -- nothing more is done behind an end that was told
  pub nothing_told : IsKept flash part_of e job v → Continues flash part_of (Tells Okay chip) e job v [] e v
  nothing_told kept = record {
    job_then = job;
    kept = kept;
    goes = carries_none flash (λ h. h.job.flash) (StandsFor flash) (held e job) v.launches v.faults v.faults (omega arith);
  }

  module _ (number : ℕ) (out : is_out e.tool.mode ≡ true) (same : number ≡ v.launches) where
    -- the session is closed with the end of the run
    pub over_note : (restored : Result ⊤ FlashFault) (mid : Emulator F) (now : Seen F) →
        Continues flash part_of (IsHalted true chip) e job v [] mid now → (written : Option (List ℕ)) (faults : ℕ) →
        TakesNote flash part_of (halted number) (record { why = Okay; over = Some restored }) e job v written written faults faults mid now
    over_note restored mid now halts written faults = record {
      out = [];
      continues = said_so flash part_of (IsHalted true chip) e job v [] mid now halts (NoteDoes Okay (halted number) chip)
          (λ s t from to goes. halt_told chip number s t (awaited_in number out same s from) goes);
      writes = writes_nothing Okay (Some restored) written faults (λ is. absurd (okay_not is));
      silent = λ off. refl;
    }
      where
        okay_not : Okay ≡ Write → ⊥
        okay_not is = cc

    -- or it is told
    pub told_note : (noted : Noted) (event : List ℕ) (mid after : Emulator F) (now later : Seen F) → listens e.tool.mode ≡ true →
        Continues flash part_of (IsHalted true chip) e job v event mid now → mid.tool.plan.part ≡ e.tool.plan.part →
        ((own : Job F) → IsKept flash part_of mid own now →
        Continues flash part_of (Tells noted.why (chip_of mid.tool.plan.part)) mid own now [] after later) →
        (before behind : Option (List ℕ)) (faults faults_now : ℕ) →
        WritesBy noted.why noted.over before behind faults faults_now event →
        TakesNote flash part_of (halted number) noted e job v before behind faults faults_now after later
    told_note noted event mid after now later on halts same_part tells before behind faults faults_now writes = record {
      out = event;
      continues = said_so flash part_of _ e job v event after later
          (goes_silently flash part_of (IsHalted true chip) e job v event mid now halts (Tells noted.why chip) after later
          (λ own kept. subst (λ (p : Part). Continues flash part_of (Tells noted.why (chip_of p)) mid own now [] after later) same_part
          (tells own kept)))
          (NoteDoes noted.why (halted number) chip)
          (λ s t from to goes. then_told chip number noted.why s goes.0 t (awaited_in number out same s from) goes.1 goes.2);
      writes = writes;
      silent = λ off. absurd (never (listens e.tool.mode) on off);
    }

  -- the end of the line
  module _ (noted : Noted) (after : Emulator F) (later : Seen F)
      (line : Continues flash part_of (λ s t. t ≡ line_ended chip s) e job v [] after later) (written : Option (List ℕ)) (faults : ℕ) where
    ended_note : (why : Why) (note : Note) → noted.why ≡ cause_if (listens e.tool.mode) why → (why ≡ Write → ⊥) →
        ((s t : Session) → listens s.state.mode ≡ listens e.tool.mode → t ≡ line_ended chip s →
        NoteDoes (cause_if (listens e.tool.mode) why) note chip s t) →
        TakesNote flash part_of note noted e job v written written faults faults after later
    ended_note why note is other says = record {
      out = [];
      continues = said_so flash part_of (λ s t. t ≡ line_ended chip s) e job v [] after later line (NoteDoes noted.why note chip)
          (λ s t from to goes. subst (λ (w : Why). NoteDoes w note chip s t) (sym is)
          (says s t (ap listens (mode_in flash e job v s from)) goes));
      writes = writes_nothing noted.why noted.over written faults (not_written (listens e.tool.mode) why noted.why is other);
      silent = λ off. refl;
    }

    pub line_end : noted.why ≡ cause_if (listens e.tool.mode) Okay → TakesNote flash part_of line_end_note noted e job v written written
        faults faults after later
    line_end is =
        ended_note Okay line_end_note is other (λ s t on ends.
        subst (λ (w : Why). NoteDoes w line_end_note chip s t) (sym (none (listens e.tool.mode))) (end_told chip s t ends))
      where
        other : Okay ≡ Write → ⊥
        other e = cc

        none : (b : Bool) → cause_if b Okay ≡ Okay
        none true = refl
        none false = refl

    pub line_failed : noted.why ≡ cause_if (listens e.tool.mode) Read → TakesNote flash part_of line_fault noted e job v written written
        faults faults after later
    line_failed is = ended_note Read line_fault is other (λ s t on ends. fault_told chip (listens e.tool.mode) s t on ends)
      where
        other : Read ≡ Write → ⊥
        other e = cc

    pub line_long : noted.why ≡ cause_if (listens e.tool.mode) TooLong → TakesNote flash part_of too_long noted e job v written written
        faults faults after later
    line_long is = ended_note TooLong too_long is other (λ s t on ends. long_told chip (listens e.tool.mode) s t on ends)
      where
        other : TooLong ≡ Write → ⊥
        other e = cc
