-- The notes taken so far, and one more.
use Rattle.std.proofs.Common.{◌≡◌, ◌||◌, ℕ, ◌+◌, Bool, true, false, List, [], ◌∷◌, ◌++◌, Option, Some, None, Result}
use Rattle.std.proofs.Common.{refl, sym, ap, ◌∙◌, subst, append-nil, arith}
use Rattle.std.proofs.KnownBytes.{Appends-nil, Appends-trans}
use Rattle.std.specs.Prelude.{⊤}
use Rattle.part_spec.specs.declared.part.Part.{Part}
use Rattle.part_spec.specs.Chip.{Chip, chip_of}
use Rattle.debug_spec.specs.Moved.{Flash}
use Rattle.debug_spec.specs.Debugger.{listens}
use Rattle.debug_spec.specs.Schedule.{Session}
use Rattle.debug_spec.specs.Schedule.{Note as Told}
use Rattle.debug_spec.specs.Carries.{Along}
use Rattle.flash_patch.specs.declared.plan.FlashFault.{FlashFault}
use Rattle.run_control.specs.declared.job.Job.{Job}
use Rattle.ice_line.specs.Lines.{WritesFront}
use Rattle.ice_line.proofs.Pieces.{front_more}
use Rattle.ice_inbox.specs.declared.inbox.Note.{Note}
use Rattle.ice_inbox.specs.Notes.{has_last, is_last}
use Rattle.ice_emul.specs.Standing.{StandsFor, held}
use Rattle.ice_emul.specs.declared.emulator.Emulator.{Emulator}
use Rattle.ice_serve.specs.Causes.{first_cause}
use Rattle.ice_serve.specs.Keeping.{Seen, IsKept, place, Continues}
use Rattle.ice_serve.specs.Inbox.{note_of, notes_of}
use Rattle.ice_serve.specs.Schedules.{NoteDoes, GoesBy}
use Rattle.ice_serve.specs.Notes.{WritesBy, TakesNote, NotesNothing}
use Rattle.ice_serve.specs.Endings.{GoesSoFar}
use Rattle.ice_serve.specs.declared.note.Why.{Why}
use Rattle.ice_serve.specs.declared.note.Why.TheVariants.{Okay, Read, Write, TooLong}
use Rattle.ice_serve.specs.declared.note.Noted.{Noted}
use Rattle.ice_serve.proofs.Carrying.{carries_said, carries_none}
use Rattle.ice_serve.proofs.Chunking.{behind_more}
use Rattle.ice_serve.proofs.Going.{said_so, goes_onward}
use Rattle.ice_serve.proofs.Noting.{none_scheduled}
use Rattle.ice_serve.proofs.Telling.{goes_more}

pub has_last-more : (notes : List Note) (note : Note) → has_last (notes ++ note ∷ []) ≡ (has_last notes || is_last note)
has_last-more [] note = or_false (is_last note)
  where
    or_false : (b : Bool) → (b || false) ≡ b
    or_false true = refl
    or_false false = refl
has_last-more (one ∷ notes) note = by_one (is_last one) (has_last-more notes note)
  where
    by_one : (b : Bool) → has_last (notes ++ note ∷ []) ≡ (has_last notes || is_last note) →
        (b || has_last (notes ++ note ∷ [])) ≡ ((b || has_last notes) || is_last note)
    by_one true h = refl
    by_one false h = h

pub notes_of-more : (notes : List Note) (note : Note) → notes_of (notes ++ note ∷ []) ≡ notes_of notes ++ note_of note ∷ []
notes_of-more [] note = refl
notes_of-more (one ∷ notes) note = ap (λ (l : List Told). note_of one ∷ l) (notes_of-more notes note)

-- what was written before, and what is written with this note: behind a cause nothing is
writes_by_more : (why told : Why) (over : Option (Result ⊤ FlashFault)) (before middle after : Option (List ℕ))
    (faults between faults_now : ℕ) (a b : List ℕ) → WritesBy why None before middle faults between a →
    WritesBy told over middle after between faults_now b →
    ((why ≡ Okay → ⊥) → NotesNothing (record { why = told; over = over }) middle after between faults_now × (b ≡ [])) →
    WritesBy (first_cause why told) over before after faults faults_now (a ++ b)
writes_by_more Okay Okay None before middle after faults between faults_now a b first h still =
    (Appends-trans before middle after a b first.0 h.0, h.1 ∙ first.1)
writes_by_more Okay Okay (Some restored) before middle after faults between faults_now a b first h still =
    behind_more restored before middle after faults between faults_now a b first h
writes_by_more Okay Read over before middle after faults between faults_now a b first h still =
    (Appends-trans before middle after a b first.0 h.0, h.1 ∙ first.1)
writes_by_more Okay Write over before middle after faults between faults_now a b first h still =
    front_more before middle after faults between faults_now a b first h
writes_by_more Okay TooLong over before middle after faults between faults_now a b first h still =
    (Appends-trans before middle after a b first.0 h.0, h.1 ∙ first.1)
writes_by_more Read told over before middle after faults between faults_now a b first h still =
    let nothing = still (λ is. cc) in
    subst (λ (w : Option (List ℕ)). WritesBy Read over before w faults faults_now (a ++ b)) (sym nothing.0.1)
    (subst (λ (n : ℕ). WritesBy Read over before middle faults n (a ++ b)) (sym nothing.0.2)
    (subst (λ (l : List ℕ). WritesBy Read over before middle faults between l)
    (sym (ap (λ (l : List ℕ). a ++ l) nothing.1 ∙ append-nil a)) first))
writes_by_more Write told over before middle after faults between faults_now a b first h still =
    let nothing = still (λ is. cc) in
    subst (λ (w : Option (List ℕ)). WritesFront before w faults faults_now (a ++ b)) (sym nothing.0.1)
    (subst (λ (n : ℕ). WritesFront before middle faults n (a ++ b)) (sym nothing.0.2)
    (subst (λ (l : List ℕ). WritesFront before middle faults between l)
    (sym (ap (λ (l : List ℕ). a ++ l) nothing.1 ∙ append-nil a)) first))
writes_by_more TooLong told over before middle after faults between faults_now a b first h still =
    let nothing = still (λ is. cc) in
    subst (λ (w : Option (List ℕ)). WritesBy TooLong over before w faults faults_now (a ++ b)) (sym nothing.0.1)
    (subst (λ (n : ℕ). WritesBy TooLong over before middle faults n (a ++ b)) (sym nothing.0.2)
    (subst (λ (l : List ℕ). WritesBy TooLong over before middle faults between l)
    (sym (ap (λ (l : List ℕ). a ++ l) nothing.1 ∙ append-nil a)) first))

-- behind a cause the debugger does not listen
pub quiet_more : (why told : Why) (was is : Bool) → ((why ≡ Okay → ⊥) → was ≡ false) → ((told ≡ Okay → ⊥) → is ≡ false) →
    (was ≡ false → is ≡ false) → (first_cause why told ≡ Okay → ⊥) → is ≡ false
quiet_more Okay told was is quiet tells deaf some = tells some
quiet_more Read told was is quiet tells deaf some = deaf (quiet some)
quiet_more Write told was is quiet tells deaf some = deaf (quiet some)
quiet_more TooLong told was is quiet tells deaf some = deaf (quiet some)

module _ {F : Type 0} (flash : Flash F) (part_of : F → Part) (e : Emulator F) (job : Job F) (v : Seen F) where
  abbrev chip : Chip
  chip = chip_of e.tool.plan.part

  -- before any note
  pub no_notes : (written : Option (List ℕ)) (faults : ℕ) → IsKept flash part_of e job v →
      GoesSoFar flash part_of Okay None [] e job v written written faults faults e v
  no_notes written faults kept = record {
    out = [];
    continues = record {
      job_then = job;
      kept = kept;
      goes = carries_said flash (λ h. h.job.flash) (StandsFor flash) (λ s t. t ≡ s) (GoesBy Okay chip []) (place e job v) (place e job v) []
          (λ s t from to same. subst (λ (x : Session). GoesBy Okay chip [] s x) (sym same) (none_scheduled chip s))
          (carries_none flash (λ h. h.job.flash) (StandsFor flash) (held e job) v.launches v.faults v.faults (omega arith));
    };
    writes = (Appends-nil written, refl);
  }

  -- one note more
  pub note_more : (why : Why) (notes : List Told) (note : Told) (noted : Noted) (before middle after : Option (List ℕ))
      (faults between faults_now : ℕ) (mid last : Emulator F) (now later : Seen F) →
      GoesSoFar flash part_of why None notes e job v before middle faults between mid now → mid.tool.plan.part ≡ e.tool.plan.part →
      ((own : Job F) → IsKept flash part_of mid own now →
      TakesNote flash part_of note noted mid own now middle after between faults_now last later) →
      ((why ≡ Okay → ⊥) → listens mid.tool.mode ≡ false) →
      (listens mid.tool.mode ≡ false → NotesNothing noted middle after between faults_now) →
      GoesSoFar flash part_of (first_cause why noted.why) noted.over (notes ++ note ∷ []) e job v before after faults faults_now last later
  note_more why notes note noted before middle after faults between faults_now mid last now later first same_part takes quiet ignores =
      let next = takes first.continues.job_then first.continues.kept in
      record {
        out = first.out ++ next.out;
        continues = said_so flash part_of (Along (GoesBy why chip notes) (NoteDoes noted.why note chip)) e job v (first.out ++ next.out) last
            later
            (goes_onward flash part_of (GoesBy why chip notes) e job v first.out mid now first.continues (NoteDoes noted.why note chip) next.out
            last later (subst (λ (p : Part). Continues flash part_of (NoteDoes noted.why note (chip_of p)) mid first.continues.job_then now
            next.out last later) same_part next.continues))
            (GoesBy (first_cause why noted.why) chip (notes ++ note ∷ []))
            (λ s t from to goes. goes_more chip why noted.why notes note s goes.0 t goes.1 goes.2 (λ some. (ignores (quiet some)).0));
        writes = writes_by_more why noted.why noted.over before middle after faults between faults_now first.out next.out first.writes
            next.writes (λ some. (ignores (quiet some), next.silent (quiet some)));
      }

  -- with the notes as the inbox has them
  pub note_taken : (why why_then : Why) (over : Option (Result ⊤ FlashFault)) (taken taken_then : List Note) (note : Note) (noted : Noted)
      (before middle after : Option (List ℕ)) (faults between faults_now : ℕ) (mid last : Emulator F) (now later : Seen F) →
      GoesSoFar flash part_of why None (notes_of taken) e job v before middle faults between mid now →
      mid.tool.plan.part ≡ e.tool.plan.part →
      ((own : Job F) → IsKept flash part_of mid own now →
      TakesNote flash part_of (note_of note) noted mid own now middle after between faults_now last later) →
      ((why ≡ Okay → ⊥) → listens mid.tool.mode ≡ false) →
      (listens mid.tool.mode ≡ false → NotesNothing noted middle after between faults_now) →
      why_then ≡ first_cause why noted.why → noted.over ≡ over → taken_then ≡ taken ++ note ∷ [] →
      GoesSoFar flash part_of why_then over (notes_of taken_then) e job v before after faults faults_now last later
  note_taken why why_then over taken taken_then note noted before middle after faults between faults_now mid last now later first same_part
      takes quiet ignores is_why is_over is_taken =
      subst (λ (w : Why). GoesSoFar flash part_of w over (notes_of taken_then) e job v before after faults faults_now last later) (sym is_why)
      (subst (λ (o : Option (Result ⊤ FlashFault)). GoesSoFar flash part_of (first_cause why noted.why) o (notes_of taken_then) e job v before
      after faults faults_now last later) is_over
      (subst (λ (l : List Told). GoesSoFar flash part_of (first_cause why noted.why) noted.over l e job v before after faults faults_now last
      later) (sym (ap notes_of is_taken ∙ notes_of-more taken note))
      (note_more why (notes_of taken) (note_of note) noted before middle after faults between faults_now mid last now later first same_part
      takes quiet ignores)))
