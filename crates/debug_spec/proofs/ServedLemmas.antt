-- The patched debugger and the plain one over a schedule of notes.
use Rattle.std.proofs.Common.{◌≡◌, ℕ, Bool, true, false, List, [], ◌∷◌, refl, sym, ◌∙◌, ap, subst, ◌⊎◌, inl, inr}
use Rattle.std.proofs.lemmas.Bool.{and_parts}
use Rattle.part_spec.specs.Chip.{Chip}
use Rattle.line_spec.specs.Frames.{Frame}
use Rattle.line_spec.specs.Hearing.{Heard}
use Rattle.debug_spec.specs.Clean.{clean_for}
use Rattle.debug_spec.specs.Debugger.{Debugger, listens, run_out}
use Rattle.debug_spec.specs.Commands.{item_launched}
use Rattle.debug_spec.specs.Schedule.{Session, heard_all, IsHeard, IsHalted, is_awaited, Note, bytes, line_end_note, line_fault, too_long}
use Rattle.debug_spec.specs.Schedule.{halted, Takes, IsSchedule}
use Rattle.debug_spec.specs.CleanSessions.{clean_heard, started}
use Rattle.debug_spec.specs.SessionLaws.{IsSound, Grows}
use Rattle.debug_spec.specs.ServedAlike.{clean_all, frames_all, IsHeardCleanly, IsHaltedCleanly, TakesCleanly, IsCleanSchedule}
use Rattle.debug_spec.specs.ServedAlike.{CleanSchedulesAlike, CleanIsSchedule, StartsUnclean, IsAlikeAtFirst, SchedulesAlike}
use Rattle.debug_spec.proofs.Soundness.{grows-nothing, grows-onward}
use Rattle.debug_spec.proofs.Moving.{moves-item_launched, moves-ended}
use Rattle.debug_spec.proofs.Sessions.{EitherBy, moves-heard_all, moves-note, moves-schedule}
use Rattle.debug_spec.proofs.HeadlineLemmas.{item_launched_alike, ends_alike, heard_grows}

module _ (part : Chip) where
  -- items whose single steps are clean
  all_alike : (heard : List Heard) (s : Debugger) → IsSound part s → clean_all part heard s ≡ true →
      heard_all true part heard s ≡ heard_all false part heard s
  all_alike [] s sound clean = refl
  all_alike (one ∷ heard) s sound clean =
      let t = item_launched false part one s in
      let parts = and_parts (clean_heard part one s) (clean_all part heard t) clean in
      ap (heard_all true part heard) (item_launched_alike part one s sound parts.0) ∙
      all_alike heard t ((moves-item_launched part false one s).sound sound) parts.1

  -- up to the first that is not clean, by either debugger
  item_as_plain : (planted : Bool) (one : Heard) (s : Debugger) → IsSound part s → clean_heard part one s ≡ true →
      item_launched planted part one s ≡ item_launched false part one s
  item_as_plain true one s sound clean = item_launched_alike part one s sound clean
  item_as_plain false one s sound clean = refl

  pub all_first : (planted : Bool) (heard : List Heard) (s : Debugger) → IsSound part s →
      Grows (frames_all part heard s) (heard_all planted part heard s).sent
  all_first planted [] s sound = grows-nothing s.sent
  all_first planted (one ∷ heard) s sound =
      by_heard (clean_heard part one s) refl
      (all_first planted heard (item_launched false part one s) ((moves-item_launched part false one s).sound sound))
    where
      by_heard : (b : Bool) → clean_heard part one s ≡ b →
          Grows (frames_all part heard (item_launched false part one s))
          (heard_all planted part heard (item_launched false part one s)).sent →
          Grows (elim b [ true ↦ frames_all part heard (item_launched false part one s) | false ↦ started one s ])
          (heard_all planted part (one ∷ heard) s).sent
      by_heard true e later =
          subst (λ (t : Debugger). Grows (frames_all part heard (item_launched false part one s)) (heard_all planted part heard t).sent)
          (sym (item_as_plain planted one s sound e)) later
      by_heard false e later =
          grows-onward (started one s) (item_launched planted part one s).sent (heard_all planted part (one ∷ heard) s).sent
          (heard_grows part [] [] planted one s e) (moves-heard_all planted part heard (item_launched planted part one s)).sent

  -- a chunk that is heard cleanly by one is heard so by the other
  heard_by_both : (chunk : List ℕ) (before after : Session) (planted other : Bool) →
      ((heard : List Heard) → clean_all part heard before.state ≡ true →
      heard_all planted part heard before.state ≡ heard_all other part heard before.state) →
      IsHeardCleanly planted part chunk before after → IsHeardCleanly other part chunk before after
  heard_by_both chunk before after planted other alike h = record {
    heard_so = record {
      items = h.heard_so.items;
      behind = h.heard_so.behind;
      heard = h.heard_so.heard;
      cuts = h.heard_so.cuts;
      hears = h.heard_so.hears;
      state = h.heard_so.state ∙ alike h.heard_so.heard h.clean;
      holds = h.heard_so.holds;
    };
    clean = h.clean;
  }

  -- an end of a clean run is one for both
  halted_by_plain : (before after : Session) → IsSound part before.state → IsHaltedCleanly true part before after →
      IsHaltedCleanly false part before after
  halted_by_plain before after sound h =
      let alike = ends_alike part h.halted_so.end before.state sound h.clean in
      let may = alike.0.0 h.halted_so.may in
      record {
        halted_so = record {
          end = h.halted_so.end;
          may = may;
          is = h.halted_so.is ∙ ap (λ (t : Debugger). record { held = before.held; state = t }) (alike.1 may);
        };
        clean = h.clean;
      }

  halted_by_patched : (before after : Session) → IsSound part before.state → IsHaltedCleanly false part before after →
      IsHaltedCleanly true part before after
  halted_by_patched before after sound h =
      let alike = ends_alike part h.halted_so.end before.state sound h.clean in
      record {
        halted_so = record {
          end = h.halted_so.end;
          may = alike.0.1 h.halted_so.may;
          is = h.halted_so.is ∙ ap (λ (t : Debugger). record { held = before.held; state = t }) (sym (alike.1 h.halted_so.may));
        };
        clean = h.clean;
      }

  either_by : (b : Bool) (P Q R : Type 0) → (P → Q) → EitherBy b P R → EitherBy b Q R
  either_by true P Q R f h = f h
  either_by false P Q R f h = h

  pub to_plain : (note : Note) (before after : Session) → IsSound part before.state → TakesCleanly true part note before after →
      TakesCleanly false part note before after
  to_plain (bytes chunk) before after sound h =
      either_by (listens before.state.mode) (IsHeardCleanly true part chunk before after) (IsHeardCleanly false part chunk before after)
      (after ≡ before)
      (heard_by_both chunk before after true false (λ heard clean. all_alike heard before.state sound clean)) h
  to_plain line_end_note before after sound h = h
  to_plain line_fault before after sound h = h
  to_plain too_long before after sound h = h
  to_plain (halted launch) before after sound h =
      either_by (is_awaited launch before) (IsHaltedCleanly true part before after) (IsHaltedCleanly false part before after)
      (after ≡ before)
      (halted_by_plain before after sound) h

  to_patched : (note : Note) (before after : Session) → IsSound part before.state → TakesCleanly false part note before after →
      TakesCleanly true part note before after
  to_patched (bytes chunk) before after sound h =
      either_by (listens before.state.mode) (IsHeardCleanly false part chunk before after) (IsHeardCleanly true part chunk before after)
      (after ≡ before)
      (heard_by_both chunk before after false true (λ heard clean. sym (all_alike heard before.state sound clean))) h
  to_patched line_end_note before after sound h = h
  to_patched line_fault before after sound h = h
  to_patched too_long before after sound h = h
  to_patched (halted launch) before after sound h =
      either_by (is_awaited launch before) (IsHaltedCleanly false part before after) (IsHaltedCleanly true part before after)
      (after ≡ before)
      (halted_by_patched before after sound) h

  -- a note that is taken cleanly is taken
  takes : (planted : Bool) (note : Note) (before after : Session) → TakesCleanly planted part note before after →
      Takes planted part note before after
  takes planted (bytes chunk) before after h =
      either_by (listens before.state.mode) (IsHeardCleanly planted part chunk before after) (IsHeard planted part chunk before after)
      (after ≡ before) (λ x. x.heard_so) h
  takes planted line_end_note before after h = h
  takes planted line_fault before after h = h
  takes planted too_long before after h = h
  takes planted (halted launch) before after h =
      either_by (is_awaited launch before) (IsHaltedCleanly planted part before after) (IsHalted planted part before after) (after ≡ before)
      (λ x. x.halted_so) h

  taken_sound : (planted : Bool) (note : Note) (before after : Session) → TakesCleanly planted part note before after →
      IsSound part before.state → IsSound part after.state
  taken_sound planted note before after h sound =
      (moves-note planted part note before after (takes planted note before after h)).sound sound

  schedule_to_plain : (notes : List Note) (before after : Session) → IsSound part before.state →
      IsCleanSchedule true part notes before after → IsCleanSchedule false part notes before after
  schedule_to_plain [] before after sound h = h
  schedule_to_plain (note ∷ notes) before after sound h =
      (h.0, to_plain note before h.0 sound h.1, schedule_to_plain notes h.0 after (taken_sound true note before h.0 h.1 sound) h.2)

  schedule_to_patched : (notes : List Note) (before after : Session) → IsSound part before.state →
      IsCleanSchedule false part notes before after → IsCleanSchedule true part notes before after
  schedule_to_patched [] before after sound h = h
  schedule_to_patched (note ∷ notes) before after sound h =
      (h.0, to_patched note before h.0 sound h.1, schedule_to_patched notes h.0 after (taken_sound false note before h.0 h.1 sound) h.2)

  clean_is : (planted : Bool) (notes : List Note) (before after : Session) → IsCleanSchedule planted part notes before after →
      IsSchedule planted part notes before after
  clean_is planted [] before after h = h
  clean_is planted (note ∷ notes) before after h = (h.0, takes planted note before h.0 h.1, clean_is planted notes h.0 after h.2)

  -- a note of the patched debugger is taken cleanly, or starts something that is not clean
  abbrev pub NoteIs : Note → Session → Session → Type 0
  NoteIs note before after =
      TakesCleanly true part note before after ⊎
      ((frames : List Frame) × StartsUnclean part note before after frames × Grows frames after.state.sent)

  chunk_is : (chunk : List ℕ) (before after : Session) → IsSound part before.state → (b : Bool) → listens before.state.mode ≡ b →
      EitherBy b (IsHeard true part chunk before after) (after ≡ before) →
      EitherBy b (IsHeardCleanly true part chunk before after) (after ≡ before) ⊎
      ((frames : List Frame) × StartsUnclean part (bytes chunk) before after frames × Grows frames after.state.sent)
  chunk_is chunk before after sound false e h = inl h
  chunk_is chunk before after sound true e h = by_clean (clean_all part h.heard before.state) refl
    where
      by_clean : (b : Bool) → clean_all part h.heard before.state ≡ b →
          IsHeardCleanly true part chunk before after ⊎
          ((frames : List Frame) × StartsUnclean part (bytes chunk) before after frames × Grows frames after.state.sent)
      by_clean true clean = inl (record { heard_so = h; clean = clean })
      by_clean false unclean = inr (
        frames_all part h.heard before.state,
        (h, unclean, refl),
        subst (λ (t : Debugger). Grows (frames_all part h.heard before.state) t.sent) (sym h.state)
            (all_first true h.heard before.state sound),
      )

  halt_is : (launch : ℕ) (before after : Session) → (b : Bool) → EitherBy b (IsHalted true part before after) (after ≡ before) →
      EitherBy b (IsHaltedCleanly true part before after) (after ≡ before) ⊎
      ((frames : List Frame) × StartsUnclean part (halted launch) before after frames × Grows frames after.state.sent)
  halt_is launch before after false h = inl h
  halt_is launch before after true h = by_clean (clean_for part (run_out false before.state) h.end.steps) refl
    where
      by_clean : (b : Bool) → clean_for part (run_out false before.state) h.end.steps ≡ b →
          IsHaltedCleanly true part before after ⊎
          ((frames : List Frame) × StartsUnclean part (halted launch) before after frames × Grows frames after.state.sent)
      by_clean true clean = inl (record { halted_so = h; clean = clean })
      by_clean false unclean = inr (
        before.state.sent,
        (h, unclean, refl),
        subst (λ (x : Session). Grows before.state.sent x.state.sent) (sym h.is)
            (moves-ended part true h.end before.state.mode before.state).sent,
      )

  pub note_is : (note : Note) (before after : Session) → IsSound part before.state → Takes true part note before after →
      NoteIs note before after
  note_is (bytes chunk) before after sound h = chunk_is chunk before after sound (listens before.state.mode) refl h
  note_is line_end_note before after sound h = inl h
  note_is line_fault before after sound h = inl h
  note_is too_long before after sound h = inl h
  note_is (halted launch) before after sound h = halt_is launch before after (is_awaited launch before) h

  -- one note before
  earlier : (note : Note) (notes : List Note) (before between after : Session) → TakesCleanly false part note before between →
      IsAlikeAtFirst part notes between after → IsAlikeAtFirst part (note ∷ notes) before after
  earlier note notes before between after first h = record {
    front = note ∷ h.front;
    note = h.note;
    more = h.more;
    split = ap (λ (t : List Note). note ∷ t) h.split;
    between = h.between;
    unclean = h.unclean;
    clean_front = (between, first, h.clean_front);
    takes = h.takes;
    goes_on = h.goes_on;
    frames = h.frames;
    starts = h.starts;
    sent = h.sent;
  }

  schedules_alike : (notes : List Note) (before after : Session) → IsSound part before.state → IsSchedule true part notes before after →
      IsCleanSchedule false part notes before after ⊎ IsAlikeAtFirst part notes before after
  schedules_alike [] before after sound h = inl h
  schedules_alike (note ∷ notes) before after sound h =
      by_note (note_is note before h.0 sound h.1)
      (schedules_alike notes h.0 after ((moves-note true part note before h.0 h.1).sound sound) h.2)
    where
      by_note : NoteIs note before h.0 → IsCleanSchedule false part notes h.0 after ⊎ IsAlikeAtFirst part notes h.0 after →
          IsCleanSchedule false part (note ∷ notes) before after ⊎ IsAlikeAtFirst part (note ∷ notes) before after
      by_note (inl clean) (inl later) = inl (h.0, to_plain note before h.0 sound clean, later)
      by_note (inl clean) (inr later) = inr (earlier note notes before h.0 after (to_plain note before h.0 sound clean) later)
      by_note (inr starts) later = inr (record {
        front = [];
        note = note;
        more = notes;
        split = refl;
        between = before;
        unclean = h.0;
        clean_front = refl;
        takes = h.1;
        goes_on = h.2;
        frames = starts.0;
        starts = starts.1;
        sent = grows-onward starts.0 (h.0).state.sent after.state.sent starts.2 (moves-schedule true part notes h.0 after h.2).sent;
      })

pub clean_schedules_alike : CleanSchedulesAlike
clean_schedules_alike part notes before after sound =
    (schedule_to_plain part notes before after sound, schedule_to_patched part notes before after sound)

pub clean_is_schedule : CleanIsSchedule
clean_is_schedule planted part notes before after h = clean_is part planted notes before after h

pub served_alike : SchedulesAlike
served_alike part notes before after sound h = schedules_alike part notes before after sound h
