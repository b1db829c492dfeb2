-- The headline, from the laws of replays and of schedules.
use Rattle.std.proofs.Common.{◌≡◌, ℕ, Bool, true, false, List, [], ◌∷◌, length, sym, ◌∙◌, ap₂, subst, inl, inr}
use Rattle.std.specs.List.{All}
use Rattle.std.proofs.lemmas.List.Elements.{All-nil, All-cons}
use Rattle.part_spec.specs.Chip.{Chip, words_of}
use Rattle.line_spec.specs.Frames.{Frame}
use Rattle.line_spec.specs.Cut.{Item}
use Rattle.line_spec.specs.Hearing.{Heard, HearsAll}
use Rattle.line_spec.proofs.Cuts.{same_cut}
use Rattle.debug_spec.specs.Device.{Device}
use Rattle.debug_spec.specs.Debugger.{Debugger, opened}
use Rattle.debug_spec.specs.Replay.{over_all}
use Rattle.debug_spec.specs.Schedule.{Session, Note, IsSchedule}
use Rattle.debug_spec.specs.SessionLaws.{IsFit, IsSound, Moves, Grows, is_closed, LeavesProgram}
use Rattle.debug_spec.specs.CleanSessions.{clean_frames, SendsFirst}
use Rattle.debug_spec.specs.Passes.{Passes, last_of, SchedulesPass, ItemsSendFirst, AllSendFirst, PassesAlike}
use Rattle.debug_spec.specs.Headline.{ReplaysAgree, SchedulesAgree}
use Rattle.debug_spec.specs.Opening.{opening}
use Rattle.debug_spec.proofs.Soundness.{grows-onward, moves-none, moves-onward}
use Rattle.debug_spec.proofs.Moving.{opened_is_sound}
use Rattle.debug_spec.proofs.Sessions.{leaves-program, moves-note, replays_close}
use Rattle.debug_spec.proofs.OneChunk.{one_hearing_all}
use Rattle.debug_spec.proofs.HeadlineLemmas.{clean_replays_alike, replays_alike_at_first}
use Rattle.debug_spec.proofs.ServedLemmas.{all_first, NoteIs, note_is, to_plain}

abbrev Closes : List ℕ → Device → Debugger → Type 0
Closes prog device s = (is_closed s.mode ≡ true) × LeavesProgram device s

pub replays_agree : ReplaysAgree
replays_agree part stops prog device bytes patched plain full fit h k = record {
  clean = λ clean. same_end ∙ clean_replays_alike part stops prog device k.heard k.rest full fit clean ∙ sym k.is_end;
  first = (subst (SendsFirst frames) (sym same_end) both.0, subst (SendsFirst frames) (sym k.is_end) both.1);
  closed = (
    subst (λ (s : Debugger). is_closed s.mode ≡ true) (sym same_end) shut.0,
    subst (λ (s : Debugger). is_closed s.mode ≡ true) (sym k.is_end) shut_plain.0,
  );
  leaves = (subst (LeavesProgram device) (sym same_end) shut.1, subst (LeavesProgram device) (sym k.is_end) shut_plain.1);
}
  where
    frames : List Frame
    frames = clean_frames part stops k.heard k.rest (opened part prog device)

    same_end : patched ≡ over_all true part stops k.heard k.rest (opened part prog device)
    same_end =
        let same = same_cut bytes h.rest k.rest h.items k.items h.cut k.cut in
        let heard : h.heard ≡ k.heard =
        one_hearing_all h.items h.heard k.heard h.hears (subst (λ (items : List Item). HearsAll items k.heard) (sym same.0) k.hears) in
        h.is_end ∙ ap₂ (λ (t : List Heard) (rest : List ℕ). over_all true part stops t rest (opened part prog device)) heard same.1

    both : SendsFirst frames (over_all true part stops k.heard k.rest (opened part prog device)) ×
        SendsFirst frames (over_all false part stops k.heard k.rest (opened part prog device))
    both = replays_alike_at_first part stops prog device k.heard k.rest full fit

    shut : Closes prog device (over_all true part stops k.heard k.rest (opened part prog device))
    shut = replays_close true part stops prog device k.heard k.rest full fit

    shut_plain : Closes prog device (over_all false part stops k.heard k.rest (opened part prog device))
    shut_plain = replays_close false part stops prog device k.heard k.rest full fit

module _ (planted : Bool) (part : Chip) where
  abbrev PassesTo : List Note → Session → Session → Type 0
  PassesTo notes before after = (sessions : List Session) × Passes planted part notes before sessions × (last_of before sessions ≡ after)

  to_passes : (notes : List Note) (before after : Session) → IsSchedule planted part notes before after → PassesTo notes before after
  to_passes [] before after h = ([], tt, sym h)
  to_passes (note ∷ notes) before after h =
      let later = to_passes notes h.0 after h.2 in (h.0 ∷ later.0, (h.1, later.1), later.2)

  from_passes : (notes : List Note) (before after : Session) (sessions : List Session) → Passes planted part notes before sessions →
      last_of before sessions ≡ after →
      IsSchedule planted part notes before after
  from_passes [] before after [] h e = sym e
  from_passes [] before after (between ∷ sessions) h e = absurd h
  from_passes (note ∷ notes) before after [] h e = absurd h
  from_passes (note ∷ notes) before after (between ∷ sessions) h e = (between, h.0, from_passes notes between after sessions h.1 e)

pub schedules_pass : SchedulesPass
schedules_pass planted part notes before after =
    (to_passes planted part notes before after, λ h. from_passes planted part notes before after h.0 h.1 h.2)

module _ (part : Chip) where
  -- what was sent first is so in later sessions
  later_send : (frames : List Frame) (notes : List Note) (before : Session) (sessions : List Session) → Grows frames before.state.sent →
      Passes true part notes before sessions → AllSendFirst frames sessions
  later_send frames [] before [] grows h = All-nil (λ (s : Session). Grows frames s.state.sent)
  later_send frames [] before (after ∷ sessions) grows h = absurd h
  later_send frames (note ∷ notes) before [] grows h = absurd h
  later_send frames (note ∷ notes) before (after ∷ sessions) grows h =
      let now = grows-onward frames before.state.sent after.state.sent grows (moves-note true part note before after h.0).sent in
      All-cons (λ (s : Session). Grows frames s.state.sent) after sessions now (later_send frames notes after sessions now h.1)

  passes_alike : (notes : List Note) (before : Session) (sessions : List Session) → IsSound part before.state →
      Passes true part notes before sessions →
      PassesAlike part notes before sessions
  passes_alike [] before [] sound h = tt
  passes_alike [] before (after ∷ sessions) sound h = absurd h
  passes_alike (note ∷ notes) before [] sound h = absurd h
  passes_alike (note ∷ notes) before (after ∷ sessions) sound h =
      by_note (note_is part note before after sound h.0)
      (passes_alike notes after sessions ((moves-note true part note before after h.0).sound sound) h.1)
    where
      by_note : NoteIs part note before after → PassesAlike part notes after sessions →
          PassesAlike part (note ∷ notes) before (after ∷ sessions)
      by_note (inl clean) later = inl (to_plain part note before after sound clean, later)
      by_note (inr starts) later = inr (
        starts.0,
        starts.1,
        All-cons (λ (s : Session). Grows starts.0 s.state.sent) after sessions starts.2
            (later_send starts.0 notes after sessions starts.2 h.1),
      )

  all_leave : (prog : List ℕ) (device : Device) (notes : List Note) (before : Session) (sessions : List Session) →
      length prog ≡ words_of part → IsFit part device →
      Moves part (opened part prog device) before.state → Passes true part notes before sessions →
      All (λ (s : Session). LeavesProgram device s.state) sessions
  all_leave prog device [] before [] full fit moved h = All-nil (λ (s : Session). LeavesProgram device s.state)
  all_leave prog device [] before (after ∷ sessions) full fit moved h = absurd h
  all_leave prog device (note ∷ notes) before [] full fit moved h = absurd h
  all_leave prog device (note ∷ notes) before (after ∷ sessions) full fit moved h =
      let now = moves-onward part (opened part prog device) before.state after.state moved (moves-note true part note before after h.0) in
      All-cons (λ (s : Session). LeavesProgram device s.state) after sessions
      (leaves-program part prog device after.state full fit now) (all_leave prog device notes after sessions full fit now h.1)

pub schedules_agree : SchedulesAgree
schedules_agree part prog device notes sessions full fit h = (
  passes_alike part notes (opening part prog device) sessions (opened_is_sound part prog device full fit).0 h,
  all_leave part prog device notes (opening part prog device) sessions full fit (moves-none part (opened part prog device)) h,
)

pub items_send_first : ItemsSendFirst
items_send_first planted part heard s sound = all_first part planted heard s sound
