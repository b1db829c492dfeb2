-- A session with a client beside the plain debugger's, and the program that it leaves.
use Rattle.std.proofs.Common.{◌≡◌, ℕ, true, false, List, [], ◌∷◌, Option, None, Some, refl, sym, ap, ◌∙◌, subst}
use Rattle.std.specs.Prelude.{IfSome}
use Rattle.ice_inbox.specs.Ends.{Taken}
use Rattle.std.proofs.lemmas.Bool.{and_parts}
use Rattle.part_spec.specs.Chip.{Chip}
use Rattle.line_spec.specs.Cut.{Item}
use Rattle.line_spec.specs.Hearing.{Heard}
use Rattle.debug_spec.specs.Device.{Device}
use Rattle.debug_spec.specs.Moved.{Flash}
use Rattle.debug_spec.specs.Commands.{item_launched}
use Rattle.debug_spec.specs.Debugger.{Debugger}
use Rattle.debug_spec.specs.Opening.{opening}
use Rattle.debug_spec.specs.CleanSessions.{clean_heard}
use Rattle.debug_spec.specs.CutShort.{TakesCutShort}
use Rattle.debug_spec.specs.Schedule.{Session, heard_all, Note, bytes, line_end_note, line_fault, too_long, halted, IsHalted}
use Rattle.debug_spec.specs.ServedAlike.{clean_all, frames_all}
use Rattle.debug_spec.specs.SessionLaws.{IsSound, LeavesProgram, Grows}
use Rattle.debug_spec.proofs.HeadlineLemmas.{item_launched_alike}
use Rattle.debug_spec.proofs.HeadlineProof.{items_send_first}
use Rattle.debug_spec.proofs.Moving.{moves-item_launched, opened_is_sound}
use Rattle.debug_spec.proofs.ScheduleCutLemmas.{schedules_cut_short_show}
use Rattle.debug_spec.proofs.ServedLemmas.{served_alike}
use Rattle.debug_spec.proofs.Sessions.{EitherBy, moves-schedule, schedules_leave_program}
use Rattle.ice_inbox.specs.declared.inbox.Note.{Note as Given}
use Rattle.ice_serve.specs.Inbox.{notes_of}
use Rattle.ice_serve.specs.declared.notes.End.{End}
use Rattle.ice_serve.specs.declared.notes.End.TheVariants.{Okay, Flash as Unrestored, Read, Write, TooLong}
use Rattle.ice_top.specs.Replays.{device_of}
use Rattle.ice_top.specs.ServedPlain.{IsCutAlike, GoesAlike, AreServedAsPlain}
use Rattle.ice_top.specs.Servings.{Around, ServedSession}

module _ (part : Chip) where
  -- items whose single steps are clean come to the same
  all_alike : (heard : List Heard) (s : Debugger) → IsSound part s → clean_all part heard s ≡ true →
      heard_all true part heard s ≡ heard_all false part heard s
  all_alike [] s sound clean = refl
  all_alike (one ∷ heard) s sound clean =
      let t = item_launched false part one s in
      let parts = and_parts (clean_heard part one s) (clean_all part heard t) clean in
      ap (heard_all true part heard) (item_launched_alike part one s sound parts.0) ∙
      all_alike heard t ((moves-item_launched part false one s).sound sound) parts.1

  -- a note that is cut short
  cut_alike : (note : Note) (items : List Item) (there cut : Session) → IsSound part there.state →
      (h : TakesCutShort true part note items there cut) → IsCutAlike part note items there cut h
  cut_alike (bytes chunk) items there cut sound h = (
    λ clean. h.state ∙ all_alike h.heard there.state sound clean,
    subst (λ (s : Debugger). Grows (frames_all part h.heard there.state) s.sent) (sym h.state)
        (items_send_first true part h.heard there.state sound),
    items_send_first false part h.heard there.state sound,
  )
  cut_alike line_end_note items there cut sound h = absurd h
  cut_alike line_fault items there cut sound h = absurd h
  cut_alike too_long items there cut sound h = absurd h
  cut_alike (halted launch) items there cut sound h =
      served_alike part (halted launch ∷ []) there cut sound
      (cut, subst (λ b. EitherBy b (IsHalted true part there cut) (cut ≡ there)) (sym h.1) h.2, refl)

module _ {F : Type 0} (flash : Flash F) (taken : List Given) (before after : Around) (from to : F) (part : Chip) (program : List ℕ) where
  -- the notes of a session
  as_plain : (end : End) (s : ServedSession flash end part program taken before after from to) →
      GoesAlike end part (notes_of s.notes) (opening part program (device_of (flash.words from) s.asks)) s.last s.goes
  as_plain Okay s =
      let device : Device = device_of (flash.words from) s.asks in
      served_alike part (notes_of s.notes) (opening part program device) s.last (opened_is_sound part program device s.size s.fit).0
      s.goes.schedule
  as_plain Unrestored s =
      let device : Device = device_of (flash.words from) s.asks in
      served_alike part (notes_of s.notes) (opening part program device) s.last (opened_is_sound part program device s.size s.fit).0
      s.goes.schedule
  as_plain Read s =
      let device : Device = device_of (flash.words from) s.asks in
      served_alike part (notes_of s.notes) (opening part program device) s.last (opened_is_sound part program device s.size s.fit).0
      s.goes.schedule
  as_plain TooLong s =
      let device : Device = device_of (flash.words from) s.asks in
      served_alike part (notes_of s.notes) (opening part program device) s.last (opened_is_sound part program device s.size s.fit).0
      s.goes.schedule
  as_plain Write s =
      let device : Device = device_of (flash.words from) s.asks in
      let start = opening part program device in
      let cut = s.goes.schedule in
      let sound = (opened_is_sound part program device s.size s.fit).0 in (
        served_alike part s.goes.front start cut.there sound cut.first,
        cut_alike part s.goes.note s.goes.items cut.there cut.cut
            ((moves-schedule true part s.goes.front start cut.there cut.first).sound sound) cut.takes,
        (schedules_cut_short_show.shows true part s.goes.front s.goes.note s.goes.items s.goes.more start s.last cut).sent,
      )

  -- the book's session leaves its program
  leaves : (end : End) (s : ServedSession flash end part program taken before after from to) →
      LeavesProgram (device_of (flash.words from) s.asks) s.last.state
  leaves Okay s = schedules_leave_program true part program (device_of (flash.words from) s.asks) (notes_of s.notes) s.last s.size s.fit
      s.goes.schedule
  leaves Unrestored s = schedules_leave_program true part program (device_of (flash.words from) s.asks) (notes_of s.notes) s.last s.size
      s.fit s.goes.schedule
  leaves Read s = schedules_leave_program true part program (device_of (flash.words from) s.asks) (notes_of s.notes) s.last s.size s.fit
      s.goes.schedule
  leaves TooLong s = schedules_leave_program true part program (device_of (flash.words from) s.asks) (notes_of s.notes) s.last s.size s.fit
      s.goes.schedule
  leaves Write s = schedules_cut_short_show.leaves true part program (device_of (flash.words from) s.asks) s.goes.front s.goes.note
      s.goes.items s.goes.more s.last s.size s.fit s.goes.schedule

-- each session over these notes
pub are_served_as_plain : {F : Type 0} (flash : Flash F) (taken : List Given) (before after : Around) (from to : F) →
    AreServedAsPlain flash taken before after from to
are_served_as_plain flash taken before after from to = record {
  sessions = λ end part program s. as_plain flash taken before after from to part program end s;
  program = λ end part program s restored. sym (ap (λ (d : Device). d.words) s.device) ∙
      (leaves flash taken before after from to part program end s).restored restored;
}

-- where notes were taken
pub plain_where : {F : Type 0} (flash : Flash F) (pass : Option Taken) (before after : Around) (from to : F) →
    IfSome pass (λ (p : Taken). AreServedAsPlain flash p.taken before after from to)
plain_where flash None before after from to = tt
plain_where flash (Some pass) before after from to = are_served_as_plain flash pass.taken before after from to
