-- A schedule is fixed by the ends of its runs.
use Rattle.std.proofs.Common.{◌≡◌, Bool, true, false, List, [], ◌∷◌, ◌++◌, get_or, drop, sym, ◌∙◌, ap, subst}
use Rattle.std.proofs.lemmas.Bool.{true≢false}
use Rattle.part_spec.specs.Chip.{Chip}
use Rattle.debug_spec.specs.Run.{End}
use Rattle.debug_spec.specs.Debugger.{run_out}
use Rattle.debug_spec.specs.Running.{replant_failed, run_ended}
use Rattle.debug_spec.specs.Schedule.{Session, is_awaited, Note, bytes, line_end_note, line_fault, too_long, halted, Takes, IsSchedule}
use Rattle.debug_spec.specs.ScheduleEnds.{IsHaltedIf, halt_ends, note_ends, ends_of, EndsFixSchedules, EndsAreOne}
use Rattle.debug_spec.proofs.RunEnds.{one_end}
use Rattle.debug_spec.proofs.OneChunk.{one_chunk}

module _ (planted : Bool) (part : Chip) where
  halt_fixed : (awaited : Bool) (before after other : Session) (h : IsHaltedIf awaited planted part before after)
      (k : IsHaltedIf awaited planted part before other)
      (ends others : List End) →
      halt_ends awaited planted part before after h ++ ends ≡ halt_ends awaited planted part before other k ++ others →
      (after ≡ other) × (ends ≡ others)
  halt_fixed true before after other h k ends others e =
      let same : h.end ≡ k.end = ap (λ (t : List End). get_or t 0 h.end) e in (
        h.is ∙ ap (λ (x : End). record { held = before.held; state = run_ended planted part x before.state }) same ∙ sym k.is,
        ap (λ (t : List End). drop 1 t) e,
      )
  halt_fixed false before after other h k ends others e = (h ∙ sym k, e)

  note_fixed : (note : Note) (before after other : Session) (h : Takes planted part note before after)
      (k : Takes planted part note before other)
      (ends others : List End) → note_ends planted part note before after h ++ ends ≡ note_ends planted part note before other k ++ others →
      (after ≡ other) × (ends ≡ others)
  note_fixed (bytes chunk) before after other h k ends others e = (one_chunk planted part chunk before after other h k, e)
  note_fixed line_end_note before after other h k ends others e = (h ∙ sym k, e)
  note_fixed line_fault before after other h k ends others e = (h ∙ sym k, e)
  note_fixed too_long before after other h k ends others e = (h ∙ sym k, e)
  note_fixed (halted launch) before after other h k ends others e =
      halt_fixed (is_awaited launch before) before after other h k ends others e

pub ends_fix_schedules : EndsFixSchedules
ends_fix_schedules planted part [] before after other h k e = h ∙ sym k
ends_fix_schedules planted part (note ∷ notes) before after other h k e =
    let first = note_fixed planted part note before h.0 k.0 h.1 k.1 (ends_of planted part notes h.0 after h.2)
    (ends_of planted part notes k.0 other k.2) e in
    subst (λ (x : Session). (l : IsSchedule planted part notes x other) →
    ends_of planted part notes h.0 after h.2 ≡ ends_of planted part notes x other l → after ≡ other)
    first.0 (λ l f. ends_fix_schedules planted part notes h.0 after other h.2 l f) k.2 first.1

pub ends_are_one : EndsAreOne
ends_are_one planted part s e f not_asked h k =
    one_end part (run_out planted s) (replant_failed s) e f h.is_end k.is_end
    (λ c. true≢false (sym (h.asked c) ∙ not_asked)) (λ c. true≢false (sym (k.asked c) ∙ not_asked))
