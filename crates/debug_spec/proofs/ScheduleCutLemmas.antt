-- Schedules that are cut short.
use Rattle.std.proofs.Common.{◌≡◌, ℕ, ◌+◌, ◌==◌, Bool, true, false, List, [], ◌∷◌, ◌++◌, length, get_or, refl, sym, ◌∙◌, ap, ap₂, subst}
use Rattle.std.proofs.Common.{arith, append_assoc}
use Rattle.std.proofs.lemmas.Bool.{true≢false, and_parts}
use Rattle.part_spec.specs.Chip.{Chip}
use Rattle.line_spec.specs.Frames.{IsBytes}
use Rattle.line_spec.specs.Cut.{Item, Cuts}
use Rattle.line_spec.specs.Hearing.{Heard}
use Rattle.line_spec.proofs.Cuts.{Cuts-more, Cuts-append, Cuts-bytes, has_cut}
use Rattle.debug_spec.specs.Run.{End, end_by}
use Rattle.debug_spec.specs.Debugger.{Mode, stopped, launching, running, leaving, closed, Debugger, opened, listens, is_out, run_out}
use Rattle.debug_spec.specs.Running.{line_end, left, replant_failed, run_ended, MayEnd}
use Rattle.debug_spec.specs.Replay.{EndsWithFrame}
use Rattle.debug_spec.specs.Schedule.{Session, heard_all, Keeps, IsHeard, line_ended, is_awaited, Note, bytes, line_end_note, line_fault}
use Rattle.debug_spec.specs.Schedule.{too_long, halted, IsHalted, Takes, IsSchedule}
use Rattle.debug_spec.specs.SessionLaws.{IsInMode, IsSound, Moves, Grows}
use Rattle.debug_spec.specs.CutShort.{IsChunkCutShort, TakesCutShort, IsScheduleCutShort}
use Rattle.debug_spec.specs.ScheduleEnds.{ends_of}
use Rattle.debug_spec.specs.CutShortLaws.{EveryNoteIsCutShort, cut_ends, OneScheduleCutShort, ScheduleCutShows, SchedulesCutShortShow}
use Rattle.debug_spec.proofs.RunEnds.{end_by_is_end}
use Rattle.debug_spec.proofs.Soundness.{at, moves-onward}
use Rattle.debug_spec.proofs.Moving.{moves-line_end, moves-ended}
use Rattle.debug_spec.proofs.Sessions.{EitherBy, leaves-program, moves-heard_all, moves-schedule}
use Rattle.debug_spec.proofs.Chunks.{HearsAll-append, heard_all-append}
use Rattle.debug_spec.proofs.Hearings.{each_hearing, held_by, holds_by}
use Rattle.debug_spec.proofs.OneChunk.{one_hearing_all, one_chunk}
use Rattle.debug_spec.proofs.ScheduleEndLemmas.{ends_fix_schedules}
use Rattle.debug_spec.proofs.JustTaken.{one_behind, Shortest, shortest, same_taken}

-- what is kept behind items
keeps_some : (b : Bool) (behind : List ℕ) → (held : List ℕ) × Keeps b behind held
keeps_some true behind = (behind, refl)
keeps_some false behind = ([], refl)

one_kept : (b : Bool) (y z held other : List ℕ) → y ≡ z → Keeps b y held → Keeps b z other → held ≡ other
one_kept true y z held other e h k = h ∙ e ∙ sym k
one_kept false y z held other e h k = h ∙ sym k

module _ (planted : Bool) (part : Chip) where
  -- the line ends: the debugger listens no more, and has sent nothing
  pub deaf_line : (held : List ℕ) (m : Mode) (s : Debugger) → listens (line_end part held (at m s)).mode ≡ false
  deaf_line held stopped s = refl
  deaf_line held _ s = refl

  pub line_sends : (held : List ℕ) (m : Mode) (s : Debugger) → (line_end part held (at m s)).sent ≡ s.sent
  line_sends held stopped s = refl
  line_sends held _ s = refl

  line_drops : (held : List ℕ) (m : Mode) (s : Debugger) → listens m ≡ true →
      (line_end part held (at m s)).dropped ≡ s.dropped + length held
  line_drops held (launching number) s h = absurd (true≢false (sym h))
  line_drops held leaving s h = absurd (true≢false (sym h))
  line_drops held (closed done) s h = absurd (true≢false (sym h))
  line_drops held _ s h = refl

  deaf_line_end : (held : List ℕ) (s : Debugger) → listens s.mode ≡ false → line_end part held s ≡ s
  deaf_line_end held s deaf =
      ap (λ (b : Bool). elim b [ true ↦ left part (record s { dropped = s.dropped + length held }) | false ↦ s ]) deaf

  -- a run that is left ends so too
  deaf_ended : (e : End) (m : Mode) (s : Debugger) → listens m ≡ false → listens (run_ended planted part e (at m s)).mode ≡ false
  deaf_ended e running s h = absurd (true≢false h)
  deaf_ended e leaving s h = refl
  deaf_ended e _ s h = h

  ended_sends : (e : End) (m : Mode) (s : Debugger) → listens m ≡ false → (run_ended planted part e (at m s)).sent ≡ s.sent
  ended_sends e running s h = absurd (true≢false h)
  ended_sends e leaving s h = refl
  ended_sends e _ s h = refl

  ended_drops : (e : End) (m : Mode) (s : Debugger) → (run_ended planted part e (at m s)).dropped ≡ s.dropped
  ended_drops e running s = refl
  ended_drops e leaving s = refl
  ended_drops e _ s = refl

  -- a run that is left was asked to stop
  left_asked : (m : Mode) (s : Debugger) → listens m ≡ false → is_out m ≡ true → IsInMode m s → s.stop_asked ≡ true
  left_asked running s deaf out h = absurd (true≢false deaf)
  left_asked leaving s deaf out h = h.1
  left_asked _ s deaf out h = absurd (true≢false (sym out))

  -- what stays behind a session that listens no more
  pub record Stays (before after : Session) : Type 0 where
    pub sent : after.state.sent ≡ before.state.sent
    pub dropped : after.state.dropped ≡ before.state.dropped
    pub held : before.held ≡ [] → after.held ≡ []
    pub deaf : listens after.state.mode ≡ false

  same_stays : (before after : Session) → listens before.state.mode ≡ false → after ≡ before → Stays before after
  same_stays before after deaf e = record {
    sent = ap (λ (x : Session). x.state.sent) e;
    dropped = ap (λ (x : Session). x.state.dropped) e;
    held = λ h. ap (λ (x : Session). x.held) e ∙ h;
    deaf = ap (λ (x : Session). listens x.state.mode) e ∙ deaf;
  }

  line_stays : (before after : Session) → listens before.state.mode ≡ false → after ≡ line_ended part before → Stays before after
  line_stays before after deaf e =
      let same : after.state ≡ before.state = ap (λ (x : Session). x.state) e ∙ deaf_line_end before.held before.state deaf in
      record {
        sent = ap (λ (x : Debugger). x.sent) same;
        dropped = ap (λ (x : Debugger). x.dropped) same;
        held = λ h. ap (λ (x : Session). x.held) e;
        deaf = ap (λ (x : Debugger). listens x.mode) same ∙ deaf;
      }

  halt_stays : (b : Bool) (before after : Session) → listens before.state.mode ≡ false →
      EitherBy b (IsHalted planted part before after) (after ≡ before) → Stays before after
  halt_stays true before after deaf h =
      let same : after.state ≡ run_ended planted part h.end before.state = ap (λ (x : Session). x.state) h.is in
      record {
        sent = ap (λ (x : Debugger). x.sent) same ∙ ended_sends h.end before.state.mode before.state deaf;
        dropped = ap (λ (x : Debugger). x.dropped) same ∙ ended_drops h.end before.state.mode before.state;
        held = λ e. ap (λ (x : Session). x.held) h.is ∙ e;
        deaf = ap (λ (x : Debugger). listens x.mode) same ∙ deaf_ended h.end before.state.mode before.state deaf;
      }
  halt_stays false before after deaf h = same_stays before after deaf h

  pub note_stays : (note : Note) (before after : Session) → listens before.state.mode ≡ false → Takes planted part note before after →
      Stays before after
  note_stays (bytes chunk) before after deaf h =
      same_stays before after deaf (subst (λ (b : Bool). EitherBy b (IsHeard planted part chunk before after) (after ≡ before)) deaf h)
  note_stays line_end_note before after deaf h = line_stays before after deaf h
  note_stays line_fault before after deaf h = line_stays before after deaf h
  note_stays too_long before after deaf h = line_stays before after deaf h
  note_stays (halted launch) before after deaf h = halt_stays (is_awaited launch before) before after deaf h

  pub schedule_stays : (notes : List Note) (before after : Session) → listens before.state.mode ≡ false →
      IsSchedule planted part notes before after → Stays before after
  schedule_stays [] before after deaf h = same_stays before after deaf h
  schedule_stays (note ∷ notes) before after deaf h =
      let first = note_stays note before h.0 deaf h.1 in
      let later = schedule_stays notes h.0 after first.deaf h.2 in
      record {
        sent = later.sent ∙ first.sent;
        dropped = later.dropped ∙ first.dropped;
        held = λ e. later.held (first.held e);
        deaf = later.deaf;
      }

  -- a session that listens no more goes on with every note
  record GoesOn (note : Note) (before : Session) : Type 0 where
    after : Session
    takes : Takes planted part note before after
    sound : IsSound part after.state
    deaf : listens after.state.mode ≡ false

  line_goes : (s : Session) → IsSound part s.state → IsSound part (line_ended part s).state
  line_goes s sound = (moves-line_end part s.held s.state.mode s.state).sound sound

  halt_goes : (launch : ℕ) (s : Session) → IsSound part s.state → listens s.state.mode ≡ false → (b : Bool) → is_awaited launch s ≡ b →
      GoesOn (halted launch) s
  halt_goes launch s sound deaf true awaited =
      let out : is_out s.state.mode ≡ true = (and_parts (is_out s.state.mode) (launch == s.state.launches) awaited).0 in
      let e = end_by part (run_out planted s.state) (replant_failed s.state) 1 in
      let may : MayEnd planted part s.state e = record {
        out = out;
        is_end = end_by_is_end part (run_out planted s.state) (replant_failed s.state) 1 (omega arith);
        asked = λ c. left_asked s.state.mode s.state deaf out sound.in_mode;
      } in
      let t : Session = record { held = s.held; state = run_ended planted part e s.state } in
      record {
        after = t;
        takes = subst (λ (b : Bool). EitherBy b (IsHalted planted part s t) (t ≡ s)) (sym awaited)
            (record { end = e; may = may; is = refl });
        sound = (moves-ended part planted e s.state.mode s.state).sound sound;
        deaf = deaf_ended e s.state.mode s.state deaf;
      }
  halt_goes launch s sound deaf false awaited = record {
    after = s;
    takes = subst (λ (b : Bool). EitherBy b (IsHalted planted part s s) (s ≡ s)) (sym awaited) refl;
    sound = sound;
    deaf = deaf;
  }

  note_goes : (note : Note) (s : Session) → IsSound part s.state → listens s.state.mode ≡ false → GoesOn note s
  note_goes (bytes chunk) s sound deaf = record {
    after = s;
    takes = subst (λ (b : Bool). EitherBy b (IsHeard planted part chunk s s) (s ≡ s)) (sym deaf) refl;
    sound = sound;
    deaf = deaf;
  }
  note_goes line_end_note s sound deaf =
      record { after = line_ended part s; takes = refl; sound = line_goes s sound; deaf = deaf_line s.held s.state.mode s.state }
  note_goes line_fault s sound deaf =
      record { after = line_ended part s; takes = refl; sound = line_goes s sound; deaf = deaf_line s.held s.state.mode s.state }
  note_goes too_long s sound deaf =
      record { after = line_ended part s; takes = refl; sound = line_goes s sound; deaf = deaf_line s.held s.state.mode s.state }
  note_goes (halted launch) s sound deaf = halt_goes launch s sound deaf (is_awaited launch s) refl

  later_goes : (notes : List Note) (s : Session) → IsSound part s.state → listens s.state.mode ≡ false → (after : Session) ×
      IsSchedule planted part notes s after
  later_goes [] s sound deaf = (s, refl)
  later_goes (note ∷ notes) s sound deaf =
      let first = note_goes note s sound deaf in
      let later = later_goes notes first.after first.sound first.deaf in
      (later.0, (first.after, first.takes, later.1))

  -- behind a cut the line ends, and the later notes go on
  cut_goes : (more : List Note) (cut : Session) → IsSound part cut.state → (after : Session) ×
      IsSchedule planted part more (line_ended part cut) after
  cut_goes more cut sound = later_goes more (line_ended part cut) (line_goes cut sound) (deaf_line cut.held cut.state.mode cut.state)

  chunk_cut : (chunk : List ℕ) (items : List Item) (there : Session) (s : Shortest there.held items chunk) →
      listens there.state.mode ≡ true →
      EndsWithFrame items → (cut : Session) × IsChunkCutShort planted part chunk items there cut
  chunk_cut chunk items there s listening frame =
      let heard = each_hearing items in
      let state = heard_all planted part heard.0 there.state in
      let kept = keeps_some (listens state.mode) s.behind in (
        record { held = kept.0; state = state },
        record {
          taken = s.taken;
          left = s.left;
          behind = s.behind;
          heard = heard.0;
          listening = listening;
          split = s.split;
          cuts = s.cuts;
          frame = frame;
          just_taken = s.just_taken;
          hears = heard.1;
          state = refl;
          keeps = kept.1;
        },
      )

  cut_moves : (note : Note) (items : List Item) (there cut : Session) → TakesCutShort planted part note items there cut →
      Moves part there.state cut.state
  cut_moves (bytes chunk) items there cut h =
      subst (λ (x : Debugger). Moves part there.state x) (sym h.state) (moves-heard_all planted part h.heard there.state)
  cut_moves line_end_note items there cut h = absurd h
  cut_moves line_fault items there cut h = absurd h
  cut_moves too_long items there cut h = absurd h
  cut_moves (halted launch) items there cut h =
      subst (λ (x : Session). Moves part there.state x.state) (sym h.2.is) (moves-ended part planted h.2.end there.state.mode there.state)

  chunk_fixed : (chunk : List ℕ) (items : List Item) (there cut other : Session) → IsChunkCutShort planted part chunk items there cut →
      IsChunkCutShort planted part chunk items there other → cut ≡ other
  chunk_fixed chunk items there cut other h k =
      let taken : h.taken ≡ k.taken =
      same_taken there.held items h.taken h.left k.taken k.left h.behind k.behind (sym h.split ∙ k.split) h.cuts h.just_taken k.cuts
      k.just_taken in
      let behind : h.behind ≡ k.behind =
      one_behind (there.held ++ h.taken) h.behind k.behind items h.cuts
      (subst (λ (t : List ℕ). Cuts (there.held ++ t) items k.behind) (sym taken) k.cuts) in
      let heard : h.heard ≡ k.heard = one_hearing_all items h.heard k.heard h.hears k.hears in
      let state : cut.state ≡ other.state = h.state ∙ ap (λ (t : List Heard). heard_all planted part t there.state) heard ∙ sym k.state in
      let held : cut.held ≡ other.held = one_kept (listens cut.state.mode) h.behind k.behind cut.held other.held behind h.keeps
      (subst (λ (x : Debugger). Keeps (listens x.mode) k.behind other.held) (sym state) k.keeps) in
      ap₂ (λ (x : List ℕ) (t : Debugger). record { held = x; state = t }) held state

  cut_fixed : (note : Note) (items : List Item) (there cut other : Session) (h : TakesCutShort planted part note items there cut)
      (k : TakesCutShort planted part note items there other) →
      cut_ends planted part note items there cut h ≡ cut_ends planted part note items there other k → cut ≡ other
  cut_fixed (bytes chunk) items there cut other h k e = chunk_fixed chunk items there cut other h k
  cut_fixed line_end_note items there cut other h k e = absurd h
  cut_fixed line_fault items there cut other h k e = absurd h
  cut_fixed too_long items there cut other h k e = absurd h
  cut_fixed (halted launch) items there cut other h k e =
      let same : h.2.end ≡ k.2.end = ap (λ (t : List End). get_or t 0 h.2.end) e in
      h.2.is ∙ ap (λ (x : End). record { held = there.held; state = run_ended planted part x there.state }) same ∙ sym k.2.is

  -- the whole of a chunk goes on from where it was cut
  whole_grows : (chunk : List ℕ) (items : List Item) (there cut all : Session) → IsBytes (there.held ++ chunk) →
      IsChunkCutShort planted part chunk items there cut →
      EitherBy (listens there.state.mode) (IsHeard planted part chunk there all) (all ≡ there) → Grows cut.state.sent all.state.sent
  whole_grows chunk items there cut all valid h taken =
      let place : (there.held ++ h.taken) ++ h.left ≡ there.held ++ chunk =
      append_assoc there.held h.taken h.left ∙ ap (λ (t : List ℕ). there.held ++ t) (sym h.split) in
      let longer : Cuts (there.held ++ chunk) items (h.behind ++ h.left) =
      subst (λ (t : List ℕ). Cuts t items (h.behind ++ h.left)) place (Cuts-more (there.held ++ h.taken) h.left h.behind items h.cuts) in
      let more = has_cut (h.behind ++ h.left) (Cuts-bytes (there.held ++ chunk) (h.behind ++ h.left) items longer valid) in
      let heard = each_hearing more.0 in
      let state = heard_all planted part (h.heard ++ heard.0) there.state in
      let also : Session = record { held = held_by (listens state.mode) more.1; state = state } in
      let way : IsHeard planted part chunk there also = record {
        items = items ++ more.0;
        behind = more.1;
        heard = h.heard ++ heard.0;
        cuts = Cuts-append (there.held ++ chunk) (h.behind ++ h.left) more.1 items more.0 longer more.2.cuts;
        hears = HearsAll-append items more.0 h.heard heard.0 h.hears heard.1;
        state = refl;
        holds = holds_by (listens state.mode) more.1 more.2.partial;
      } in
      let same : also ≡ all = one_chunk planted part chunk there also all
      (subst (λ (b : Bool). EitherBy b (IsHeard planted part chunk there also) (also ≡ there)) (sym h.listening) way) taken in
      let onward : heard_all planted part heard.0 cut.state ≡ all.state =
      ap (heard_all planted part heard.0) h.state ∙ sym (heard_all-append planted part h.heard heard.0 there.state) ∙
      ap (λ (x : Session). x.state) same in
      subst (λ (x : Debugger). Grows cut.state.sent x.sent) onward (moves-heard_all planted part heard.0 cut.state).sent

  shows : (cut after : Session) (more : List Note) → IsSchedule planted part more (line_ended part cut) after → ScheduleCutShows cut after
  shows cut after more h =
      let stays = schedule_stays more (line_ended part cut) after (deaf_line cut.held cut.state.mode cut.state) h in
      record {
        counted = λ e. stays.dropped ∙ line_drops cut.held cut.state.mode cut.state e;
        not_counted = λ e. stays.dropped ∙ ap (λ (x : Debugger). x.dropped) (deaf_line_end cut.held cut.state e);
        sent = stays.sent ∙ line_sends cut.held cut.state.mode cut.state;
        held = stays.held refl;
        deaf = stays.deaf;
      }

  cut_schedule_moves : (front : List Note) (note : Note) (items : List Item) (more : List Note) (before after : Session) →
      IsScheduleCutShort planted part front note items more before after → Moves part before.state after.state
  cut_schedule_moves front note items more before after h =
      let there = h.there in
      let cut = h.cut in
      let shut = line_ended part cut in
      moves-onward part before.state there.state after.state (moves-schedule planted part front before there h.first)
      (moves-onward part there.state cut.state after.state (cut_moves note items there cut h.takes)
      (moves-onward part cut.state shut.state after.state (moves-line_end part cut.held cut.state.mode cut.state)
      (moves-schedule planted part more shut after h.later)))

pub every_note_is_cut_short : EveryNoteIsCutShort
every_note_is_cut_short = record {
  frame = λ planted part front chunk items more before there behind first sound listening valid cuts frame.
      let cut = chunk_cut planted part chunk items there (shortest there.held items chunk behind valid cuts) listening frame in
      let later = cut_goes planted part more cut.0 ((cut_moves planted part (bytes chunk) items there cut.0 cut.1).sound sound) in
      (later.0, record { there = there; cut = cut.0; first = first; takes = cut.1; later = later.1 });
  halt = λ planted part front launch more before there e first sound awaited may.
      let cut : Session = record { held = there.held; state = run_ended planted part e there.state } in
      let takes : TakesCutShort planted part (halted launch) [] there cut = (refl, awaited, record { end = e; may = may; is = refl }) in
      let later = cut_goes planted part more cut ((cut_moves planted part (halted launch) [] there cut takes).sound sound) in
      (later.0, record { there = there; cut = cut; first = first; takes = takes; later = later.1 });
}

pub one_schedule_cut_short : OneScheduleCutShort
one_schedule_cut_short planted part front note items more before after other h k first note_same later =
    let there : h.there ≡ k.there = ends_fix_schedules planted part front before h.there k.there h.first k.first first in
    let cut : h.cut ≡ k.cut =
    subst (λ (x : Session). (l : TakesCutShort planted part note items x k.cut) →
    cut_ends planted part note items h.there h.cut h.takes ≡ cut_ends planted part note items x k.cut l → h.cut ≡ k.cut) there
    (λ l e. cut_fixed planted part note items h.there h.cut k.cut h.takes l e) k.takes note_same in
    subst (λ (x : Session). (l : IsSchedule planted part more (line_ended part x) other) →
    ends_of planted part more (line_ended part h.cut) after h.later ≡ ends_of planted part more (line_ended part x) other l →
    after ≡ other) cut
    (λ l e. ends_fix_schedules planted part more (line_ended part h.cut) after other h.later l e) k.later later

pub schedules_cut_short_show : SchedulesCutShortShow
schedules_cut_short_show = record {
  shows = λ planted part front note items more before after h. shows planted part h.cut after more h.later;
  first = λ planted part chunk items there cut all valid h taken. whole_grows planted part chunk items there cut all valid h taken;
  leaves = λ planted part prog device front note items more after full fit h.
      leaves-program part prog device after.state full fit
      (cut_schedule_moves planted part front note items more (record { held = []; state = opened part prog device }) after h);
}
