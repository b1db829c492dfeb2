-- What a schedule has heard and holds, and replays that are schedules.
use Rattle.std.proofs.Common.{◌≡◌, ℕ, ◌<◌, ◌≤◌, ◌==◌, Bool, true, false, List, [], ◌∷◌, ◌++◌, length, Option, Some, None, refl, sym, ◌∙◌}
use Rattle.std.proofs.Common.{ap, subst, arith, append_assoc, append-nil}
use Rattle.std.proofs.lemmas.Bool.{true≢false, and_from, eq-eqb}
use Rattle.part_spec.specs.Chip.{Chip}
use Rattle.line_spec.specs.Frames.{IsBytes, IsPartial}
use Rattle.line_spec.specs.Cut.{Item, whole, junk, Cuts, IsCut}
use Rattle.line_spec.specs.Hearing.{Heard, dropped, HearsAll}
use Rattle.line_spec.proofs.Bytes.{IsBytes-left}
use Rattle.line_spec.proofs.Cuts.{Cuts-more, Cuts-append, Cuts-bytes, has_cut, IsPartial-nil}
use Rattle.debug_spec.specs.Run.{End}
use Rattle.debug_spec.specs.Device.{Device}
use Rattle.debug_spec.specs.Debugger.{Mode, running, leaving, Debugger, opened, listens, is_out, dropping}
use Rattle.debug_spec.specs.Running.{line_end, run_ended}
use Rattle.debug_spec.specs.Commands.{item_launched}
use Rattle.debug_spec.specs.Replay.{steps_for, end_now, ended_if, settled, over, IsReplay}
use Rattle.debug_spec.specs.Schedule.{Session, heard_all, Keeps, Holds, IsHeard, line_ended, is_awaited, Note, bytes, line_end_note}
use Rattle.debug_spec.specs.Schedule.{line_fault, too_long, halted, IsHalted, IsSchedule}
use Rattle.debug_spec.specs.Opening.{opening}
use Rattle.debug_spec.specs.Pinned.{bytes_of_notes, IsHeardIf, chunk_heard, heard_of, SchedulesAreCut, frames_in}
use Rattle.debug_spec.specs.Pinned.{IsOneByOne, ReplaysAreSchedules}
use Rattle.debug_spec.proofs.Soundness.{at}
use Rattle.debug_spec.proofs.Sessions.{EitherBy, items_settle}
use Rattle.debug_spec.proofs.Chunks.{HearsAll-append}
use Rattle.debug_spec.proofs.Hearings.{each_hearing, held_by, holds_by}
use Rattle.debug_spec.proofs.OneChunk.{one_replay, deaf_all}
use Rattle.debug_spec.proofs.EndsNow.{ends_now_may_come}
use Rattle.debug_spec.proofs.TakeChunks.{drops, heard-drops, item_dropped}
use Rattle.debug_spec.proofs.TakeReplayLemmas.{settled_drop, listens-settled, over-append, over-drops, deaf_over, deaf_end}
use Rattle.debug_spec.proofs.ScheduleCutLemmas.{deaf_line, schedule_stays}

module _ (planted : Bool) (part : Chip) where
  -- what a schedule has heard of the bytes taken
  abbrev IsHeardOf : List ℕ → List Heard → List ℕ → Type 0
  IsHeardOf all heard held = (items : List Item) × IsCut all items held × HearsAll items heard

  abbrev CutsBehind : List Note → Session → Session → List Heard → Type 0
  CutsBehind notes before after heard = IsPartial before.held → IsHeardOf (before.held ++ bytes_of_notes notes) heard after.held

  -- where the debugger listens at the end, it did before
  listened : (notes : List Note) (before after : Session) → IsSchedule planted part notes before after → listens after.state.mode ≡ true →
      listens before.state.mode ≡ true
  listened notes before after h on = by_listens (listens before.state.mode) refl
    where
      by_listens : (b : Bool) → listens before.state.mode ≡ b → b ≡ true
      by_listens true e = refl
      by_listens false e = absurd (true≢false (sym on ∙ (schedule_stays planted part notes before after e h).deaf))

  chunk_is_cut : (chunk rest : List ℕ) (before between after : Session) (b : Bool) → b ≡ true → listens between.state.mode ≡ true →
      (h : IsHeardIf b planted part chunk before between) (heard : List Heard) →
      (IsPartial between.held → IsHeardOf (between.held ++ rest) heard after.held) →
      IsHeardOf (before.held ++ (chunk ++ rest)) (chunk_heard b planted part chunk before between h ++ heard) after.held
  chunk_is_cut chunk rest before between after true e on h heard later =
      let kept = subst (λ (c : Bool). Holds c h.behind between.held) on h.holds in
      let more = later (subst IsPartial (sym kept.1) kept.0) in
      let place : (before.held ++ chunk) ++ rest ≡ before.held ++ (chunk ++ rest) = append_assoc before.held chunk rest in (
        h.items ++ more.0,
        record {
          cuts = subst (λ (t : List ℕ). Cuts t (h.items ++ more.0) after.held) place
              (Cuts-append ((before.held ++ chunk) ++ rest) (h.behind ++ rest) after.held h.items more.0
              (Cuts-more (before.held ++ chunk) rest h.behind h.items h.cuts)
              (subst (λ (t : List ℕ). Cuts (t ++ rest) more.0 after.held) kept.1 more.1.cuts));
          partial = more.1.partial;
        },
        HearsAll-append h.items more.0 h.heard heard h.hears more.2,
      )
  chunk_is_cut chunk rest before between after false e on h heard later = absurd (true≢false (sym e))

  halt_held : (b : Bool) (before between : Session) → EitherBy b (IsHalted planted part before between) (between ≡ before) →
      between.held ≡ before.held
  halt_held true before between h = ap (λ (x : Session). x.held) h.is
  halt_held false before between h = ap (λ (x : Session). x.held) h

  line_is_over : (notes : List Note) (before between after : Session) → between ≡ line_ended part before →
      IsSchedule planted part notes between after →
      listens after.state.mode ≡ true → ⊥
  line_is_over notes before between after h later on =
      true≢false (sym (listened notes between after later on) ∙ ap (λ (x : Session). listens x.state.mode) h ∙
      deaf_line planted part before.held before.state.mode before.state)

  is_cut : (notes : List Note) (before after : Session) (h : IsSchedule planted part notes before after) → listens after.state.mode ≡ true →
      CutsBehind notes before after (heard_of planted part notes before after h)
  is_cut [] before after h on partial =
      let same : before.held ≡ after.held = ap (λ (x : Session). x.held) (sym h) in
      ([], record { cuts = append-nil before.held ∙ same; partial = subst IsPartial same partial }, tt)
  is_cut (bytes chunk ∷ notes) before after h on partial =
      chunk_is_cut chunk (bytes_of_notes notes) before h.0 after (listens before.state.mode)
      (listened (bytes chunk ∷ notes) before after h on)
      (listened notes h.0 after h.2 on) h.1 (heard_of planted part notes h.0 after h.2) (is_cut notes h.0 after h.2 on)
  is_cut (line_end_note ∷ notes) before after h on partial = absurd (line_is_over notes before h.0 after h.1 h.2 on)
  is_cut (line_fault ∷ notes) before after h on partial = absurd (line_is_over notes before h.0 after h.1 h.2 on)
  is_cut (too_long ∷ notes) before after h on partial = absurd (line_is_over notes before h.0 after h.1 h.2 on)
  is_cut (halted launch ∷ notes) before after h on partial =
      let same : (h.0).held ≡ before.held = halt_held (is_awaited launch before) before h.0 h.1 in
      subst (λ (t : List ℕ). IsHeardOf (t ++ bytes_of_notes notes) (heard_of planted part notes h.0 after h.2) after.held) same
      (is_cut notes h.0 after h.2 on (subst IsPartial (sym same) partial))

pub schedules_are_cut : SchedulesAreCut
schedules_are_cut planted part notes before after h partial on = is_cut planted part notes before after h on partial

-- a rest is kept
keeps_rest : (b : Bool) (behind held : List ℕ) → Holds b behind held → Keeps b behind held
keeps_rest true behind held h = h.1
keeps_rest false behind held h = h

-- items with no frame are heard as dropped bytes
all_dropped : (items : List Item) (heard : List Heard) → frames_in items ≤ 0 → HearsAll items heard → (line : List ℕ) × (heard ≡ drops line)
all_dropped [] [] few h = ([], refl)
all_dropped [] (one ∷ heard) few h = absurd h
all_dropped (item ∷ items) [] few h = absurd h
all_dropped (whole frame ∷ items) (one ∷ heard) few h = absurd (omega (arith, few))
all_dropped (junk byte ∷ items) (one ∷ heard) few h =
    let later = all_dropped items heard few h.1 in
    (byte ∷ later.0, ap (λ (t : Heard). t ∷ heard) h.0 ∙ ap (λ (t : List Heard). dropped 1 ∷ t) later.1)

notes-append : (planted : Bool) (part : Chip) (notes more : List Note) (a b c : Session) → IsSchedule planted part notes a b →
    IsSchedule planted part more b c →
    IsSchedule planted part (notes ++ more) a c
notes-append planted part [] more a b c h k = subst (λ (x : Session). IsSchedule planted part more x c) h k
notes-append planted part (note ∷ notes) more a b c h k = (h.0, h.1, notes-append planted part notes more h.0 b c h.2 k)

bytes_of_notes-append : (notes more : List Note) → bytes_of_notes (notes ++ more) ≡ bytes_of_notes notes ++ bytes_of_notes more
bytes_of_notes-append [] more = refl
bytes_of_notes-append (bytes chunk ∷ notes) more =
    ap (λ (t : List ℕ). chunk ++ t) (bytes_of_notes-append notes more) ∙
    sym (append_assoc chunk (bytes_of_notes notes) (bytes_of_notes more))
bytes_of_notes-append (line_end_note ∷ notes) more = bytes_of_notes-append notes more
bytes_of_notes-append (line_fault ∷ notes) more = bytes_of_notes-append notes more
bytes_of_notes-append (too_long ∷ notes) more = bytes_of_notes-append notes more
bytes_of_notes-append (halted launch ∷ notes) more = bytes_of_notes-append notes more

module _ (planted : Bool) (part : Chip) (stops : List ℕ) where
  abbrev settle : Debugger → Debugger
  settle s = settled planted part stops s

  -- with one frame at most, what happens between two items may wait for the last of them
  frame_settles : (line : List ℕ) (t : Debugger) (b : Bool) → listens t.mode ≡ b →
      over planted part stops (drops line) (settle t) ≡ settle (heard_all planted part (drops line) t)
  frame_settles line t true on =
      over-drops planted part stops line (settle t) (listens-settled planted part stops t.mode t ∙
      on) (items_settle.once planted part stops t) ∙
      sym (settled_drop planted part stops (length line) t.mode t) ∙ ap settle (sym (heard-drops planted part line t on))
  frame_settles line t false off =
      deaf_over planted part stops (drops line) (settle t) (listens-settled planted part stops t.mode t ∙
      off) (items_settle.once planted part stops t) ∙
      ap settle (sym (deaf_all planted part (drops line) t off))

  one_settles : (items : List Item) (heard : List Heard) (s : Debugger) → HearsAll items heard → frames_in items ≤ 1 →
      listens s.mode ≡ true → settle s ≡ s →
      over planted part stops heard s ≡ settle (heard_all planted part heard s)
  one_settles [] [] s h few on still = sym still
  one_settles [] (one ∷ heard) s h few on still = absurd h
  one_settles (item ∷ items) [] s h few on still = absurd h
  one_settles (whole frame ∷ items) (one ∷ heard) s h few on still =
      let found = all_dropped items heard (omega (arith, few)) h.1 in
      let t = item_launched planted part one s in
      ap (λ (x : List Heard). over planted part stops x (settle t)) found.1 ∙ frame_settles found.0 t (listens t.mode) refl ∙
      ap (λ (x : List Heard). settle (heard_all planted part x t)) (sym found.1)
  one_settles (junk byte ∷ items) (one ∷ heard) s h few on still =
      let t : item_launched planted part one s ≡ dropping 1 s =
      ap (λ (x : Heard). item_launched planted part x s) h.0 ∙ item_dropped planted part s.mode s on in
      let kept : settle (dropping 1 s) ≡ dropping 1 s = settled_drop planted part stops 1 s.mode s ∙ ap (dropping 1) still in
      ap (λ (x : Debugger). over planted part stops heard (settle x)) t ∙ ap (over planted part stops heard) kept ∙
      one_settles items heard (dropping 1 s) h.1 few on kept ∙ ap (λ (x : Debugger). settle (heard_all planted part heard x)) (sym t)

  module _ (some : (launch : ℕ) → 0 < steps_for stops launch) where
    -- what happens between two items is a note, or none
    record Settles (s : Session) : Type 0 where
      notes : List Note
      takes : IsSchedule planted part notes s (record { held = s.held; state = settle s.state })
      none : bytes_of_notes notes ≡ []

    halts : (m : Mode) (s : Session) → is_out m ≡ true → let u : Session = record { held = s.held; state = at m s.state } in
        (o : Option End) → end_now planted part (steps_for stops s.state.launches) (at m s.state) ≡ o →
        (notes : List Note) × IsSchedule planted part notes u (record { held = s.held; state = ended_if planted part o (at m s.state) }) ×
        (bytes_of_notes notes ≡ [])
    halts m s out None e = ([], refl, refl)
    halts m s out (Some end) e =
        let u : Session = record { held = s.held; state = at m s.state } in
        let t : Session = record { held = s.held; state = run_ended planted part end (at m s.state) } in
        let may = ends_now_may_come planted part (steps_for stops s.state.launches) (at m s.state) end (some s.state.launches) out e in
        let awaited : is_awaited s.state.launches u ≡ true =
        and_from (is_out m) (s.state.launches == s.state.launches) out (eq-eqb s.state.launches s.state.launches refl) in (
          halted s.state.launches ∷ [],
          (
            t,
            subst (λ (b : Bool). EitherBy b (IsHalted planted part u t) (t ≡ u)) (sym awaited) (record { end = end; may = may; is = refl }),
            refl,
          ),
          refl,
        )

    settles_in : (m : Mode) (s : Session) → let u : Session = record { held = s.held; state = at m s.state } in
        (notes : List Note) × IsSchedule planted part notes u (record { held = s.held; state = settle (at m s.state) }) ×
        (bytes_of_notes notes ≡ [])
    settles_in running s = halts running s refl (end_now planted part (steps_for stops s.state.launches) (at running s.state)) refl
    settles_in leaving s = halts leaving s refl (end_now planted part (steps_for stops s.state.launches) (at leaving s.state)) refl
    settles_in _ s = ([], refl, refl)

    settles : (s : Session) → Settles s
    settles s = let found = settles_in s.state.mode s in record { notes = found.0; takes = found.1; none = found.2 }

    module _ (prog : List ℕ) (device : Device) where
      -- a front of the line was replayed
      record Reached (front : List ℕ) (s : Session) : Type 0 where
        items : List Item
        behind : List ℕ
        heard : List Heard
        cut : IsCut front items behind
        hears : HearsAll items heard
        state : s.state ≡ over planted part stops heard (opened part prog device)
        keeps : Keeps (listens s.state.mode) behind s.held
        still : settle s.state ≡ s.state

      -- one byte more
      record Onward (front : List ℕ) (byte : ℕ) (s : Session) : Type 0 where
        after : Session
        notes : List Note
        takes : IsSchedule planted part notes s after
        brings : bytes_of_notes notes ≡ byte ∷ []
        reached : Reached (front ++ byte ∷ []) after

      onward : (front : List ℕ) (byte : ℕ) (s : Session) → IsBytes (front ++ byte ∷ []) → (r : Reached front s) →
          ((new : List Item) (rest : List ℕ) → IsCut (r.behind ++ byte ∷ []) new rest → frames_in new ≤ 1) → Onward front byte s
      onward front byte s valid r few = by_listens (listens s.state.mode) refl
        where
          longer : Cuts (front ++ byte ∷ []) r.items (r.behind ++ byte ∷ [])
          longer = Cuts-more front (byte ∷ []) r.behind r.items r.cut.cuts

          new : (items : List Item) × (rest : List ℕ) × IsCut (r.behind ++ byte ∷ []) items rest
          new = has_cut (r.behind ++ byte ∷ []) (Cuts-bytes (front ++ byte ∷ []) (r.behind ++ byte ∷ []) r.items longer valid)

          told : (heard : List Heard) × HearsAll new.0 heard
          told = each_hearing new.0

          cut : IsCut (front ++ byte ∷ []) (r.items ++ new.0) new.1
          cut = record {
            cuts = Cuts-append (front ++ byte ∷ []) (r.behind ++ byte ∷ []) new.1 r.items new.0 longer new.2.cuts;
            partial = new.2.partial;
          }

          all : over planted part stops (r.heard ++ told.0) (opened part prog device) ≡ over planted part stops told.0 s.state
          all = over-append planted part stops r.heard told.0 (opened part prog device) ∙ ap (over planted part stops told.0) (sym r.state)

          by_listens : (b : Bool) → listens s.state.mode ≡ b → Onward front byte s
          by_listens true on =
              let held : s.held ≡ r.behind = subst (λ (b : Bool). Keeps b r.behind s.held) on r.keeps in
              let t = heard_all planted part told.0 s.state in
              let u : Session = record { held = held_by (listens t.mode) new.1; state = t } in
              let way : IsHeard planted part (byte ∷ []) s u = record {
                items = new.0;
                behind = new.1;
                heard = told.0;
                cuts = subst (λ (x : List ℕ). Cuts (x ++ byte ∷ []) new.0 new.1) (sym held) new.2.cuts;
                hears = told.1;
                state = refl;
                holds = holds_by (listens t.mode) new.1 new.2.partial;
              } in
              let taken = subst (λ (b : Bool). EitherBy b (IsHeard planted part (byte ∷ []) s u) (u ≡ s)) (sym on) way in
              let rest = settles u in
              record {
                after = record { held = u.held; state = settle t };
                notes = bytes (byte ∷ []) ∷ rest.notes;
                takes = (u, taken, rest.takes);
                brings = ap (λ (x : List ℕ). byte ∷ x) rest.none;
                reached = record {
                  items = r.items ++ new.0;
                  behind = new.1;
                  heard = r.heard ++ told.0;
                  cut = cut;
                  hears = HearsAll-append r.items new.0 r.heard told.0 r.hears told.1;
                  state = sym (all ∙ one_settles new.0 told.0 s.state told.1 (few new.0 new.1 new.2) on r.still);
                  keeps = subst (λ (b : Bool). Keeps b new.1 u.held) (sym (listens-settled planted part stops t.mode t))
                      (keeps_rest (listens t.mode) new.1 u.held (holds_by (listens t.mode) new.1 new.2.partial));
                  still = items_settle.once planted part stops t;
                };
              }
          by_listens false off = record {
            after = s;
            notes = bytes (byte ∷ []) ∷ [];
            takes = (s, subst (λ (b : Bool). EitherBy b (IsHeard planted part (byte ∷ []) s s) (s ≡ s)) (sym off) refl, refl);
            brings = refl;
            reached = record {
              items = r.items ++ new.0;
              behind = new.1;
              heard = r.heard ++ told.0;
              cut = cut;
              hears = HearsAll-append r.items new.0 r.heard told.0 r.hears told.1;
              state = sym (all ∙ deaf_over planted part stops told.0 s.state off r.still);
              keeps = subst (λ (b : Bool). Keeps b new.1 s.held) (sym off) (subst (λ (b : Bool). Keeps b r.behind s.held) off r.keeps);
              still = r.still;
            };
          }

      -- the rest of the line
      record Passed (line : List ℕ) (more : List ℕ) (s : Session) : Type 0 where
        after : Session
        notes : List Note
        takes : IsSchedule planted part notes s after
        brings : bytes_of_notes notes ≡ more
        reached : Reached line after

      pass : (line more front : List ℕ) (s : Session) → line ≡ front ++ more → IsBytes line → IsOneByOne line → Reached front s →
          Passed line more s
      pass line [] front s e valid few r = record {
        after = s;
        notes = [];
        takes = refl;
        brings = refl;
        reached = subst (λ (t : List ℕ). Reached t s) (sym (e ∙ append-nil front)) r;
      }
      pass line (byte ∷ more) front s e valid few r =
          let place : line ≡ (front ++ byte ∷ []) ++ more = e ∙ sym (append_assoc front (byte ∷ []) more) in
          let step = onward front byte s (IsBytes-left (front ++ byte ∷ []) more (subst IsBytes place valid)) r
          (λ new rest cut. few front more byte r.items new r.behind rest e r.cut cut) in
          let later = pass line more (front ++ byte ∷ []) step.after place valid few step.reached in
          record {
            after = later.after;
            notes = step.notes ++ later.notes;
            takes = notes-append planted part step.notes later.notes s step.after later.after step.takes later.takes;
            brings = bytes_of_notes-append step.notes later.notes ∙ ap (λ (x : List ℕ). x ++ bytes_of_notes later.notes) step.brings ∙
                ap (λ (x : List ℕ). byte ∷ x) later.brings;
            reached = later.reached;
          }

-- the line ends alike with what is held and with what is behind the items
same_line : (planted : Bool) (part : Chip) (stops behind : List ℕ) (s : Session) (b : Bool) → listens s.state.mode ≡ b →
    Keeps (listens s.state.mode) behind s.held →
    line_end part s.held s.state ≡ line_end part behind s.state
same_line planted part stops behind s true on h =
    ap (λ (t : List ℕ). line_end part t s.state) (subst (λ (b : Bool). Keeps b behind s.held) on h)
same_line planted part stops behind s false off h =
    deaf_end planted part stops s.held s.state off ∙ sym (deaf_end planted part stops behind s.state off)

pub replays_are_schedules : ReplaysAreSchedules
replays_are_schedules planted part stops prog device line end valid few some h =
    let start = opening part prog device in
    let nothing : Reached planted part stops some prog device [] start = record {
      items = [];
      behind = [];
      heard = [];
      cut = record { cuts = refl; partial = IsPartial-nil };
      hears = tt;
      state = refl;
      keeps = refl;
      still = refl;
    } in
    let passed = pass planted part stops some prog device line line [] start refl valid few nothing in
    let s = passed.after in
    let r = passed.reached in
    let shut = line_ended part s in
    let rest = settles planted part stops some shut in
    let own : IsReplay planted part stops prog device line
    (settled planted part stops (line_end part r.behind (over planted part stops r.heard (opened part prog device)))) =
    record { items = r.items; rest = r.behind; heard = r.heard; cut = r.cut; hears = r.hears; is_end = refl } in (
      passed.notes ++ line_end_note ∷ rest.notes,
      record { held = []; state = settled planted part stops shut.state },
      notes-append planted part passed.notes (line_end_note ∷ rest.notes) start s
          (record { held = []; state = settled planted part stops shut.state })
          passed.takes (shut, refl, rest.takes),
      ap (settled planted part stops) (same_line planted part stops r.behind s (listens s.state.mode) refl r.keeps ∙
          ap (line_end part r.behind) r.state) ∙
          one_replay planted part stops prog device line
          (settled planted part stops (line_end part r.behind (over planted part stops r.heard (opened part prog device)))) end own h,
      bytes_of_notes-append passed.notes (line_end_note ∷ rest.notes) ∙ ap (λ (x : List ℕ). bytes_of_notes passed.notes ++ x) rest.none ∙
          append-nil (bytes_of_notes passed.notes) ∙ passed.brings,
    )
