-- Whole sessions: replays close, schedules leave the program, and chunks go on.
use Rattle.std.proofs.Common.{◌≡◌, ℕ, suc, Bool, true, false, List, [], ◌∷◌, length, Option, Some, None, refl, sym, ap, subst}
use Rattle.std.specs.Prelude.{⊤}
use Rattle.std.proofs.lemmas.Bool.{true≢false}
use Rattle.part_spec.specs.Chip.{Chip, words_of}
use Rattle.line_spec.specs.declared.refusal.Refusal.TheVariants.{Failed}
use Rattle.line_spec.specs.Messages.{okay, refused}
use Rattle.line_spec.specs.Hearing.{Heard}
use Rattle.debug_spec.specs.Stop.{forced}
use Rattle.debug_spec.specs.Run.{End, end_within}
use Rattle.debug_spec.specs.Device.{Device, launched}
use Rattle.debug_spec.specs.Debugger.{Mode, stopped, launching, running, programming, leaving, closed, Debugger, opened, listens, is_out}
use Rattle.debug_spec.specs.Debugger.{run_out, replied}
use Rattle.debug_spec.specs.Running.{line_end, launch_if_prepared, replant_failed}
use Rattle.debug_spec.specs.Commands.{heard_by, item, item_launched}
use Rattle.debug_spec.specs.Replay.{steps_for, end_now, ended_if, settled, over}
use Rattle.debug_spec.specs.Schedule.{Note, bytes, line_end_note, line_fault, too_long, halted, Session, heard_all, IsHeard, line_ended}
use Rattle.debug_spec.specs.Schedule.{is_awaited, IsHalted, Takes, IsSchedule}
use Rattle.debug_spec.specs.SessionLaws.{IsFit, IsInMode, IsSound, Moves, LeavesProgram, is_closed, ReplaysClose, SchedulesLeaveProgram}
use Rattle.debug_spec.specs.SessionLaws.{ItemsSettle}
use Rattle.debug_spec.proofs.PageLemmas.{leads-onward}
use Rattle.debug_spec.proofs.Soundness.{at, moves-none, moves-onward}
use Rattle.debug_spec.proofs.Moving.{moves-item_launched, moves-line_end, moves-ended, opened_is_sound}

-- a run is neither prepared nor to be left: so it is between two items
abbrev Rests : Mode → Type 0
Rests stopped = ⊤
Rests (launching number) = ⊥
Rests running = ⊤
Rests programming = ⊤
Rests leaving = ⊥
Rests (closed restored) = ⊤

-- no run is prepared
abbrev IsDecided : Mode → Type 0
IsDecided stopped = ⊤
IsDecided (launching number) = ⊥
IsDecided running = ⊤
IsDecided programming = ⊤
IsDecided leaving = ⊤
IsDecided (closed restored) = ⊤

-- the launch of a prepared run, told whether it was made
abbrev launch_ok : Bool → ℕ → Debugger → Debugger
launch_ok b number s = elim b [
  | true ↦ replied number okay (record s { mode = running; device = (launched s.device).device; launches = suc s.launches })
  | false ↦ replied number (refused Failed) (record s { mode = stopped; device = (launched s.device).device; run_to = None })
]

decided-launch : (m : Mode) (s : Debugger) → IsDecided (launch_if_prepared (at m s)).mode
decided-launch stopped s = tt
decided-launch (launching number) s = by_ok (launched s.device).ok
  where
    by_ok : (b : Bool) → IsDecided (launch_ok b number (at (launching number) s)).mode
    by_ok true = tt
    by_ok false = tt
decided-launch running s = tt
decided-launch programming s = tt
decided-launch leaving s = tt
decided-launch (closed done) s = tt

-- an item, told whether the debugger listens; an end, told whether one comes by itself and whether a stop was asked for
abbrev listening : Bool → Bool → Chip → Heard → Debugger → Debugger
listening b planted part heard s = elim b [ true ↦ launch_if_prepared (heard_by planted part heard s) | false ↦ s ]

abbrev pub end_by_ask : Option End → Bool → ℕ → Option End
end_by_ask o b steps = elim o [ Some e ↦ Some e | None ↦ elim b [ true ↦ Some (record { steps = steps; cause = forced }) | false ↦ None ] ]

decided-item : (planted : Bool) (part : Chip) (heard : Heard) (s : Debugger) → IsDecided s.mode →
    IsDecided (item_launched planted part heard s).mode
decided-item planted part heard s decided = by_listens (listens s.mode)
  where
    by_listens : (b : Bool) → IsDecided (listening b planted part heard s).mode
    by_listens true = let t = heard_by planted part heard s in decided-launch t.mode t
    by_listens false = decided

decided-rests : (m : Mode) → Rests m → IsDecided m
decided-rests stopped h = tt
decided-rests (launching number) h = h
decided-rests running h = tt
decided-rests programming h = tt
decided-rests leaving h = tt
decided-rests (closed done) h = tt

module _ (planted : Bool) (part : Chip) (stops : List ℕ) where
  moves-ended_if : (o : Option End) (m : Mode) (s : Debugger) → Moves part (at m s) (ended_if planted part o (at m s))
  moves-ended_if None m s = moves-none part (at m s)
  moves-ended_if (Some e) m s = moves-ended part planted e m s

  pub moves-settled : (m : Mode) (s : Debugger) → Moves part (at m s) (settled planted part stops (at m s))
  moves-settled stopped s = moves-none part (at stopped s)
  moves-settled (launching number) s = moves-none part (at (launching number) s)
  moves-settled running s = moves-ended_if (end_now planted part (steps_for stops s.launches) (at running s)) running s
  moves-settled programming s = moves-none part (at programming s)
  moves-settled leaving s = moves-ended_if (end_now planted part (steps_for stops s.launches) (at leaving s)) leaving s
  moves-settled (closed done) s = moves-none part (at (closed done) s)

  pub moves-over : (heard : List Heard) (s : Debugger) → Moves part s (over planted part stops heard s)
  moves-over [] s = moves-none part s
  moves-over (one ∷ heard) s =
      let t = item_launched planted part one s in
      let u = settled planted part stops t in
      moves-onward part s u (over planted part stops heard u)
      (moves-onward part s t u (moves-item_launched part planted one s) (moves-settled t.mode t)) (moves-over heard u)

  -- a run that is to be left ends, since a stop was asked for
  closes-left : (s : Debugger) → s.stop_asked ≡ true → is_closed (settled planted part stops (at leaving s)).mode ≡ true
  closes-left s asked =
      by_end (end_within part (run_out planted (at leaving s)) (replant_failed (at leaving s)) (steps_for stops s.launches)) s.stop_asked
      asked
    where
      by_end : (o : Option End) (b : Bool) → b ≡ true →
          is_closed (ended_if planted part (end_by_ask o b (steps_for stops s.launches)) (at leaving s)).mode ≡ true
      by_end (Some e) b h = refl
      by_end None true h = refl
      by_end None false h = absurd (true≢false (sym h))

  rests-closed : (m : Mode) → is_closed m ≡ true → Rests m
  rests-closed stopped h = tt
  rests-closed (launching number) h = absurd (true≢false (sym h))
  rests-closed running h = tt
  rests-closed programming h = tt
  rests-closed leaving h = absurd (true≢false (sym h))
  rests-closed (closed done) h = tt

  rests-settled : (m : Mode) (s : Debugger) → IsDecided m → IsSound part (at m s) → Rests (settled planted part stops (at m s)).mode
  rests-settled stopped s decided sound = tt
  rests-settled (launching number) s decided sound = decided
  rests-settled running s decided sound = by_end (end_now planted part (steps_for stops s.launches) (at running s))
    where
      by_end : (o : Option End) → Rests (ended_if planted part o (at running s)).mode
      by_end None = tt
      by_end (Some e) = tt
  rests-settled programming s decided sound = tt
  rests-settled leaving s decided sound = rests-closed (settled planted part stops (at leaving s)).mode (closes-left s sound.in_mode.1)
  rests-settled (closed done) s decided sound = tt

  rests-over : (heard : List Heard) (s : Debugger) → Rests s.mode → IsSound part s → Rests (over planted part stops heard s).mode
  rests-over [] s rests sound = rests
  rests-over (one ∷ heard) s rests sound =
      let t = item_launched planted part one s in
      let u = settled planted part stops t in
      let sound_t = (moves-item_launched part planted one s).sound sound in
      rests-over heard u (rests-settled t.mode t (decided-item planted part one s (decided-rests s.mode rests)) sound_t)
      ((moves-settled t.mode t).sound sound_t)

  closes : (held : List ℕ) (m : Mode) (s : Debugger) → Rests m →
      is_closed (settled planted part stops (line_end part held (at m s))).mode ≡ true
  closes held stopped s rests = refl
  closes held (launching number) s rests = absurd rests
  closes held running s rests = closes-left (line_end part held (at running s)) refl
  closes held programming s rests = refl
  closes held leaving s rests = absurd rests
  closes held (closed done) s rests = refl

-- a closed session leaves the program where its restore did not fail
pub leaves-program : (part : Chip) (prog : List ℕ) (device : Device) (s : Debugger) → length prog ≡ words_of part → IsFit part device →
    Moves part (opened part prog device) s → LeavesProgram device s
leaves-program part prog device s full fit moved = record {
  leads = leads-onward device (opened part prog device).device s.device (opened_is_sound part prog device full fit).1 moved.leads;
  restored = λ e. subst (λ (m : Mode). IsInMode m s) e (moved.sound (opened_is_sound part prog device full fit).0).in_mode refl;
}

pub replays_close : ReplaysClose
replays_close planted part stops prog device heard held full fit =
    let start = opened part prog device in
    let sound = (opened_is_sound part prog device full fit).0 in
    let t = over planted part stops heard start in
    let u = line_end part held t in (
      closes planted part stops held t.mode t (rests-over planted part stops heard start tt sound),
      leaves-program part prog device (settled planted part stops u) full fit
          (moves-onward part start u (settled planted part stops u)
          (moves-onward part start t u (moves-over planted part stops heard start) (moves-line_end part held t.mode t))
          (moves-settled planted part stops u.mode u)),
    )

-- one fact or another, by a test
abbrev pub EitherBy : Bool → Type 0 → Type 0 → Type 0
EitherBy b P Q = elim b [ true ↦ P | false ↦ Q ]

module _ (planted : Bool) (part : Chip) where
  pub moves-heard_all : (heard : List Heard) (s : Debugger) → Moves part s (heard_all planted part heard s)
  moves-heard_all [] s = moves-none part s
  moves-heard_all (one ∷ heard) s =
      let t = item_launched planted part one s in
      moves-onward part s t (heard_all planted part heard t) (moves-item_launched part planted one s) (moves-heard_all heard t)

  moves-same : (s t : Debugger) → t ≡ s → Moves part s t
  moves-same s t e = subst (λ (u : Debugger). Moves part s u) (sym e) (moves-none part s)

  moves-chunk : (chunk : List ℕ) (before after : Session) (b : Bool) →
      EitherBy b (IsHeard planted part chunk before after) (after ≡ before) →
      Moves part before.state after.state
  moves-chunk chunk before after true h =
      subst (λ (u : Debugger). Moves part before.state u) (sym h.state) (moves-heard_all h.heard before.state)
  moves-chunk chunk before after false h = moves-same before.state after.state (ap (λ (x : Session). x.state) h)

  moves-line : (before after : Session) → after ≡ line_ended part before → Moves part before.state after.state
  moves-line before after h =
      subst (λ (u : Debugger). Moves part before.state u) (sym (ap (λ (x : Session). x.state) h))
      (moves-line_end part before.held before.state.mode before.state)

  moves-halted : (before after : Session) (b : Bool) → EitherBy b (IsHalted planted part before after) (after ≡ before) →
      Moves part before.state after.state
  moves-halted before after true h =
      subst (λ (u : Debugger). Moves part before.state u) (sym (ap (λ (x : Session). x.state) h.is))
      (moves-ended part planted h.end before.state.mode before.state)
  moves-halted before after false h = moves-same before.state after.state (ap (λ (x : Session). x.state) h)

  pub moves-note : (note : Note) (before after : Session) → Takes planted part note before after → Moves part before.state after.state
  moves-note (bytes chunk) before after h = moves-chunk chunk before after (listens before.state.mode) h
  moves-note line_end_note before after h = moves-line before after h
  moves-note line_fault before after h = moves-line before after h
  moves-note too_long before after h = moves-line before after h
  moves-note (halted launch) before after h = moves-halted before after (is_awaited launch before) h

  pub moves-schedule : (notes : List Note) (before after : Session) → IsSchedule planted part notes before after →
      Moves part before.state after.state
  moves-schedule [] before after h = moves-same before.state after.state (ap (λ (x : Session). x.state) h)
  moves-schedule (note ∷ notes) before after h =
      moves-onward part before.state (h.0).state after.state (moves-note note before h.0 h.1) (moves-schedule notes h.0 after h.2)

pub schedules_leave_program : SchedulesLeaveProgram
schedules_leave_program planted part prog device notes after full fit schedule =
    leaves-program part prog device after.state full fit
    (moves-schedule planted part notes (record { held = []; state = opened part prog device }) after schedule)

-- what happens between two items, and an item with its launch
module _ (planted : Bool) (part : Chip) where
  in_two : (heard : Heard) (m : Mode) (s : Debugger) → ((number : ℕ) → m ≡ launching number → ⊥) →
      item_launched planted part heard (at m s) ≡ launch_if_prepared (item planted part heard (at m s))
  in_two heard stopped s decided = refl
  in_two heard (launching number) s decided = absurd (decided number refl)
  in_two heard running s decided = refl
  in_two heard programming s decided = refl
  in_two heard leaving s decided = refl
  in_two heard (closed done) s decided = refl

  ended_once : (stops : List ℕ) (o : Option End) (m : Mode) (s : Debugger) → is_out m ≡ true →
      end_now planted part (steps_for stops s.launches) (at m s) ≡ o →
      settled planted part stops (ended_if planted part o (at m s)) ≡ ended_if planted part o (at m s)
  ended_once stops None stopped s out e = absurd (true≢false (sym out))
  ended_once stops None (launching number) s out e = absurd (true≢false (sym out))
  ended_once stops None running s out e = ap (λ (o : Option End). ended_if planted part o (at running s)) e
  ended_once stops None programming s out e = absurd (true≢false (sym out))
  ended_once stops None leaving s out e = ap (λ (o : Option End). ended_if planted part o (at leaving s)) e
  ended_once stops None (closed done) s out e = absurd (true≢false (sym out))
  ended_once stops (Some end) stopped s out e = absurd (true≢false (sym out))
  ended_once stops (Some end) (launching number) s out e = absurd (true≢false (sym out))
  ended_once stops (Some end) running s out e = refl
  ended_once stops (Some end) programming s out e = absurd (true≢false (sym out))
  ended_once stops (Some end) leaving s out e = refl
  ended_once stops (Some end) (closed done) s out e = absurd (true≢false (sym out))

  settled_once : (stops : List ℕ) (m : Mode) (s : Debugger) →
      settled planted part stops (settled planted part stops (at m s)) ≡ settled planted part stops (at m s)
  settled_once stops stopped s = refl
  settled_once stops (launching number) s = refl
  settled_once stops running s = ended_once stops (end_now planted part (steps_for stops s.launches) (at running s)) running s refl refl
  settled_once stops programming s = refl
  settled_once stops leaving s = ended_once stops (end_now planted part (steps_for stops s.launches) (at leaving s)) leaving s refl refl
  settled_once stops (closed done) s = refl

pub items_settle : ItemsSettle
items_settle = record {
  launched = λ planted part heard s decided. in_two planted part heard s.mode s decided;
  once = λ planted part stops s. settled_once planted part stops s.mode s;
}
