-- What one step does, by what is to be done behind its take.
use Rattle.std.proofs.Common.{◌≡◌, ◌≤◌, ℕ, suc, Bool, true, false, List, [], ◌∷◌, ◌++◌, Result}
use Rattle.std.proofs.Common.{refl, sym, ap, ◌∙◌, subst, append_assoc, append-nil}
use Rattle.std.specs.Prelude.{⊤, is_ok}
use Rattle.part_spec.specs.declared.part.Part.{Part}
use Rattle.part_spec.specs.Chip.{Chip, chip_of}
use Rattle.debug_spec.specs.Device.{Outcome, made, Asked, launch}
use Rattle.debug_spec.specs.PageLaws.{AreAnswered}
use Rattle.debug_spec.specs.Moved.{Flash}
use Rattle.debug_spec.specs.Debugger.{Mode, stopped, launching, running, programming, leaving, closed, Debugger, is_out, listens}
use Rattle.debug_spec.specs.Replay.{settled, steps_for, bytes_sent}
use Rattle.debug_spec.specs.Schedule.{Session}
use Rattle.debug_spec.specs.Take.{TakesFrame, TakesNone, launched_then}
use Rattle.debug_spec.specs.TakeReplays.{settled_then}
use Rattle.debug_spec.proofs.Sessions.{EitherBy}
use Rattle.debug_spec.proofs.MovedLemmas.{flash_moves, answers_go_on}
use Rattle.flash_patch.specs.declared.plan.FlashFault.{FlashFault}
use Rattle.run_control.specs.Ends.{IsSoundInline}
use Rattle.run_control.specs.declared.inline.Inline.{Inline}
use Rattle.run_control.specs.declared.job.Job.{Job}
use Rattle.ice_answer.specs.Kept.{ToolState}
use Rattle.ice_emul.specs.Standing.{IsHeld, IsSoundEmulator}
use Rattle.ice_emul.specs.Session.{Launches}
use Rattle.ice_emul.specs.Taking.{DoesCall, KeepsRun, NextStands, StaysOut, TakesBy, is_launching, TakesOne}
use Rattle.ice_emul.specs.declared.emulator.Emulator.{Emulator}
use Rattle.ice_emul.specs.declared.emulator.Next.{Next}
use Rattle.ice_emul.specs.declared.emulator.Next.TheVariants.{Idle, Answered, Launch, RaiseStop, Closed as Closes}
use Rattle.ice_replay.specs.Keeping.{Place, place, Waits, WaitsIf, IsKept, Stands}
use Rattle.ice_replay.specs.Steps.{TakesSo, IsSome, IsStoppedFor, EndsIn, IsStep, Continues, Settles, Spends, StartsBy, Starts}
use Rattle.ice_replay.specs.declared.settle.Came.{Came}
use Rattle.ice_replay.specs.declared.settle.Came.TheVariants.{Nothing, Frame, Closed}
use Rattle.ice_replay.proofs.Going.{weaker}
use Rattle.ice_replay.proofs.Quiet.{no_launch, asks_none, waits_on, quiet}
use Rattle.ice_replay.proofs.Launching.{launched_waits}
use Rattle.ice_replay.proofs.Halted.{ComesOut, IsFreed, halted}

-- a frame is taken, with its launch
pub record Took (part : Chip) (used : List ℕ) (s t : Session) : Type 0 where
  pub on : listens s.state.mode ≡ true
  pub between : Session
  pub takes : TakesFrame true part used s between
  pub is : t ≡ launched_then between

-- behind the end of a run the target is at home, and what came is a frame
pub home_then : (came : Came) (before m : Mode) → EndsIn came before m → is_out m ≡ false
home_then Nothing before m h = absurd h
home_then Frame before m h = ap is_out h.1
home_then (Closed restored) before m h = ap is_out h

-- what a take does where a frame was taken
takes_so : (came : Came) (part : Chip) (used left : List ℕ) (s t : Session) → IsSome came → TakesFrame true part used s t →
    TakesSo came part used left s t
takes_so Nothing part used left s t some f = absurd some
takes_so Frame part used left s t some f = f
takes_so (Closed restored) part used left s t some f = f

pub took_step : (came : Came) (part : Chip) (stops used left : List ℕ) → IsSome came → (s t u : Session) →
    settled true part stops s.state ≡ s.state → Took part used s t → u ≡ settled_then true part stops t → IsStep came part stops used left s u
took_step came part stops used left some s t u quiet took is = record {
  listening = took.on;
  quiet = quiet;
  between = took.between;
  takes = takes_so came part used left s took.between some took.takes;
  is = is ∙ ap (settled_then true part stops) took.is;
}

module _ {F : Type 0} (flash : Flash F) (part_of : F → Part) (e mid : Emulator F) (r : Inline F) (job : Job F) (pend : List Asked)
    (Goes : Session → Session → Type 0) (used left_over out : List ℕ) (kept : IsKept flash part_of (place e r job pend))
    (on : listens e.tool.mode ≡ true)
    (takes : (s t : Session) → Goes s t → TakesFrame true (chip_of e.tool.plan.part) used s t) where
  abbrev chip : Chip
  chip = chip_of e.tool.plan.part

  abbrev p : Place F
  p = place e r job pend

  on_s : (s : Session) → Stands flash p s → listens s.state.mode ≡ true
  on_s s stands = ap listens (sym (ap (λ (k : ToolState). k.mode) stands.stands.tool)) ∙ on

  abbrev Then : Came → Session → Session → Type 0
  Then came = IsStep came chip r.stops.items used left_over

  -- a job is launched
  module _ (own : Job F) (home : is_out e.tool.mode ≡ false) (call : DoesCall flash part_of Goes e job out (Launch own) mid)
      (okay event : List ℕ) (answered : Emulator F) (launches : Launches flash part_of mid own okay answered) where
    seen : pend ≡ []
    seen = (subst (λ (b : Bool). WaitsIf flash part_of b p) home kept.seat).seen

    its_own : Launches flash part_of mid call.now okay answered
    its_own = subst (λ (j : Job F). Launches flash part_of mid j okay answered) (sym call.tells.0) launches

    -- it waits
    pub started_waits : (now : Inline F) (later_pend : List Asked) → IsKept flash part_of (place answered now own later_pend) →
        now.launches ≡ suc r.launches → now.stops.items ≡ r.stops.items →
        Continues flash part_of (Then Frame) p (out ++ okay) answered now
    started_waits now later_pend kept_then counted stops =
        launched_waits flash part_of e mid answered r now job pend later_pend Goes used left_over out okay (Launch own) kept home on
        call.tells.1 call takes its_own
        (subst (λ (j : Job F). IsKept flash part_of (place answered now j later_pend)) (sym call.tells.0) kept_then) counted stops

    answered_out : ComesOut flash (Took chip used) p (call.carries.asks ++ launch made ∷ []) (out ++ okay) answered call.now (suc r.launches)
        true
    answered_out = record {
      moved = (flash_moves flash).onward job.flash call.now.flash call.now.flash call.carries.asks (launch made ∷ []) call.carries.moved
          (refl, refl);
      out = ap is_out its_own.mode;
      part = its_own.part ∙ call.part;
      leads = λ s left stands answers.
          let parts = answers_go_on.back s.state.device.outcomes left call.carries.asks (launch made ∷ []) answers in
          let t = call.carries.leads s parts.0 stands.stands parts.1 in
          let u = its_own.answers t.0 left t.2
          (subst (λ (o : List Outcome). AreAnswered o (launch made ∷ []) left) (sym t.3) parts.2) in (
            launched_then t.0,
            record { on = on_s s stands; between = t.0; takes = takes s t.0 t.1.0; is = refl },
            u.0,
            u.3 ∙ ap suc (t.1.1 ∙ stands.launches),
            λ late. absurd (not_late late),
            u.1,
            u.2 ∙ ap (λ (x : List ℕ). x ++ okay) t.4 ∙ append_assoc (bytes_sent s.state) out okay,
            u.4 ∙ ap (λ (l : List Asked). l ++ launch made ∷ []) (t.1.2 ∙ ap (λ (l : List Asked). s.state.device.asked ++ l) (sym call.same_asks)) ∙
                append_assoc s.state.device.asked call.carries.asks (launch made ∷ []),
          );
    }
      where
        not_late : true ≡ false → ⊥
        not_late h = cc

    -- its run has ended, and its end is taken
    pub started_ends : (came : Came) → IsSome came → (later_pend : List Asked) (after : Emulator F) (now : Inline F) →
        Settles flash part_of (steps_for r.stops.items (suc r.launches)) true later_pend answered own event after →
        IsSoundEmulator part_of after → is_out after.tool.mode ≡ false → IsFreed r now (suc r.launches) →
        Continues flash part_of (Then came) p ((out ++ okay) ++ event) after now
    started_ends came some later_pend after now settles sound home_then freed =
        let s : Settles flash part_of (steps_for r.stops.items (suc r.launches)) true later_pend answered call.now event after =
        subst (λ (j : Job F). Settles flash part_of (steps_for r.stops.items (suc r.launches)) true later_pend answered j event after)
        (sym call.tells.0) settles in
        let all = (call.carries.asks ++ launch made ∷ []) ++ s.1.call.carries.asks in
        halted flash part_of (Took chip used) (Then came) p (call.carries.asks ++ launch made ∷ []) (out ++ okay) answered call.now
        (suc r.launches) true kept answered_out later_pend event s.0 after now s.1
        (all, ap (λ (l : List Asked). l ++ all) (sym seen)) sound home_then freed
        (took_step came chip r.stops.items used left_over some)

  -- the run that is out is stopped
  module _ (call : DoesCall flash part_of Goes e job out RaiseStop mid) (sound_mid : IsSoundEmulator part_of mid)
      (out_e : is_out e.tool.mode ≡ true) (run : KeepsRun e.tool mid.tool) where
    waits : Waits flash part_of p
    waits = subst (λ (b : Bool). WaitsIf flash part_of b p) out_e kept.seat

    pub still_waits : Waits flash part_of (place mid r call.now pend)
    still_waits = waits_on flash part_of e mid r job pend Goes out RaiseStop kept.sound sound_mid call out_e call.tells.0 run waits

    stays_in : (m : Mode) → is_out m ≡ true → is_launching m ≡ false
    stays_in stopped h = refl
    stays_in (launching number) h = cc
    stays_in running h = refl
    stays_in programming h = refl
    stays_in leaving h = refl
    stays_in (closed restored) h = refl

    stopped_out : ComesOut flash (Took chip used) p call.carries.asks out mid call.now r.launches false
    stopped_out = record {
      moved = call.carries.moved;
      out = call.tells.0;
      part = call.part;
      leads = λ s left stands answers.
          let t = call.carries.leads s left stands.stands answers in
          let mode_t : mid.tool.mode ≡ t.0.state.mode = ap (λ (k : ToolState). k.mode) t.2.tool in
          let same : t.0 ≡ launched_then t.0 = ap (λ (d : Debugger). record { held = t.0.held; state = d })
          (sym (no_launch t.0.state.mode t.0.state (ap is_launching (sym mode_t) ∙ stays_in mid.tool.mode call.tells.0))) in (
            t.0,
            record { on = on_s s stands; between = t.0; takes = takes s t.0 t.1.0; is = same },
            t.2,
            t.1.1 ∙ stands.launches,
            λ late. ap (λ (k : ToolState). k.stop_asked) (sym t.2.tool) ∙ call.tells.1,
            t.3,
            t.4,
            t.1.2 ∙ ap (λ (l : List Asked). s.state.device.asked ++ l) (sym call.same_asks),
          );
    }

    pub stopped_ends : (came : Came) → IsSome came → (event : List ℕ) (after : Emulator F) (now : Inline F) →
        Settles flash part_of (steps_for r.stops.items r.launches) false pend mid call.now event after →
        IsSoundEmulator part_of after → is_out after.tool.mode ≡ false → IsFreed r now r.launches →
        Continues flash part_of (Then came) p (out ++ event) after now
    stopped_ends came some event after now s sound home_then freed =
        halted flash part_of (Took chip used) (Then came) p call.carries.asks out mid call.now r.launches false kept stopped_out pend event
        s.0 after now s.1 (
          s.1.begins.0,
          ap (λ (l : List Asked). l ++ s.1.call.carries.asks)
              (asks_none flash part_of e mid r job pend Goes out RaiseStop kept.sound sound_mid call out_e call.tells.0) ∙ s.1.begins.1,
        )
        sound home_then freed (took_step came chip r.stops.items used left_over some)

-- a step in which a frame was taken, told by what came of it
step_as : {F : Type 0} (flash : Flash F) (part_of : F → Part) (part : Chip) (stops used left : List ℕ) (came : Came) → IsSome came →
    (before : Place F) (out : List ℕ) (e : Emulator F) (r : Inline F) →
    Continues flash part_of (IsStep Frame part stops used left) before out e r →
    Continues flash part_of (IsStep came part stops used left) before out e r
step_as flash part_of part stops used left came some before out e r c = record {
  job = c.job;
  pend = c.pend;
  kept = c.kept;
  goes = weaker flash (IsStep Frame part stops used left) (IsStep came part stops used left) before (place e r c.job c.pend) out
      (λ s t h. record {
        listening = h.listening;
        quiet = h.quiet;
        between = h.between;
        takes = takes_so came part used left s h.between some h.takes;
        is = h.is;
      }) c.goes;
}

told_idle : (P Q : Type 0) (b : Bool) → b ≡ true → EitherBy b P Q → P
told_idle P Q true on h = h
told_idle P Q false on h = cc

same_bools : (a b : Bool) → (a ≡ true → b ≡ true) → (b ≡ true → a ≡ true) → a ≡ b
same_bools true b on back = sym (on refl)
same_bools false true on back = back refl
same_bools false false on back = refl

listens_on : (m : Mode) → listens m ≡ true → is_launching m ≡ false
listens_on stopped h = refl
listens_on (launching number) h = cc
listens_on running h = refl
listens_on programming h = refl
listens_on leaving h = cc
listens_on (closed restored) h = cc

-- what is sent where nothing comes behind the answer, and where an event does
pub sent_alone : (a b c : List ℕ) → b ≡ [] → c ≡ [] → a ≡ a ++ (b ++ c)
sent_alone a b c none still = sym (ap (λ (x : List ℕ). a ++ (x ++ c)) none ∙ ap (λ (x : List ℕ). a ++ x) still ∙ append-nil a)

pub sent_behind : (a b c : List ℕ) → b ≡ [] → a ++ c ≡ a ++ (b ++ c)
sent_behind a b c none = sym (ap (λ (x : List ℕ). a ++ (x ++ c)) none)

pub sent_nothing : (a b c : List ℕ) → a ≡ [] → b ≡ [] → c ≡ [] → a ++ (b ++ c) ≡ []
sent_nothing a b c none still over = sym (sent_alone a b c still over) ∙ none

pub some_not : (came : Came) → IsSome came → came ≡ Nothing → ⊥
some_not came some is = subst IsSome is some

-- a run was out ahead of it or not, whatever came of it
pub stopped_for : (came : Came) (was_out : Bool) (mode : Mode) → is_out mode ≡ was_out → IsStoppedFor came was_out mode
stopped_for Nothing was_out mode was = tt
stopped_for Frame was_out mode was = tt
stopped_for (Closed restored) was_out mode was = was

-- where a frame was taken it was taken off what was held and used
pub spends_some : {F : Type 0} (came : Came) (all used : ℕ) (before after : Emulator F) → IsSome came →
    TakesOne used before.receiver.held after.receiver.held → Spends came all used before after
spends_some Nothing all used before after some one = absurd some
spends_some Frame all used before after some one = one
spends_some (Closed restored) all used before after some one = one

module _ {F : Type 0} (flash : Flash F) (part_of : F → Part) (e mid : Emulator F) (r : Inline F) (job : Job F) (pend : List Asked)
    (next : Next F) (used left_over out okay event : List ℕ) (kept : IsKept flash part_of (place e r job pend))
    (on : listens e.tool.mode ≡ true) (sound : IsSoundEmulator part_of mid) (stands : NextStands flash part_of next e mid)
    (stays : StaysOut next e.tool.mode mid.tool.mode)
    (call : DoesCall flash part_of (TakesBy next (chip_of e.tool.plan.part) used left_over) e job out next mid) where
  abbrev its : Came → Session → Session → Type 0
  its came = IsStep came (chip_of e.tool.plan.part) r.stops.items used left_over

  abbrev all : List ℕ
  all = out ++ (okay ++ event)

  as_sent : (came : Came) → okay ≡ [] → event ≡ [] → Continues flash part_of (its came) (place e r job pend) out mid r →
      Continues flash part_of (its came) (place e r job pend) all mid r
  as_sent came none still = subst (λ (x : List ℕ). Continues flash part_of (its came) (place e r job pend) x mid r)
      (sent_alone out okay event none still)

  abbrev Stood : Next F → Type 0
  Stood n = NextStands flash part_of n e mid

  abbrev Called : Next F → Type 0
  Called n = DoesCall flash part_of (TakesBy n (chip_of e.tool.plan.part) used left_over) e job out n mid

  -- nothing is to be done
  pub idle_step : next ≡ Idle → okay ≡ [] → event ≡ [] → Continues flash part_of (its Nothing) (place e r job pend) all mid r
  idle_step is none still =
      let s : NextStands flash part_of Idle e mid = subst Stood is stands in
      as_sent Nothing none still (quiet flash part_of e mid r job pend (TakesBy {F = F} Idle (chip_of e.tool.plan.part) used left_over) Nothing used
      left_over out Idle kept sound on (listens_on mid.tool.mode (ap listens s.0 ∙ on)) (ap is_out s.0) (λ o. (s.1, s.2)) (subst Called is call)
      (λ a t on_a h. told_idle (TakesNone used left_over a t) ((left_over ≡ []) × (t ≡ a)) (listens a.state.mode) on_a h))

  -- a frame is answered
  pub answered_step : next ≡ Answered → okay ≡ [] → event ≡ [] → Continues flash part_of (its Frame) (place e r job pend) all mid r
  answered_step is none still =
      let s : NextStands flash part_of Answered e mid = subst Stood is stands in
      let o : StaysOut {F = F} Answered e.tool.mode mid.tool.mode = subst (λ (n : Next F). StaysOut n e.tool.mode mid.tool.mode) is stays in
      as_sent Frame none still (quiet flash part_of e mid r job pend (TakesBy {F = F} Answered (chip_of e.tool.plan.part) used left_over) Frame used
      left_over out Answered kept sound on (listens_on mid.tool.mode s.0)
      (same_bools (is_out mid.tool.mode) (is_out e.tool.mode) (λ h. (s.1 h).0) o) (λ h. ((s.1 h).1, (s.1 h).2)) (subst Called is call)
      (λ a t on_a h. h.1.0))

  -- the session is closed
  pub closed_step : (restored : Result ⊤ FlashFault) → next ≡ Closes restored → okay ≡ [] → event ≡ [] →
      Continues flash part_of (its (Closed restored)) (place e r job pend) all mid r
  closed_step restored is none still =
      let s : NextStands flash part_of (Closes restored) e mid = subst Stood is stands in
      let o : StaysOut {F = F} (Closes restored) e.tool.mode mid.tool.mode = subst (λ (n : Next F). StaysOut n e.tool.mode mid.tool.mode) is stays in
      as_sent (Closed restored) none still (quiet flash part_of e mid r job pend
      (TakesBy {F = F} (Closes restored) (chip_of e.tool.plan.part) used left_over) (Closed restored) used
      left_over out (Closes restored) kept sound on (ap is_launching s) (ap is_out s ∙ sym o)
      (λ h. absurd (not_closed mid.tool.mode (closed (is_ok restored)) s refl h)) (subst Called is call)
      (λ a t on_a h. h.1))
    where
      not_closed : (m n : Mode) → m ≡ n → is_out n ≡ false → is_out m ≡ true → ⊥
      not_closed m n same none out_m = absurd (no (sym none ∙ ap is_out (sym same) ∙ out_m))
        where
          no : false ≡ true → ⊥
          no h = cc

  -- a job is launched
  module _ (own : Job F) (is : next ≡ Launch own) (came : Came) (some : IsSome came) (after : Emulator F) (now : Inline F)
      (starts : Starts flash part_of mid r own okay event after now) (sound_after : IsSoundEmulator part_of after)
      (sound_now : IsSoundInline now.stops.items now.seat) (counted : now.launches ≡ suc r.launches)
      (counts : now.collects ≤ now.launches) (stops : now.stops.items ≡ r.stops.items) where
    abbrev At : Emulator F → List ℕ → Type 0
    At x sent = Continues flash part_of (its came) (place e r job pend) sent x now

    home : is_out e.tool.mode ≡ false
    home = subst (λ (n : Next F). StaysOut n e.tool.mode mid.tool.mode) is stays

    launch_takes : (s t : Session) → TakesBy {F = F} (Launch own) (chip_of e.tool.plan.part) used left_over s t →
        TakesFrame true (chip_of e.tool.plan.part) used s t
    launch_takes s t h = h.1

    started_by : (b : Bool) → StartsBy b flash part_of (steps_for r.stops.items (suc r.launches)) starts.pend starts.mid own event after now →
        At after all
    started_by true how = subst (At after) (append_assoc out okay event)
        (started_ends flash part_of e mid r job pend (TakesBy {F = F} (Launch own) (chip_of e.tool.plan.part) used left_over) used left_over out
        kept on launch_takes own home (subst Called is call) okay event starts.mid starts.answers came some starts.pend after now how.0
        sound_after how.1
        (record { sound = sound_now; free = how.2; counts = counts; launches = counted; stops = stops }))
    started_by false how =
        let q : Place F = place starts.mid now own starts.pend in
        let kept_then : IsKept flash part_of q = record {
          sound = subst (λ (x : Emulator F). IsSoundEmulator part_of x) how.0 sound_after;
          held = starts.answers.is;
          runner = sound_now;
          seat = subst (λ (b : Bool). WaitsIf flash part_of b q) (sym (ap is_out starts.answers.mode)) how.2;
        } in
        let there = started_waits flash part_of e mid r job pend
        (TakesBy {F = F} (Launch own) (chip_of e.tool.plan.part) used left_over) used left_over out kept on launch_takes own home
        (subst Called is call) okay event starts.mid starts.answers now starts.pend kept_then counted stops in
        subst (λ (x : Emulator F). At x all) (sym how.0)
        (subst (At starts.mid) (ap (λ (x : List ℕ). out ++ x) (sym (ap (λ (x : List ℕ). okay ++ x) how.1 ∙ append-nil okay)))
        (step_as flash part_of (chip_of e.tool.plan.part) r.stops.items used left_over came some (place e r job pend) (out ++ okay)
        starts.mid now there))

    pub launched_step : At after all
    launched_step = started_by starts.by_itself starts.how

  -- the run that is out is stopped
  module _ (is : next ≡ RaiseStop) (came : Came) (some : IsSome came) (after : Emulator F) (now : Inline F)
      (sound_after : IsSoundEmulator part_of after) (home_then : is_out after.tool.mode ≡ false) (freed : IsFreed r now r.launches)
      (settles : (own : Job F) → IsHeld part_of mid own → Waits flash part_of (place mid r own pend) →
      Settles flash part_of (steps_for r.stops.items r.launches) false pend mid own event after) where
    stood : NextStands flash part_of RaiseStop e mid
    stood = subst Stood is stands

    called : Called RaiseStop
    called = subst Called is call

    stop_takes : (s t : Session) → TakesBy {F = F} RaiseStop (chip_of e.tool.plan.part) used left_over s t →
        TakesFrame true (chip_of e.tool.plan.part) used s t
    stop_takes s t h = h.1.0

    pub stopped_step : okay ≡ [] → Continues flash part_of (its came) (place e r job pend) all after now
    stopped_step none = subst (λ (x : List ℕ). Continues flash part_of (its came) (place e r job pend) x after now)
        (sent_behind out okay event none)
        (stopped_ends flash part_of e mid r job pend (TakesBy {F = F} RaiseStop (chip_of e.tool.plan.part) used left_over) used left_over out
        kept on stop_takes called sound stood.2 stood.3 came some event after now
        (settles called.now called.is (still_waits flash part_of e mid r job pend
        (TakesBy {F = F} RaiseStop (chip_of e.tool.plan.part) used left_over) used left_over out kept on stop_takes called sound stood.2 stood.3))
        sound_after home_then freed)
