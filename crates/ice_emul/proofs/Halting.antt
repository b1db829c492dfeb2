-- A run that is out has ended: the job that comes back has gone through the run that is out, to an end that it may have.
use Rattle.std.proofs.Common.{◌≡◌, ℕ, zero, suc, ◌<◌, ◌/◌, ◌++◌, ◌&&◌, not, Bool, true, false, List, [], Option, Some, None, is_some}
use Rattle.std.proofs.Common.{if◌then◌else◌}
use Rattle.std.proofs.Common.{refl, sym, ap, ap₂, ◌∙◌, subst, append-nil, append_assoc, arith}
use Rattle.std.specs.Prelude.{MatchOption}
use Rattle.part_spec.specs.declared.part.Part.{Part}
use Rattle.part_spec.specs.Chip.{Chip, chip_of, page_words}
use Rattle.part_spec.specs.Pages.{page_of}
use Rattle.avr_spec.specs.Machine.{Machine}
use Rattle.avr_spec.specs.Kept.{Kept, kept}
use Rattle.avr_spec.specs.Step.{ahead}
use Rattle.line_spec.specs.Messages.{event_body, break_at}
use Rattle.line_spec.specs.Hearing.{event_number}
use Rattle.debug_spec.specs.Patch.{has, patch}
use Rattle.debug_spec.specs.Stop.{Cause, cause_code, breakpoint, own_break, undefined, failed_write, forced}
use Rattle.debug_spec.specs.Run.{Run, End, after, is_undefined, IsTestedEnd, IsEnd, natural_end, end_within}
use Rattle.debug_spec.specs.RunLaws.{named_cause}
use Rattle.debug_spec.specs.Device.{Outcome, Asked, Device, Tried, untouched, replanted}
use Rattle.debug_spec.specs.PageLaws.{AreAnswered}
use Rattle.debug_spec.specs.Moved.{Flash, Moved, asked_of}
use Rattle.debug_spec.specs.Debugger.{Mode, stopped, launching, running, programming, leaving, closed, Debugger, is_out, listens}
use Rattle.debug_spec.specs.Debugger.{targets, targets_by, run_out, told}
use Rattle.debug_spec.specs.DeviceRuns.{device_run, named_end, named_end_if, IsDeviceRun}
use Rattle.debug_spec.specs.Replay.{bytes_sent}
use Rattle.debug_spec.specs.Running.{replant, replant_failed, device_after, stopped_at, restored, ended_in, run_ended, MayEnd}
use Rattle.debug_spec.specs.Schedule.{Session, Keeps, IsHalted}
use Rattle.debug_spec.specs.SessionLaws.{IsSound}
use Rattle.debug_spec.specs.Take.{goes_on}
use Rattle.debug_spec.proofs.DeviceRunLemmas.{device_makes_runs}
use Rattle.debug_spec.proofs.RunEnds.{early_or, forced_by, natural_end_is_first, end_by_is_an_end}
use Rattle.debug_spec.proofs.MovedLemmas.{flash_moves, answers_go_on}
use Rattle.debug_spec.proofs.Moving.{events_move}
use Rattle.flash_patch.specs.Asking.{Asks}
use Rattle.flash_patch.specs.State.{PlanState}
use Rattle.run_control.specs.Ends.{EndsJob, EndsWithin, GoesThrough, IsEndBy}
use Rattle.run_control.specs.Runs.{cause_of_halt, run_of_job, IsReplanted}
use Rattle.run_control.specs.declared.job.Halt.{Halt}
use Rattle.run_control.specs.declared.job.Halt.TheVariants.{Comparator, Word, Undefined, Forced, Single, FlashFault}
use Rattle.run_control.specs.declared.job.Job.{Job}
use Rattle.run_control.specs.declared.runner.Done.{Done}
use Rattle.ice_answer.specs.Kept.{ToolState}
use Rattle.ice_answer.specs.Does.{at, IsAt, Sends}
use Rattle.ice_emul.specs.Asking.{DoesAsking}
use Rattle.ice_emul.specs.Launching.{rests, targets_of}
use Rattle.ice_emul.specs.Standing.{IsLaunched, IsJob, IsHeld, Held, held, StandsFor, IsSoundEmulator}
use Rattle.ice_emul.specs.Taking.{DoesCall, IsClosed}
use Rattle.ice_emul.specs.Coming.{IsForRun, IsCome, ComesTo, EndsBy, Halts, DoesHalt, IsOver}
use Rattle.ice_emul.specs.declared.emulator.Emulator.{Emulator}
use Rattle.ice_emul.specs.declared.emulator.Next.{Next}
use Rattle.ice_emul.specs.declared.emulator.Next.TheVariants.{Answered}
use Rattle.ice_answer.proofs.Doing.{told_behind}
use Rattle.ice_emul.proofs.LineEnds.{stands_behind, closed_tells, closed_keeps}

-- nothing was asked of a device
asked_nothing : (d : Device) (words : List ℕ) (left : List Outcome) → words ≡ d.words → d.outcomes ≡ left → d ≡ asked_of d words [] left
asked_nothing d words left same answered =
    ap (λ (w : List ℕ). record { words = w; asked = d.asked; outcomes = d.outcomes }) (sym same) ∙
    ap (λ (o : List Outcome). record { words = words; asked = d.asked; outcomes = o }) answered ∙
    ap (λ (a : List Asked). record { words = words; asked = a; outcomes = left }) (sym (append-nil d.asked))

-- an early end or the natural one, by a number of steps
abbrev early_of : Bool → Bool → Option End
early_of b c = if b then Some (record { steps = 0; cause = undefined }) else
    if c then Some (record { steps = 1; cause = failed_write }) else None

abbrev IsByEarly : ℕ → Bool → Option End → Option End → End → Type 0
IsByEarly number by_itself early natural e = (forced_by (early_or early natural) number ≡ e) × (is_some (early_or early natural) ≡ by_itself)

-- the page write behind the first step of a run, by what is kept of the debugger
abbrev replant_under : Bool → List ℕ → List ℕ → ℕ → Device → Tried
replant_under b prog set pc d = elim b [
  | true ↦ replanted (patch prog set) pc d
  | false ↦ untouched d
]

abbrev replant_by : Bool → ToolState → ℕ → Device → Tried
replant_by b tool pc d = elim b [
  | true ↦ replanted (patch tool.plan.prog (targets_of tool)) pc d
  | false ↦ untouched d
]

abbrev replant_of : ToolState → ℕ → Device → Tried
replant_of tool pc d = replant_by (has (targets_of tool) pc) tool pc d

abbrev behind_by : Bool → ToolState → ℕ → Option (ℕ × List ℕ)
behind_by b tool pc = elim b [
  | true ↦ Some (pc / page_words, page_of (patch tool.plan.prog (targets_of tool)) (pc / page_words))
  | false ↦ None
]

some_behind : (b : Bool) (tool : ToolState) (pc : ℕ) → is_some (behind_by b tool pc) ≡ b
some_behind true tool pc = refl
some_behind false tool pc = refl

-- an end before any step is the same whatever comes behind the start
at_start : (part : Chip) (b c d : Bool) (r q : Run) (e : End) → e.steps ≡ 0 →
    MatchOption (if b then Some (record { steps = 0; cause = undefined }) else
    if c then Some (record { steps = 1; cause = failed_write }) else None) (IsTestedEnd part r e) (λ early. e ≡ early) →
    MatchOption (if b then Some (record { steps = 0; cause = undefined }) else
    if d then Some (record { steps = 1; cause = failed_write }) else None) (IsTestedEnd part q e) (λ early. e ≡ early)
at_start part true c d r q e none h = h
at_start part false true d r q e none h = absurd (omega (arith, none, ap (λ (x : End). x.steps) h))
at_start part false false d r q e none h = absurd (omega (arith, none, h.some_step))

-- an end by a number of steps is the same before any step, whatever comes behind the start
by_at_start : (part : Chip) (number : ℕ) (by_itself : Bool) (b c d : Bool) (r q : Run) (e : End) → 0 < number → e.steps ≡ 0 →
    IsByEarly number by_itself (early_of b c) (natural_end part r number) e →
    IsByEarly number by_itself (early_of b d) (natural_end part q number) e
by_at_start part number by_itself true c d r q e some none h = h
by_at_start part number by_itself false true d r q e some none h = absurd (omega (arith, none, ap (λ (x : End). x.steps) h.0))
by_at_start part number by_itself false false d r q e some none h = absurd (by_natural (natural_end part r number) refl h.0)
  where
    by_natural : (o : Option End) → natural_end part r number ≡ o → forced_by o number ≡ e → ⊥
    by_natural (Some f) is same = omega (arith, none, ap (λ (x : End). x.steps) same, ((natural_end_is_first part r number).found f is).1.some_step)
    by_natural None is same = omega (arith, none, some, ap (λ (x : End). x.steps) same)

-- the end of the device's run, named, is that of the run
named_by : (part : Chip) (s : Debugger) (number : ℕ) (by_itself : Bool) (x : End) → IsDeviceRun part s →
    IsEndBy number by_itself part (device_run s) (replant_failed s) x → EndsBy number by_itself part s (named_end part s x)
named_by part s number by_itself x makes is =
    by_found (end_within part (device_run s) (replant_failed s) number) (end_within part (run_out true s) (replant_failed s) number)
    (makes.within number) is
  where
    by_found : (o q : Option End) → q ≡ named_end_if part s o → (forced_by o number ≡ x) × (is_some o ≡ by_itself) →
        (forced_by q number ≡ named_end part s x) × (is_some q ≡ by_itself)
    by_found (Some e) q same is = (
      ap (λ (p : Option End). forced_by p number) same ∙ ap (λ (y : End). named_end part s y) is.0,
      ap (λ (p : Option End). is_some p) same ∙ is.1,
    )
    by_found None q same is = (
      ap (λ (p : Option End). forced_by p number) same ∙ ap (λ (y : End). named_end part s y) is.0,
      ap (λ (p : Option End). is_some p) same ∙ is.1,
    )

-- an end is forced only where the halt is
forced_halt : (set : List ℕ) (pc : ℕ) (h : Halt) → named_cause set pc (cause_of_halt h) ≡ forced → h ≡ Forced
forced_halt set pc Comparator same = cc
forced_halt set pc Word same = by_hit (has set pc) same
  where
    by_hit : (b : Bool) → (if b then breakpoint else own_break) ≡ forced → Word ≡ Forced
    by_hit true same = cc
    by_hit false same = cc
forced_halt set pc Undefined same = cc
forced_halt set pc Forced same = refl
forced_halt set pc Single same = cc
forced_halt set pc FlashFault same = cc

-- no target is at home while a run is out
out_away : (m : Mode) → is_out m ≡ true → rests m ≡ false
out_away stopped out = cc
out_away (launching number) out = cc
out_away running out = refl
out_away programming out = cc
out_away leaving out = refl
out_away (closed done) out = cc

is_none : {T : Type 0} (o : Option T) → is_some o ≡ false → o ≡ None
is_none None h = refl
is_none (Some x) h = cc

pub out_running : (m : Mode) → is_out m ≡ true → listens m ≡ true → m ≡ running
out_running stopped out heard = cc
out_running (launching number) out heard = cc
out_running running out heard = refl
out_running programming out heard = cc
out_running leaving out heard = cc
out_running (closed done) out heard = cc

pub out_leaving : (m : Mode) → is_out m ≡ true → listens m ≡ false → m ≡ leaving
out_leaving stopped out heard = cc
out_leaving (launching number) out heard = cc
out_leaving running out heard = cc
out_leaving programming out heard = cc
out_leaving leaving out heard = refl
out_leaving (closed done) out heard = cc

-- what an end is that a run may have, told whether it was asked for
abbrev pub MayEndThere : {F : Type 0} → Emulator F → Debugger → End → Type 0
MayEndThere e s x = MayEnd true (chip_of e.tool.plan.part) s x

abbrev AskedEnd : {F : Type 0} → (F → Part) → Emulator F → Debugger → End → Type 0
AskedEnd part_of e s x = (is_out s.mode ≡ true) × IsEnd (chip_of e.tool.plan.part) (run_out true s) (replant_failed s) x ×
    (x.cause ≡ forced → e.tool.stop_asked ≡ true)

module _ {F : Type 0} (flash : Flash F) where
  -- the page behind the first step is asked for as the book asks for it
  replants_by : (b : Bool) (tool : ToolState) (pc : ℕ) (before : F) (ok : Bool) (later : F) →
      IsReplanted flash (behind_by b tool pc) before ok later → Asks flash (λ d. replant_by b tool pc d) before ok later
  replants_by true tool pc before ok later h = h (patch tool.plan.prog (targets_of tool)) refl
  replants_by false tool pc before ok later h = record {
    asks = [];
    moved = h.1;
    leads = λ d left words answered.
        ap (λ (x : Device). record { ok = true; device = x })
        (asked_nothing d (flash.words later) left (ap flash.words h.1 ∙ words) answered) ∙
        ap (λ (b : Bool). record { ok = b; device = asked_of d (flash.words later) [] left }) (sym h.0);
  }

  module _ (part_of : F → Part) (e : Emulator F) (job : Job F) (done : Done F) (launched : IsLaunched part_of e.tool job)
      (Says : Chip → Run → Bool → End → Type 0) (ends : GoesThrough flash part_of job done Says)
      (at_once : (s : Debugger) (later : List ℕ) (b : Bool) (x : End) → x.steps ≡ 0 →
      Says (chip_of e.tool.plan.part) (record (device_run s) { later = later }) b x →
      Says (chip_of e.tool.plan.part) (device_run s) (replant_failed s) x) where
    abbrev chip : Chip
    chip = chip_of e.tool.plan.part

    abbrev end : End
    end = record { steps = ends.steps; cause = cause_of_halt done.halt }

    -- a debugger whose run the job was launched for
    record IsFor (s : Debugger) : Type 0 where
      prog : e.tool.plan.prog ≡ s.prog
      set : targets_of e.tool ≡ targets s
      core : job.core ≡ kept chip s.machine
      comparators : job.comparators ≡ s.comparators
      words : flash.words job.flash ≡ s.device.words

    -- the job's run is the run that the device makes
    replants_same : (s : Debugger) → IsFor s → is_some job.replant ≡ has (targets s) s.machine.pc
    replants_same s f =
        ap (λ (o : Option (ℕ × List ℕ)). is_some o) launched.replant ∙
        some_behind (has (targets_of e.tool) job.core.pc) e.tool job.core.pc ∙
        ap₂ (λ (l : List ℕ) (c : Kept). has l c.pc) f.set f.core

    same_run : (s : Debugger) (later words : List ℕ) → IsFor s → later ≡ words →
        run_of_job job s.machine (flash.words job.flash) later ≡ record (device_run s) { later = words }
    same_run s later words f same =
        ap₂ (λ (b : Bool) (c : List (Option ℕ)). record {
          start = s.machine;
          fresh = b;
          replants = is_some job.replant;
          first = flash.words job.flash;
          later = later;
          stops = [];
          comparators = c;
        }) launched.fresh f.comparators ∙
        ap₂ (λ (b : Bool) (w : List ℕ). record {
          start = s.machine;
          fresh = true;
          replants = b;
          first = w;
          later = later;
          stops = [];
          comparators = s.comparators;
        }) (replants_same s f) f.words ∙
        ap (λ (w : List ℕ). record (device_run s) { later = w }) same

    -- the book's page write behind the first step is the code's
    same_replant : (s : Debugger) → IsFor s → replant s ≡ replant_of e.tool job.core.pc s.device
    same_replant s f =
        ap₂ (λ (l : List ℕ) (c : Kept). replant_under (has l c.pc) s.prog l c.pc s.device) (sym f.set) (sym f.core) ∙
        ap (λ (p : List ℕ). replant_under (has (targets_of e.tool) job.core.pc) p (targets_of e.tool) job.core.pc s.device) (sym f.prog)

    -- the run that is out has come to this end
    record RunEnds (asks : List Asked) (s : Debugger) (left : List Outcome) : Type 0 where
      is_end : Says chip (device_run s) (replant_failed s) end
      core : done.job.core ≡ kept chip (after chip (device_run s) ends.steps)
      device : device_after ends.steps s ≡ asked_of s.device (flash.words done.job.flash) asks left

    record Went : Type 0 where
      asks : List Asked
      moved : Moved flash job.flash asks done.job.flash
      leads : (s : Debugger) (left : List Outcome) → IsFor s → AreAnswered s.device.outcomes asks left → RunEnds asks s left

    went_by : (n : ℕ) → ends.steps ≡ n → Went
    went_by zero z = let none = ends.none z in record {
      asks = [];
      moved = ap (λ (j : Job F). j.flash) none.0;
      leads = λ s left f answered.
          let later : List ℕ = flash.words done.job.flash in
          let run = ends.run chip s.machine f.core in
          let ended : Says chip (record (device_run s) { later = later }) (not ends.ok) end =
          subst (λ (r : Run). Says chip r (not ends.ok) end) (same_run s later later f refl) run.0 in record {
            is_end = at_once s later (not ends.ok) end z ended;
            core = ap (λ (j : Job F). j.core) none.0 ∙ f.core ∙ ap (λ (n : ℕ). kept chip (after chip (device_run s) n)) (sym z);
            device = ap (λ (n : ℕ). device_after n s) z ∙
                asked_nothing s.device later left (ap (λ (j : Job F). flash.words j.flash) none.0 ∙ f.words) answered;
          };
    }
    went_by (suc k) z =
        let some = ends.some (subst (λ (n : ℕ). 0 < n) (sym z) (omega arith)) in
        let asking = replants_by (has (targets_of e.tool) job.core.pc) e.tool job.core.pc job.flash ends.ok done.job.flash
        (subst (λ (o : Option (ℕ × List ℕ)). IsReplanted flash o job.flash ends.ok done.job.flash) launched.replant some.0) in record {
          asks = asking.asks;
          moved = asking.moved;
          leads = λ s left f answered.
              let later : List ℕ = flash.words done.job.flash in
              let run = ends.run chip s.machine f.core in
              let tried : replant s ≡ record { ok = ends.ok; device = asked_of s.device later asking.asks left } =
              same_replant s f ∙ asking.leads s.device left f.words answered in
              let same : run_of_job job s.machine (flash.words job.flash) later ≡ device_run s =
              same_run s later (replant s).device.words f (ap (λ (t : Tried). t.device.words) (sym tried)) in record {
                is_end = subst (λ (b : Bool). Says chip (device_run s) b end) (ap (λ (t : Tried). not t.ok) (sym tried))
                    (subst (λ (r : Run). Says chip r (not ends.ok) end) same run.0);
                core = run.1 ∙ ap (λ (r : Run). kept chip (after chip r ends.steps)) same;
                device = ap (λ (n : ℕ). device_after n s) z ∙ ap (λ (t : Tried). t.device) tried;
              };
        }

    went : Went
    went = went_by ends.steps refl

    -- so the job has come to the end of each run for which it was launched
    module _ (Ends : Debugger → End → Type 0)
        (name : (h : Held F) (s : Session) → h.tool.plan ≡ e.tool.plan → StandsFor flash h s → is_out s.state.mode ≡ true →
        Says chip (device_run s.state) (replant_failed s.state) end →
        IsEnd chip (device_run s.state) (replant_failed s.state) end × Ends s.state (named_end chip s.state end)) where
      came_leads : (h : Held F) → IsForRun e.tool job h → (s : Session) (left : List Outcome) → StandsFor flash h s →
          is_out s.state.mode ≡ true → AreAnswered s.state.device.outcomes went.asks left →
          IsCome flash chip done Ends went.asks s.state left
      came_leads h same s left stands out answered =
          let sound : IsSound chip s.state =
          subst (λ (p : Part). IsSound (chip_of p) s.state) (ap (λ (q : PlanState). q.part) same.plan) stands.sound in
          let is_for : IsFor s.state = record {
            prog = ap (λ (q : PlanState). q.prog) (sym same.plan) ∙ ap (λ (k : ToolState). k.plan.prog) stands.tool;
            set = ap₂ (λ (o : Option ℕ) (q : PlanState). targets_by o q.soft) (sym same.run_to) (sym same.plan) ∙
                ap (λ (k : ToolState). targets_of k) stands.tool;
            core = ap (λ (j : Job F). j.core) (sym same.job) ∙ stands.core ∙
                ap (λ (q : PlanState). kept (chip_of q.part) s.state.machine) same.plan;
            comparators = ap (λ (j : Job F). j.comparators) (sym same.job) ∙ stands.comparators;
            words = ap (λ (j : Job F). flash.words j.flash) (sym same.job) ∙ stands.words;
          } in
          let ran = went.leads s.state left is_for answered in
          let named = name h s same.plan stands out ran.is_end in
          let makes : IsDeviceRun chip s.state = device_makes_runs chip s.state sound out in record {
            end = named_end chip s.state end;
            is = named.1;
            core = ran.core ∙ ap (λ (m : Machine). kept chip m) (makes.states end named.0);
            device = ran.device;
            cause = refl;
          }

      pub came_to : (asks : List Asked) × ((h : Held F) → IsForRun e.tool job h → ComesTo flash h done Ends asks)
      came_to = (
        went.asks,
        λ h same. record {
          moved = subst (λ (j : Job F). Moved flash j.flash went.asks done.job.flash) (sym same.job) went.moved;
          comparators = ends.comparators ∙ ap (λ (j : Job F). j.comparators) (sym same.job);
          leads = λ s left stands out answered.
              subst (λ (p : Part). IsCome flash (chip_of p) done Ends went.asks s.state left) (ap (λ (q : PlanState). q.part) (sym same.plan))
              (came_leads h same s left stands out answered);
        },
      )

  -- the end of a run that is out, taken
  module _ (part_of : F → Part) (e : Emulator F) (job : Job F) (done : Done F) (out : is_out e.tool.mode ≡ true)
      (Ends : Debugger → End → Type 0) (asks : List Asked) (came : ComesTo flash (held e job) done Ends asks) where
    abbrev part_here : Chip
    part_here = chip_of e.tool.plan.part

    -- a session that the emulator stands for, whose outcomes answer what its run asked
    module _ (s : Session) (stands : StandsFor flash (held e job) s) (left : List Outcome)
        (answered : AreAnswered s.state.device.outcomes asks left) where
      out_too : is_out s.state.mode ≡ true
      out_too = ap (λ (k : ToolState). is_out k.mode) (sym stands.tool) ∙ out

      ran : IsCome flash part_here done Ends asks s.state left
      ran = came.leads s left stands out_too answered

      -- the session behind it
      abbrev behind : Session
      behind = record { held = s.held; state = run_ended true part_here ran.end s.state }

      halts : Halts Ends part_here s behind
      halts = (ran.end, ran.is, refl)

      sound_behind : IsSound part_here behind.state
      sound_behind = (events_move.end true part_here ran.end s.state).sound stands.sound

      -- the target and the device as the run leaves them
      stopped_there : (sent : List ℕ) → sent ≡ [] → IsAt e.tool.plan.part (bytes_sent s.state)
          (at e.tool done.job.core done.job.comparators sent) (stopped_at true part_here ran.end s.state)
      stopped_there sent empty = record {
        tool = stands.tool;
        core = ran.core;
        comparators = came.comparators ∙ stands.comparators;
        sent = sym (append-nil (bytes_sent s.state)) ∙ ap (λ (l : List ℕ). bytes_sent s.state ++ l) (sym empty);
      }

      -- the name of the cause
      same_cause : (pc : ℕ) → pc ≡ done.job.core.pc → named_cause (targets_of e.tool) pc (cause_of_halt done.halt) ≡ ran.end.cause
      same_cause pc here = ap₂ (λ (k : ToolState) (n : ℕ). named_cause (targets_of k) n (cause_of_halt done.halt)) stands.tool
          (here ∙ ap (λ (c : Kept). c.pc) ran.core) ∙ ran.cause

    -- the host is told
    pub told_by : (job_then : Job F) (now : ToolState) (before more : List ℕ) (pc : ℕ) (why : Cause) → listens e.tool.mode ≡ true → before ≡ [] → pc ≡ done.job.core.pc →
        why ≡ named_cause (targets_of e.tool) pc (cause_of_halt done.halt) →
        Sends event_number (event_body (break_at pc (cause_code why))) before more →
        now ≡ record e.tool { mode = stopped; run_to = None } → job_then ≡ record done.job { replant = None } →
        DoesHalt flash part_of Ends asks e job more Answered
        (record { receiver = e.receiver; tool = now; target = Some job_then })
    told_by job_then now before more pc why heard empty here is sends becomes same_job = record {
      call = record {
        now = job_then;
        is = refl;
        tells = ap (λ (k : ToolState). listens k.mode) becomes;
        stays = λ away gone. cc;
        mute = λ away gone. cc;
        part = ap (λ (k : ToolState). k.plan.part) becomes;
        asks = asks;
        same_asks = refl;
        carries = record {
          asks = asks;
          moved = subst (λ (j : Job F). Moved flash job.flash asks j.flash) (sym same_job) came.moved;
          leads = λ s left stands answered.
              let there = stopped_there s stands left answered before empty in
              let cause : why ≡ (ran s stands left answered).end.cause = is ∙ same_cause s stands left answered pc here in
              let t : Debugger = record (stopped_at true part_here (ran s stands left answered).end s.state) { mode = stopped; run_to = None } in
              let running_then : s.state.mode ≡ running =
              out_running s.state.mode (out_too s stands left answered) (ap (λ (k : ToolState). listens k.mode) (sym stands.tool) ∙ heard) in
              let goes : told why t ≡ (behind s stands left answered).state = ap (λ (c : Cause). told c t) cause ∙
              ap (λ (m : Mode). ended_in true part_here m (ran s stands left answered).end s.state) (sym running_then) in
              let one = told_behind why pc before more now done.job.core done.job.comparators here sends e.tool.plan.part
              (bytes_sent s.state) t t (
                record {
                  tool = becomes ∙ ap (λ (k : ToolState). record k { mode = stopped; run_to = None }) there.tool;
                  core = there.core;
                  comparators = there.comparators;
                  sent = there.sent;
                },
                record { device = refl; launches = refl },
              ) in
              let P : Debugger → Type 0 = λ u. IsAt e.tool.plan.part (bytes_sent s.state) (at now done.job.core done.job.comparators more) u ×
              (u.device ≡ asked_of s.state.device (flash.words done.job.flash) asks left) × (u.launches ≡ s.state.launches) ×
              (u.mode ≡ stopped) in
              let two : P (behind s stands left answered).state = subst P goes (one.0, (ran s stands left answered).device, refl, refl) in
              let holds : Keeps true e.receiver.held s.held =
              subst (λ (m : Mode). Keeps (goes_on m) e.receiver.held s.held) running_then stands.held in (
                behind s stands left answered,
                (halts s stands left answered, two.2, ap (λ (d : Device). d.asked) two.1),
                subst (λ (j : Job F). StandsFor flash (record { tool = now; received = e.receiver; job = j }) (behind s stands left answered))
                    (sym same_job)
                    (stands_behind flash part_of e.tool.plan.part (bytes_sent s.state) more now e.receiver
                    (record done.job { replant = None })
                    (behind s stands left answered) two.0 (ap (λ (d : Device). d.words) (sym two.1))
                    (subst (λ (m : Mode). Keeps (goes_on m) e.receiver.held s.held) (sym two.3) holds)
                    (sound_behind s stands left answered)),
                ap (λ (d : Device). d.outcomes) two.1,
                two.0.sent,
              );
        };
      };
      begins = ([], sym (append-nil asks));
    }

    -- the session is closed
    pub closed_by : (after : Job F) (now : ToolState) (sent : List ℕ) (next : Next F) → listens e.tool.mode ≡ false → sent ≡ [] →
        DoesAsking flash (λ part. restored part) (at e.tool done.job.core done.job.comparators sent) done.job.flash
        (at now after.core after.comparators sent) after.flash →
        now ≡ record e.tool { mode = now.mode } → (restored : Bool) × (now.mode ≡ closed restored) →
        ((restored : Bool) → now.mode ≡ closed restored → IsClosed restored next) →
        DoesHalt flash part_of Ends asks e job sent next (record { receiver = e.receiver; tool = now; target = Some after })
    closed_by after now sent next heard empty closes rest shut tells = record {
      call = record {
        now = after;
        is = refl;
        tells = closed_tells flash part_of e (record { receiver = e.receiver; tool = now; target = Some after }) after next shut.0 shut.1
            (tells shut.0 shut.1);
        stays = λ away gone. cc;
        mute = λ away gone. cc;
        part = ap (λ (k : ToolState). k.plan.part) rest;
        asks = asks ++ closes.asks;
        same_asks = refl;
        carries = record {
          asks = asks ++ closes.asks;
          moved = (flash_moves flash).onward job.flash done.job.flash after.flash asks closes.asks came.moved closes.moved;
          leads = λ s left stands answered.
              let parts = answers_go_on.back s.state.device.outcomes left asks closes.asks answered in
              let there = stopped_there s stands parts.0 parts.1 sent empty in
              let t : Debugger = stopped_at true part_here (ran s stands parts.0 parts.1).end s.state in
              let leaving_then : s.state.mode ≡ leaving =
              out_leaving s.state.mode (out_too s stands parts.0 parts.1) (ap (λ (k : ToolState). listens k.mode) (sym stands.tool) ∙ heard) in
              let goes : restored part_here t ≡ (behind s stands parts.0 parts.1).state =
              ap (λ (m : Mode). ended_in true part_here m (ran s stands parts.0 parts.1).end s.state) (sym leaving_then) in
              let one = closes.leads e.tool.plan.part (bytes_sent s.state) t left there (ap (λ (d : Device). d.words) (sym (ran s stands parts.0 parts.1).device))
              (subst (λ (d : Device). AreAnswered d.outcomes closes.asks left) (sym (ran s stands parts.0 parts.1).device) parts.2) in
              let P : Debugger → Type 0 = λ u. IsAt e.tool.plan.part (bytes_sent s.state) (at now after.core after.comparators sent) u ×
              (flash.words after.flash ≡ u.device.words) × (u.device.outcomes ≡ left) × (u.launches ≡ s.state.launches) ×
              (u.device.asked ≡ s.state.device.asked ++ (asks ++ closes.asks)) in
              let two : P (behind s stands parts.0 parts.1).state =
              subst P goes (
                one.0,
                ap (λ (d : Device). d.words) (sym one.1),
                ap (λ (d : Device). d.outcomes) one.1,
                one.2,
                ap (λ (d : Device). d.asked) one.1 ∙
                    ap (λ (d : Device). d.asked ++ closes.asks) (ran s stands parts.0 parts.1).device ∙
                    append_assoc s.state.device.asked asks closes.asks,
              ) in
              let holds : s.held ≡ [] = subst (λ (m : Mode). Keeps (goes_on m) e.receiver.held s.held) leaving_then stands.held in (
                behind s stands parts.0 parts.1,
                (halts s stands parts.0 parts.1, two.3, two.4),
                stands_behind flash part_of e.tool.plan.part (bytes_sent s.state) sent now e.receiver after (behind s stands parts.0 parts.1) two.0
                    two.1
                    (subst (λ (l : List ℕ). Keeps (goes_on (behind s stands parts.0 parts.1).state.mode) e.receiver.held l) (sym holds)
                    (closed_keeps flash part_of (behind s stands parts.0 parts.1).state.mode shut.0 e.receiver.held
                    (sym (ap (λ (k : ToolState). k.mode) two.0.tool) ∙ shut.1)))
                    (sound_behind s stands parts.0 parts.1),
                two.2,
                two.0.sent,
              );
        };
      };
      begins = (closes.asks, refl);
    }

  -- the job of a run that is out is the one that was launched
  pub launched_out : (part_of : F → Part) (e : Emulator F) (job : Job F) → IsSoundEmulator part_of e → is_out e.tool.mode ≡ true →
      IsHeld part_of e job → IsLaunched part_of e.tool job
  launched_out part_of e job sound out is =
      subst (λ (o : Option (Job F)). IsJob part_of o e.tool job)
      (is_none e.target (sound.here ∙ out_away e.tool.mode out)) is

  -- an end that a run may have
  pub may_come : (part_of : F → Part) (e : Emulator F) (job : Job F) (done : Done F) → IsLaunched part_of e.tool job →
      EndsJob flash part_of job done → (done.halt ≡ Forced → e.tool.stop_asked ≡ true) →
      (asks : List Asked) × ComesTo flash (held e job) done (MayEndThere e) asks
  may_come part_of e job done launched ends asked =
      let chip : Chip = chip_of e.tool.plan.part in
      let x : End = record { steps = ends.steps; cause = cause_of_halt done.halt } in
      let came = came_to part_of e job done launched IsEnd ends
      (λ s later b x z h. at_start chip (is_undefined (ahead chip s.machine s.device.words)) (has (targets s) s.machine.pc && b)
      (has (targets s) s.machine.pc && replant_failed s) (record (device_run s) { later = later }) (device_run s) x z h)
      (AskedEnd part_of e)
      (λ h s plan stands out is.
      let makes : IsDeviceRun chip s.state = device_makes_runs chip s.state
      (subst (λ (p : Part). IsSound (chip_of p) s.state) (ap (λ (q : PlanState). q.part) plan) stands.sound) out in (
        is,
        (out, makes.ends x is, λ same. asked (forced_halt (targets s.state) (after chip (run_out true s.state) ends.steps).pc done.halt same)),
      )) in
      let here = came.1 (held e job) (record { job = refl; plan = refl; run_to = refl }) in (
        came.0,
        record {
          moved = here.moved;
          comparators = here.comparators;
          leads = λ s left stands out answered.
              let there = here.leads s left stands out answered in record {
                end = there.end;
                is = record {
                  out = there.is.0;
                  is_end = there.is.1;
                  asked = λ same. ap (λ (k : ToolState). k.stop_asked) (sym stands.tool) ∙ there.is.2 same;
                };
                core = there.core;
                device = there.device;
                cause = there.cause;
              };
        },
      )

  -- an end that comes within a number of steps, or is forced behind them
  pub comes_within : (part_of : F → Part) (e : Emulator F) (job : Job F) (done : Done F) (number : ℕ) (by_itself : Bool) → 0 < number →
      IsLaunched part_of e.tool job → EndsWithin flash part_of job done number by_itself →
      (asks : List Asked) × ((h : Held F) → IsForRun e.tool job h →
      ComesTo flash h done (EndsBy number by_itself (chip_of e.tool.plan.part)) asks)
  comes_within part_of e job done number by_itself some launched ends =
      let chip : Chip = chip_of e.tool.plan.part in
      came_to part_of e job done launched (IsEndBy number by_itself) ends
      (λ s later b x z h. by_at_start chip number by_itself (is_undefined (ahead chip s.machine s.device.words))
      (has (targets s) s.machine.pc && b) (has (targets s) s.machine.pc && replant_failed s) (record (device_run s) { later = later })
      (device_run s) x some z h)
      (EndsBy number by_itself chip)
      (λ h s plan stands out is.
      let makes : IsDeviceRun chip s.state = device_makes_runs chip s.state
      (subst (λ (p : Part). IsSound (chip_of p) s.state) (ap (λ (q : PlanState). q.part) plan) stands.sound) out in (
        subst (λ (x : End). IsEnd chip (device_run s.state) (replant_failed s.state) x) is.0
            (end_by_is_an_end chip (device_run s.state) (replant_failed s.state) number some),
        named_by chip s.state number by_itself (record { steps = ends.steps; cause = cause_of_halt done.halt }) makes is,
      ))

  -- which is that of a schedule
  pub halted_so : (part_of : F → Part) (e : Emulator F) (job : Job F) (asks : List Asked) (out : List ℕ) (next : Next F) (now : Emulator F) →
      DoesHalt flash part_of (MayEndThere e) asks e job out next now →
      DoesCall flash part_of (IsHalted true (chip_of e.tool.plan.part)) e job out next now
  halted_so part_of e job asks out next now h = record {
    now = h.call.now;
    is = h.call.is;
    tells = h.call.tells;
    stays = h.call.stays;
    mute = h.call.mute;
    part = h.call.part;
    asks = h.call.asks;
    same_asks = h.call.same_asks;
    carries = record {
      asks = h.call.carries.asks;
      moved = h.call.carries.moved;
      leads = λ s left stands answered.
          let t = h.call.carries.leads s left stands answered in
          (t.0, (record { end = t.1.0.0; may = t.1.0.1; is = t.1.0.2 }, t.1.1, t.1.2), t.2, t.3, t.4);
    };
  }

-- the session is closed behind the end of its run
pub closed_over : {F : Type 0} (restored : Bool) (next : Next F) (before after : Mode) → after ≡ closed restored →
    IsClosed restored next → IsOver next before after
closed_over true next before after mode is = subst (λ (n : Next _). IsOver n before after) (sym is) mode
closed_over false next before after mode is = subst (λ (n : Next _). IsOver n before after) (sym is) mode
