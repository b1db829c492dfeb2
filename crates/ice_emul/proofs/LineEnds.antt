-- The line ends: the session does, at once or with the run that is out.
use Rattle.std.proofs.Common.{◌≡◌, ℕ, ◌+◌, ◌%◌, ◌^◌, Bool, true, false, List, [], length, Option, Some, None, Ok, Err, is_some}
use Rattle.std.proofs.Common.{refl, sym, ap, ◌∙◌, subst, append-nil}
use Rattle.std.proofs.Math.Nat.{mod-add-mod}
use Rattle.part_spec.specs.declared.part.Part.{Part}
use Rattle.part_spec.specs.Chip.{Chip, chip_of}
use Rattle.avr_spec.specs.Kept.{kept}
use Rattle.ice_recv.specs.Received.{Received}
use Rattle.debug_spec.specs.Debugger.{Mode, stopped, launching, running, programming, leaving, closed, Debugger, listens, is_out, dropping}
use Rattle.debug_spec.specs.Device.{Device}
use Rattle.ice_base.specs.Counts.{Rose}
use Rattle.debug_spec.specs.Moved.{Flash, asked_of}
use Rattle.debug_spec.specs.Replay.{bytes_sent}
use Rattle.debug_spec.specs.Running.{restored, left_in, line_end}
use Rattle.debug_spec.specs.Schedule.{Session, Keeps, line_ended}
use Rattle.debug_spec.specs.SessionLaws.{IsSound, IsInMode}
use Rattle.debug_spec.specs.Take.{goes_on}
use Rattle.debug_spec.proofs.Moving.{events_move}
use Rattle.run_control.specs.declared.job.Job.{Job}
use Rattle.ice_answer.specs.Kept.{ToolState, kept_tool, dropping_held, takes_requests}
use Rattle.ice_answer.specs.Does.{at, IsAt}
use Rattle.ice_emul.specs.Asking.{DoesAsking}
use Rattle.ice_emul.specs.Launching.{rests}
use Rattle.ice_emul.specs.Standing.{IsLaunched, IsJob, IsHeld, StandsFor, IsSoundEmulator}
use Rattle.ice_emul.specs.Coming.{IsOver}
use Rattle.ice_emul.specs.Taking.{DoesCall, EndsLine, IsClosed, IsIdle, NextStands, NextTells, takes_line}
use Rattle.ice_emul.specs.declared.emulator.Emulator.{Emulator}
use Rattle.ice_emul.specs.declared.emulator.Next.{Next}
use Rattle.ice_emul.specs.declared.emulator.Next.TheVariants.{Idle, Answered, Launch, RaiseStop, Closed}
use Rattle.ice_emul.proofs.Home.{left_at_home}
use Rattle.ice_emul.proofs.HeardFrames.{no_fault}

-- where it is not, and the line is taken, a run is out
pub away_is_out : (m : Mode) → rests m ≡ false → takes_line m ≡ true → is_out m ≡ true
away_is_out stopped away line = cc
away_is_out (launching number) away line = cc
away_is_out running away line = refl
away_is_out programming away line = cc
away_is_out leaving away line = refl
away_is_out (closed done) away line = cc

-- where the target is at home and the line is taken, the debugger takes requests
home_listens : (m : Mode) → rests m ≡ true → takes_line m ≡ true → (listens m ≡ true) × (takes_requests m ≡ true) × (goes_on m ≡ true)
home_listens stopped home line = (refl, refl, refl)
home_listens (launching number) home line = cc
home_listens running home line = cc
home_listens programming home line = (refl, refl, refl)
home_listens leaving home line = cc
home_listens (closed done) home line = cc

-- the line ends where the debugger listens
line_end_heard : (part : Chip) (bytes : List ℕ) (s : Debugger) → listens s.mode ≡ true →
    left_in part s.mode (dropping (length bytes) s) ≡ line_end part bytes s
line_end_heard part bytes s h = by_listens (listens s.mode) h
  where
    by_listens : (b : Bool) → b ≡ true → left_in part s.mode (dropping (length bytes) s) ≡
        elim b [ true ↦ left_in part s.mode (dropping (length bytes) s) | false ↦ s ]
    by_listens true h = refl
    by_listens false h = cc

-- bytes are dropped, and the code counts them
dropped_both : (part : Part) (tool : ToolState) (s : Debugger) (behind bytes : List ℕ) → tool ≡ kept_tool part s → bytes ≡ behind →
    record tool { dropped = (tool.dropped + length behind) % 2 ^ 64 } ≡ kept_tool part (dropping (length bytes) s)
dropped_both part tool s behind bytes same holds =
    ap (λ (k : ToolState). record k { dropped = (k.dropped + length behind) % 2 ^ 64 }) same ∙
    ap (λ (d : ℕ). record (kept_tool part s) { dropped = d })
    (mod-add-mod s.dropped (2 ^ 64) (length behind) ∙ ap (λ (l : List ℕ). (s.dropped + length l) % 2 ^ 64) (sym holds))

keeps_on : (b : Bool) (behind bytes : List ℕ) → b ≡ true → Keeps b behind bytes → bytes ≡ behind
keeps_on true behind bytes h k = k
keeps_on false behind bytes h k = cc

module _ {F : Type 0} (flash : Flash F) (part_of : F → Part) where
  -- what stands for a debugger stands for its session
  pub stands_behind : (part : Part) (before sent : List ℕ) (tool : ToolState) (received : Received) (job : Job F) (t : Session) →
      IsAt part before (at tool job.core job.comparators sent) t.state → flash.words job.flash ≡ t.state.device.words →
      Keeps (goes_on t.state.mode) received.held t.held → IsSound (chip_of part) t.state →
      StandsFor flash (record { tool = tool; received = received; job = job }) t
  stands_behind part before sent tool received job t e words holds sound =
      let same : part ≡ tool.plan.part = sym (ap (λ (k : ToolState). k.plan.part) e.tool) in record {
        tool = subst (λ (p : Part). tool ≡ kept_tool p t.state) same e.tool;
        core = subst (λ (p : Part). job.core ≡ kept (chip_of p) t.state.machine) same e.core;
        comparators = e.comparators;
        words = words;
        held = holds;
        sound = subst (λ (p : Part). IsSound (chip_of p) t.state) same sound;
      }

  -- a session that the end of the line closes had no run out
  pub ended_in : (next : Next F) (before after : Mode) → is_out before ≡ false → (restored : Bool) → IsClosed restored next →
      EndsLine next before after
  ended_in next before after home true is = subst (λ (n : Next F). EndsLine n before after) (sym is) home
  ended_in next before after home false is = subst (λ (n : Next F). EndsLine n before after) (sym is) home

  -- with it something is to be done
  pub ended_some : (next : Next F) (before after : Mode) → EndsLine next before after → IsIdle next → ⊥
  ended_some Idle before after h idle = h
  ended_some Answered before after h idle = idle
  ended_some (Launch own) before after h idle = idle
  ended_some RaiseStop before after h idle = idle
  ended_some (Closed restored) before after h idle = idle

  -- and with the end of a run
  pub over_some : (next : Next F) (before after : Mode) → IsOver next before after → IsIdle next → ⊥
  over_some Idle before after h idle = h
  over_some Answered before after h idle = idle
  over_some (Launch own) before after h idle = idle
  over_some RaiseStop before after h idle = idle
  over_some (Closed restored) before after h idle = idle

  -- what is told of a closed session
  pub closed_tells : (before after : Emulator F) (job : Job F) (next : Next F) → (restored : Bool) → after.tool.mode ≡ closed restored →
      IsClosed restored next → NextTells next before after job
  closed_tells before after job next true mode tells =
      subst (λ (n : Next F). NextTells n before after job) (sym tells) mode
  closed_tells before after job next false mode tells =
      subst (λ (n : Next F). NextTells n before after job) (sym tells) mode

  -- the same with no regard to a job
  pub closed_stands : (before after : Emulator F) (next : Next F) → (restored : Bool) → after.tool.mode ≡ closed restored →
      IsClosed restored next → NextStands flash part_of next before after
  closed_stands before after next true mode tells = subst (λ (n : Next F). NextStands flash part_of n before after) (sym tells) mode
  closed_stands before after next false mode tells = subst (λ (n : Next F). NextStands flash part_of n before after) (sym tells) mode

  -- a fault has its cause
  pub closed_rose : (next : Next F) (m : Mode) (from to : F) → (restored : Bool) → m ≡ closed restored → IsClosed restored next →
      (m ≡ closed false → Rose (flash.faults from) (flash.faults to)) → next ≡ Closed (Err (record {})) → Rose (flash.faults from) (flash.faults to)
  closed_rose next m from to true mode tells rose faulty = absurd (no_fault flash part_of (Closed (Ok tt)) tt (sym tells ∙ faulty))
  closed_rose next m from to false mode tells rose faulty = rose mode

  -- nothing is held once the session is closed
  pub closed_keeps : (m : Mode) (restored : Bool) (behind : List ℕ) → m ≡ closed restored → Keeps (goes_on m) behind []
  closed_keeps m restored behind h = subst (λ (n : Mode). Keeps (goes_on n) behind []) (sym h) refl

  module _ (e : Emulator F) (now : ToolState) where
    abbrev counted : ToolState
    counted = dropping_held (listens e.tool.mode) (length e.receiver.held) e.tool

    same_part : (b : Bool) → (dropping_held b (length e.receiver.held) e.tool).plan.part ≡ e.tool.plan.part
    same_part true = refl
    same_part false = refl

    -- the session ends at once
    ended_here : (own after : Job F) (next : Next F) → rests e.tool.mode ≡ true → takes_line e.tool.mode ≡ true →
        DoesAsking flash (λ part. restored part) (at counted own.core own.comparators []) own.flash
        (at now after.core after.comparators []) after.flash →
        now ≡ record counted { mode = now.mode } → (restored : Bool) → now.mode ≡ closed restored → IsClosed restored next →
        e.target ≡ Some own →
        DoesCall flash part_of (λ s t. t ≡ line_ended (chip_of e.tool.plan.part) s) e own [] next
        (record { receiver = e.receiver; tool = now; target = Some after })
    ended_here own after next home line does rest restored_so mode tells target =
        let part : Part = e.tool.plan.part in
        let hears = home_listens e.tool.mode home line in
        let asking = subst (λ (b : Bool). DoesAsking flash (λ part. restored part)
        (at (dropping_held b (length e.receiver.held) e.tool) own.core own.comparators []) own.flash
        (at now after.core after.comparators []) after.flash) hears.0 does in record {
          now = after;
          is = refl;
          tells = closed_tells e (record { receiver = e.receiver; tool = now; target = Some after }) after next restored_so mode tells;
          stays = λ away gone. cc;
          mute = λ away gone. cc;
          part = ap (λ (k : ToolState). k.plan.part) rest ∙ same_part (listens e.tool.mode);
          asks = asking.asks;
          same_asks = refl;
          carries = record {
            asks = asking.asks;
            moved = asking.moved;
            leads = λ s left stands answered.
                let same : e.tool.mode ≡ s.state.mode = ap (λ (k : ToolState). k.mode) stands.tool in
                let chip : Chip = chip_of part in
                let holds : s.held ≡ e.receiver.held = keeps_on (goes_on s.state.mode) e.receiver.held s.held
                (ap goes_on (sym same) ∙ hears.2) stands.held in
                let one = asking.leads part (bytes_sent s.state) (dropping (length s.held) s.state) left (record {
                  tool = dropped_both part e.tool s.state e.receiver.held s.held stands.tool holds;
                  core = stands.core;
                  comparators = stands.comparators;
                  sent = sym (append-nil (bytes_sent s.state));
                }) stands.words answered in
                let is : restored chip (dropping (length s.held) s.state) ≡ line_end chip s.held s.state =
                left_at_home chip s.state.mode (dropping (length s.held) s.state) (ap takes_requests (sym same) ∙ hears.1) ∙
                line_end_heard chip s.held s.state (ap listens (sym same) ∙ hears.0) in
                let P : Debugger → Type 0 = λ t. IsAt part (bytes_sent s.state) (at now after.core after.comparators []) t ×
                (t.device ≡ asked_of s.state.device (flash.words after.flash) asking.asks left) × (t.launches ≡ s.state.launches) in
                let two : P (line_end chip s.held s.state) = subst P is one in (
                  line_ended chip s,
                  (refl, two.2, ap (λ (d : Device). d.asked) two.1),
                  stands_behind part (bytes_sent s.state) [] now e.receiver after (line_ended chip s) two.0
                      (ap (λ (d : Device). d.words) (sym two.1))
                      (closed_keeps (line_end chip s.held s.state).mode restored_so e.receiver.held
                      (sym (ap (λ (k : ToolState). k.mode) two.0.tool) ∙ mode))
                      ((events_move.line_end chip s.held s.state).sound stands.sound),
                  ap (λ (d : Device). d.outcomes) two.1,
                  two.0.sent,
                );
          };
        }

    -- the tool of a session that ends with the run that is out
    abbrev leaves_by : Bool → ToolState
    leaves_by b = record (dropping_held b (length e.receiver.held) e.tool) { mode = leaving; stop_asked = true }

    launched_by : (b : Bool) (job : Job F) → IsLaunched part_of e.tool job → IsLaunched part_of (leaves_by b) job
    launched_by true job l = record { flash = l.flash; core = l.core; fresh = l.fresh; replant = l.replant }
    launched_by false job l = record { flash = l.flash; core = l.core; fresh = l.fresh; replant = l.replant }

    part_by : (b : Bool) → (leaves_by b).plan.part ≡ e.tool.plan.part
    part_by true = refl
    part_by false = refl

    -- the debugger does the same
    record Leaves (part : Part) (b : Bool) (s t : Debugger) : Type 0 where
      tool : leaves_by b ≡ kept_tool part t
      mode : t.mode ≡ leaving
      machine : s.machine ≡ t.machine
      comparators : s.comparators ≡ t.comparators
      device : t.device ≡ s.device
      launches : t.launches ≡ s.launches
      sent : bytes_sent t ≡ bytes_sent s

    leaves : (part : Part) (bytes : List ℕ) (m : Mode) (s : Debugger) → rests m ≡ false → takes_line m ≡ true →
        Keeps (goes_on m) e.receiver.held bytes → IsInMode m s → e.tool ≡ kept_tool part (record s { mode = m }) →
        Leaves part (listens m) s (line_end (chip_of part) bytes (record s { mode = m }))
    leaves part bytes stopped s away line holds sound same = cc
    leaves part bytes (launching number) s away line holds sound same = cc
    leaves part bytes running s away line holds sound same = record {
      tool = ap (λ (k : ToolState). record k { mode = leaving; stop_asked = true })
          (dropped_both part e.tool (record s { mode = running }) e.receiver.held bytes same holds);
      mode = refl;
      machine = refl;
      comparators = refl;
      device = refl;
      launches = refl;
      sent = refl;
    }
    leaves part bytes programming s away line holds sound same = cc
    leaves part bytes leaving s away line holds sound same = record {
      tool = ap (λ (k : ToolState). record k { mode = leaving; stop_asked = true }) same ∙
          ap (λ (b : Bool). record (kept_tool part (record s { mode = leaving })) { stop_asked = b }) (sym sound.1);
      mode = refl;
      machine = refl;
      comparators = refl;
      device = refl;
      launches = refl;
      sent = refl;
    }
    leaves part bytes (closed done) s away line holds sound same = cc

    left_so : (job : Job F) → rests e.tool.mode ≡ false → takes_line e.tool.mode ≡ true → IsLaunched part_of e.tool job →
        DoesCall flash part_of (λ s t. t ≡ line_ended (chip_of e.tool.plan.part) s) e job [] RaiseStop
        (record { receiver = e.receiver; tool = leaves_by (listens e.tool.mode); target = None })
    left_so job away line launched = let part : Part = e.tool.plan.part in record {
      now = job;
      is = launched_by (listens e.tool.mode) job launched;
      tells = (refl, refl);
      stays = λ gone stays. refl;
      mute = λ gone stays. refl;
      part = part_by (listens e.tool.mode);
      asks = [];
      same_asks = refl;
      carries = record {
        asks = [];
        moved = refl;
        leads = λ s left stands answered.
            let same : e.tool.mode ≡ s.state.mode = ap (λ (k : ToolState). k.mode) stands.tool in
            let chip : Chip = chip_of part in
            let after : Session = line_ended chip s in
            let goes = leaves part s.held s.state.mode s.state (ap rests (sym same) ∙ away) (ap takes_line (sym same) ∙ line)
            stands.held stands.sound.in_mode stands.tool in (
              after,
              (refl, goes.launches, ap (λ (d : Device). d.asked) goes.device ∙ sym (append-nil s.state.device.asked)),
              stands_behind part (bytes_sent s.state) [] (leaves_by (listens e.tool.mode)) e.receiver job after (record {
                tool = ap (λ (m : Mode). leaves_by (listens m)) same ∙ goes.tool;
                core = stands.core ∙ ap (kept chip) goes.machine;
                comparators = stands.comparators ∙ goes.comparators;
                sent = goes.sent ∙ sym (append-nil (bytes_sent s.state));
              })
                  (stands.words ∙ ap (λ (d : Device). d.words) (sym goes.device))
                  (subst (λ (m : Mode). Keeps (goes_on m) e.receiver.held []) (sym goes.mode) refl)
                  ((events_move.line_end chip s.held s.state).sound stands.sound),
              ap (λ (d : Device). d.outcomes) goes.device ∙ answered,
              goes.sent ∙ sym (append-nil (bytes_sent s.state)),
            );
      };
    }

    -- what the code keeps once the bytes held are dropped
    module _ (between : ToolState) (count : ℕ) (drops : between ≡ dropping_held (listens e.tool.mode) count e.tool)
        (all : count ≡ length e.receiver.held) where
      between_is : between ≡ counted
      between_is = drops ∙ ap (λ (n : ℕ). dropping_held (listens e.tool.mode) n e.tool) all

      -- the session ends with the run that is out
      pub left_away : (job : Job F) (gone : Option (Job F)) → IsSoundEmulator part_of e → takes_line e.tool.mode ≡ true →
          IsHeld part_of e job → now ≡ record between { mode = leaving; stop_asked = true } → e.target ≡ None → gone ≡ None →
          DoesCall flash part_of (λ s t. t ≡ line_ended (chip_of e.tool.plan.part) s) e job [] RaiseStop
          (record { receiver = e.receiver; tool = now; target = gone })
      left_away job gone sound line is becomes target out =
          let launched : IsLaunched part_of e.tool job = subst (λ (o : Option (Job F)). IsJob part_of o e.tool job) target is in
          let away : rests e.tool.mode ≡ false = sym sound.here ∙ ap is_some target in
          let leaves : now ≡ leaves_by (listens e.tool.mode) =
          becomes ∙ ap (λ (k : ToolState). record k { mode = leaving; stop_asked = true }) between_is in
          subst (λ (k : ToolState). DoesCall flash part_of (λ s t. t ≡ line_ended (chip_of e.tool.plan.part) s) e job [] RaiseStop
          (record { receiver = e.receiver; tool = k; target = gone })) (sym leaves)
          (subst (λ (o : Option (Job F)). DoesCall flash part_of (λ s t. t ≡ line_ended (chip_of e.tool.plan.part) s) e job [] RaiseStop
          (record { receiver = e.receiver; tool = leaves_by (listens e.tool.mode); target = o })) (sym out)
          (left_so job away line launched))

      -- or at once
      pub ended_home : (own job after : Job F) (next : Next F) → IsSoundEmulator part_of e → takes_line e.tool.mode ≡ true →
          DoesAsking flash (λ part. restored part) (at between own.core own.comparators []) own.flash
          (at now after.core after.comparators []) after.flash →
          now ≡ record between { mode = now.mode } → (restored : Bool) × (now.mode ≡ closed restored) →
          ((restored : Bool) → now.mode ≡ closed restored → IsClosed restored next) → e.target ≡ Some own → IsHeld part_of e job →
          DoesCall flash part_of (λ s t. t ≡ line_ended (chip_of e.tool.plan.part) s) e job [] next
          (record { receiver = e.receiver; tool = now; target = Some after })
      ended_home own job after next sound line does rest shut tells target is =
          let home : rests e.tool.mode ≡ true = sym sound.here ∙ ap is_some target in
          let same : job ≡ own = subst (λ (o : Option (Job F)). IsJob part_of o e.tool job) target is in
          subst (λ (j : Job F). DoesCall flash part_of (λ s t. t ≡ line_ended (chip_of e.tool.plan.part) s) e j [] next
          (record { receiver = e.receiver; tool = now; target = Some after })) (sym same)
          (ended_here own after next home line
          (subst (λ (k : ToolState). DoesAsking flash (λ part. restored part) (at k own.core own.comparators []) own.flash
          (at now after.core after.comparators []) after.flash) between_is does)
          (rest ∙ ap (λ (k : ToolState). record k { mode = now.mode }) between_is) shut.0 shut.1 (tells shut.0 shut.1) target)
