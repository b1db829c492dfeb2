-- A frame is heard: what is then told, and where the target is.
use Rattle.std.proofs.Common.{◌≡◌, ℕ, ◌+◌, ◌%◌, ◌^◌, true, false, List, [], Option, Some, None, Ok, Err, refl, sym, ap, ◌∙◌, subst}
use Rattle.std.proofs.Math.Nat.{mod-add-mod}
use Rattle.std.specs.Prelude.{IfSome, is_some, ⊤}
use Rattle.part_spec.specs.declared.part.Part.{Part}
use Rattle.part_spec.specs.Chip.{chip_of}
use Rattle.line_spec.specs.Frames.{Frame}
use Rattle.line_spec.specs.Cut.{whole}
use Rattle.line_spec.specs.Hearing.{Heard, Hears, request, dropped, Request}
use Rattle.ice_base.specs.Counts.{Rose}
use Rattle.debug_spec.specs.Moved.{Flash}
use Rattle.debug_spec.specs.Debugger.{Mode, stopped, launching, running, programming, leaving, closed, Debugger, listens, is_out, dropping}
use Rattle.debug_spec.specs.Commands.{answered, heard_by, item}
use Rattle.flash_patch.specs.State.{PlanState}
use Rattle.run_control.specs.declared.job.Job.{Job}
use Rattle.run_control.specs.Runs.{MayAdvance}
use Rattle.ice_answer.specs.Kept.{ToolState, kept_tool, takes_requests}
use Rattle.ice_answer.specs.Does.{at, Does}
use Rattle.ice_emul.specs.Asking.{DoesAsking}
use Rattle.ice_emul.specs.Launching.{rests, IsAtHome, page_behind}
use Rattle.ice_emul.specs.Standing.{IsLaunched, IsJob, IsHeld, IsSoundEmulator}
use Rattle.ice_emul.specs.Taking.{NextTells, GoesOnBy, StopTells, HearsFrame, ClosesFor, IsIdle, NextStands, StaysOut, armed, is_launching}
use Rattle.ice_emul.specs.declared.emulator.Emulator.{Emulator}
use Rattle.ice_emul.specs.declared.emulator.Next.{Next}
use Rattle.ice_emul.specs.declared.emulator.Next.TheVariants.{Idle, Answered, Launch, RaiseStop, Closed}
use Rattle.ice_answer.proofs.Doing.{same_does, yes_elim, in_words}
use Rattle.ice_emul.proofs.Asking.{asking_nothing, asks_nothing, same_asking}

-- what is heard while the debugger listens
as_item : (tool : ToolState) (heard : Heard) (part : Part) (s : Debugger) → listens tool.mode ≡ true → tool ≡ kept_tool part s →
    heard_by true (chip_of part) heard s ≡ item true (chip_of part) heard s
as_item tool heard part s on same =
    yes_elim (listens s.mode) (heard_by true (chip_of part) heard s) s (ap (λ (k : ToolState). listens k.mode) (sym same) ∙ on)

-- the page behind the first step of a run, by the plan and the address to which it goes
same_page : (before tool : ToolState) (start : ℕ) → tool.plan ≡ before.plan → tool.run_to ≡ before.run_to →
    page_behind before start ≡ page_behind tool start
same_page before tool start plan run_to =
    ap (λ (p : PlanState). page_behind (record before { plan = p }) start) (sym plan) ∙
    ap (λ (r : Option ℕ). page_behind (record before { plan = tool.plan; run_to = r }) start) (sym run_to)

-- a run is out exactly where the target is not at home, as far as requests are taken
not_out : (m : Mode) → takes_requests m ≡ true → is_out m ≡ true → ⊥
not_out stopped h k = cc
not_out (launching number) h k = cc
not_out running h k = cc
not_out programming h k = cc
not_out leaving h k = cc
not_out (closed restored) h k = cc

-- where the target is at home no run is out
pub home_is_in : (m : Mode) → rests m ≡ true → is_out m ≡ false
home_is_in stopped home = refl
home_is_in (launching number) home = cc
home_is_in running home = cc
home_is_in programming home = refl
home_is_in leaving home = cc
home_is_in (closed restored) home = refl

not_out_there : (m home : Mode) → m ≡ home → rests home ≡ true → is_out m ≡ true → ⊥
not_out_there m stopped is home out = not_out m (ap takes_requests is) out
not_out_there m (launching number) is home out = cc
not_out_there m running is home out = cc
not_out_there m programming is home out = not_out m (ap takes_requests is) out
not_out_there m leaving is home out = cc
not_out_there m (closed restored) is home out = cc

module _ {F : Type 0} (flash : Flash F) (part_of : F → Part) where
  -- the target's job, told where it is
  pub own_job : (target : Option (Job F)) (tool : ToolState) (own job : Job F) → target ≡ Some own → IsJob part_of target tool job → job ≡ own
  own_job target tool own job there held = subst (λ (o : Option (Job F)). IsJob part_of o tool job) there held

  pub launched_job : (target : Option (Job F)) (tool : ToolState) (job : Job F) → target ≡ None → IsJob part_of target tool job →
      IsLaunched part_of tool job
  launched_job target tool job there held = subst (λ (o : Option (Job F)). IsJob part_of o tool job) there held

  pub is_own : (target : Option (Job F)) (tool : ToolState) (own : Job F) → target ≡ Some own → IsJob part_of target tool own
  is_own target tool own there = subst (λ (o : Option (Job F)). IsJob part_of o tool own) (sym there) refl

  pub is_launched : (target : Option (Job F)) (tool : ToolState) (job : Job F) → target ≡ None → IsLaunched part_of tool job →
      IsJob part_of target tool job
  is_launched target tool job there launched = subst (λ (o : Option (Job F)). IsJob part_of o tool job) (sym there) launched

  -- an emulator with its target at home
  pub sound_at_home : (e : Emulator F) (own : Job F) → e.target ≡ Some own → rests e.tool.mode ≡ true → IsAtHome part_of e.tool own →
      (e.tool.mode ≡ programming → e.tool.plan.soft ≡ []) → IsSoundEmulator part_of e
  sound_at_home e own there rest home soft = record {
    here = ap (λ (o : Option (Job F)). is_some o) there ∙ sym rest;
    home = subst (λ (o : Option (Job F)). IfSome o (λ job. IsAtHome part_of e.tool job)) (sym there) home;
    soft = soft;
  }

  -- and one whose target is not
  pub sound_away : (e : Emulator F) → e.target ≡ None → rests e.tool.mode ≡ false → (e.tool.mode ≡ programming → e.tool.plan.soft ≡ []) →
      IsSoundEmulator part_of e
  sound_away e there rest soft = record {
    here = ap (λ (o : Option (Job F)). is_some o) there ∙ sym rest;
    home = subst (λ (o : Option (Job F)). IfSome o (λ job. IsAtHome part_of e.tool job)) (sym there) tt;
    soft = soft;
  }

  pub receiver_stays : (m : Mode) (before after : Emulator F) (own : Job F) (next : Next F) → GoesOnBy m before own next after →
      after.receiver ≡ before.receiver
  receiver_stays stopped before after own next h = ap (λ (e : Emulator F). e.receiver) h.1
  receiver_stays (launching number) before after own next h = ap (λ (e : Emulator F). e.receiver) h.1
  receiver_stays running before after own next h = absurd h
  receiver_stays programming before after own next h = ap (λ (e : Emulator F). e.receiver) h.1
  receiver_stays leaving before after own next h = absurd h
  receiver_stays (closed restored) before after own next h = ap (λ (e : Emulator F). e.receiver) h.1

  pub sound_then : (m : Mode) (before after : Emulator F) (own : Job F) (next : Next F) → before.tool.mode ≡ m → before.target ≡ Some own →
      IsAtHome part_of before.tool own → (before.tool.mode ≡ programming → before.tool.plan.soft ≡ []) → GoesOnBy m before own next after →
      IsSoundEmulator part_of after
  sound_then stopped before after own next is there home soft h =
      subst (λ (e : Emulator F). IsSoundEmulator part_of e) (sym h.1) (sound_at_home before own there (ap rests is) home soft)
  sound_then (launching number) before after own next is there home soft h =
      subst (λ (e : Emulator F). IsSoundEmulator part_of e) (sym h.1) (sound_away (record before { target = None }) refl (ap rests is) soft)
  sound_then running before after own next is there home soft h = absurd h
  sound_then programming before after own next is there home soft h =
      subst (λ (e : Emulator F). IsSoundEmulator part_of e) (sym h.1) (sound_at_home before own there (ap rests is) home soft)
  sound_then leaving before after own next is there home soft h = absurd h
  sound_then (closed restored) before after own next is there home soft h =
      subst (λ (e : Emulator F). IsSoundEmulator part_of e) (sym h.1) (sound_at_home before own there (ap rests is) home soft)

  -- what is to be done next tells where the emulator is
  pub stands_then : (m : Mode) (before middle after : Emulator F) (own : Job F) (next : Next F) → middle.tool.mode ≡ m →
      IsAtHome part_of middle.tool own →
      (is_launching middle.tool.mode ≡ true → MayAdvance flash part_of (armed middle.tool own)) → GoesOnBy m middle own next after → NextStands flash part_of next before after
  stands_then stopped before middle after own next is home may h =
      subst (λ (n : Next F). NextStands flash part_of n before after) (sym h.0) (
        ap (λ (e : Emulator F). listens e.tool.mode) h.1 ∙ ap listens is,
        λ out. absurd (not_out_there after.tool.mode stopped (ap (λ (e : Emulator F). e.tool.mode) h.1 ∙ is) refl out),
      )
  stands_then (launching number) before middle after own next is home may h =
      subst (λ (n : Next F). NextStands flash part_of n before after) (sym h.0)
      (subst (λ (e : Emulator F). NextStands flash part_of (Launch (armed middle.tool own)) before e) (sym h.1)
      (ap is_launching is, record { flash = home.flash; core = home.core; fresh = refl; replant = refl }, may (ap is_launching is)))
  stands_then running before middle after own next is home may h = absurd h
  stands_then programming before middle after own next is home may h =
      subst (λ (n : Next F). NextStands flash part_of n before after) (sym h.0) (
        ap (λ (e : Emulator F). listens e.tool.mode) h.1 ∙ ap listens is,
        λ out. absurd (not_out_there after.tool.mode programming (ap (λ (e : Emulator F). e.tool.mode) h.1 ∙ is) refl out),
      )
  stands_then leaving before middle after own next is home may h = absurd h
  stands_then (closed true) before middle after own next is home may h =
      subst (λ (n : Next F). NextStands flash part_of n before after) (sym h.0) (ap (λ (e : Emulator F). e.tool.mode) h.1 ∙ is)
  stands_then (closed false) before middle after own next is home may h =
      subst (λ (n : Next F). NextStands flash part_of n before after) (sym h.0) (ap (λ (e : Emulator F). e.tool.mode) h.1 ∙ is)

  -- something is then to be done
  pub some_then : (m : Mode) (before after : Emulator F) (own : Job F) (next : Next F) → GoesOnBy m before own next after → IsIdle next → ⊥
  some_then stopped before after own next h idle = subst (λ (n : Next F). IsIdle n) h.0 idle
  some_then (launching number) before after own next h idle = subst (λ (n : Next F). IsIdle n) h.0 idle
  some_then running before after own next h idle = absurd h
  some_then programming before after own next h idle = subst (λ (n : Next F). IsIdle n) h.0 idle
  some_then leaving before after own next h idle = absurd h
  some_then (closed true) before after own next h idle = subst (λ (n : Next F). IsIdle n) h.0 idle
  some_then (closed false) before after own next h idle = subst (λ (n : Next F). IsIdle n) h.0 idle

  -- with the target at home nothing was out
  pub stays_then : (next : Next F) (before after : Mode) → is_out before ≡ false → StaysOut next before after
  stays_then Idle before after home = tt
  stays_then Answered before after home = λ out. absurd (not_both (sym home ∙ out))
    where
      not_both : false ≡ true → ⊥
      not_both h = cc
  stays_then (Launch own) before after home = home
  stays_then RaiseStop before after home = tt
  stays_then (Closed restored) before after home = home

  -- the part stays
  pub part_then : (m : Mode) (middle after : Emulator F) (own : Job F) (next : Next F) → GoesOnBy m middle own next after →
      after.tool.plan.part ≡ middle.tool.plan.part
  part_then stopped middle after own next h = ap (λ (e : Emulator F). e.tool.plan.part) h.1
  part_then (launching number) middle after own next h = ap (λ (e : Emulator F). e.tool.plan.part) h.1
  part_then running middle after own next h = absurd h
  part_then programming middle after own next h = ap (λ (e : Emulator F). e.tool.plan.part) h.1
  part_then leaving middle after own next h = absurd h
  part_then (closed restored) middle after own next h = ap (λ (e : Emulator F). e.tool.plan.part) h.1

  -- what is no fault
  abbrev IsNoFault : Next F → Type 0
  IsNoFault Idle = ⊤
  IsNoFault Answered = ⊤
  IsNoFault (Launch job) = ⊤
  IsNoFault RaiseStop = ⊤
  IsNoFault (Closed (Ok done)) = ⊤
  IsNoFault (Closed (Err fault)) = ⊥

  pub no_fault : (next : Next F) → IsNoFault next → next ≡ Closed (Err (record {})) → ⊥
  no_fault next none is = subst (λ (n : Next F). IsNoFault n) is none

  -- a fault has its cause
  pub cause_then : (m : Mode) (middle after : Emulator F) (own : Job F) (next : Next F) (from : F) → middle.tool.mode ≡ m →
      middle.target ≡ Some own → (middle.tool.mode ≡ closed false → Rose (flash.faults from) (flash.faults own.flash)) →
      GoesOnBy m middle own next after → ClosesFor flash next from after.target
  cause_then stopped middle after own next from is there rose h = λ faulty. absurd (no_fault (Answered) tt (sym h.0 ∙ faulty))
  cause_then (launching number) middle after own next from is there rose h = λ faulty. absurd (no_fault (Launch (armed middle.tool own)) tt (sym h.0 ∙ faulty))
  cause_then running middle after own next from is there rose h = absurd h
  cause_then programming middle after own next from is there rose h = λ faulty. absurd (no_fault (Answered) tt (sym h.0 ∙ faulty))
  cause_then leaving middle after own next from is there rose h = absurd h
  cause_then (closed true) middle after own next from is there rose h = λ faulty. absurd (no_fault (Closed (Ok tt)) tt (sym h.0 ∙ faulty))
  cause_then (closed false) middle after own next from is there rose h = λ faulty.
      subst (λ (o : Option (Job F)). IfSome o (λ now. Rose (flash.faults from) (flash.faults now.flash)))
      (sym (ap (λ (e : Emulator F). e.target) h.1 ∙ there)) (rose is)

  module _ (before : Emulator F) (frame : Frame) (out : List ℕ) (number : ℕ) (asked : Request) (hears : Hears (whole frame) (request number asked))
      (on : listens before.tool.mode ≡ true) where
    -- while a run is out
    pub heard_away : (job : Job F) (next : Next F) (tool : ToolState) → before.target ≡ None → IsHeld part_of before job →
        StopTells next before.tool.mode (request number asked) → NextTells next before (record before { tool = tool }) job →
        tool.plan ≡ before.tool.plan → tool.run_to ≡ before.tool.run_to →
        Does (λ part. answered true part number asked) (at before.tool job.core job.comparators []) (at tool job.core job.comparators out) →
        HearsFrame flash part_of before job frame out next (record before { tool = tool })
    heard_away job next tool there held stops tells plan run_to does =
        let launched = launched_job before.target before.tool job there held in
        record {
          now = job;
          is = is_launched before.target tool job there (record {
            flash = launched.flash ∙ ap (λ (p : PlanState). p.part) (sym plan);
            core = launched.core ∙ ap (λ (p : PlanState). chip_of p.part) (sym plan);
            fresh = launched.fresh;
            replant = launched.replant ∙ same_page before.tool tool job.core.pc plan run_to;
          });
          tells = tells;
          stays = λ a b. refl;
          mute = λ a b. asks_nothing flash (λ part. item true part (request number asked)) (at before.tool job.core job.comparators [])
              (at tool job.core job.comparators out) job.flash job.flash refl _;
          part = ap (λ (p : PlanState). p.part) plan;
          heard = request number asked;
          hears = hears;
          stops = stops;
          asks = asking_nothing flash (λ part. item true part (request number asked)) (at before.tool job.core job.comparators [])
              (at tool job.core job.comparators out) job.flash job.flash refl
              (same_does (λ part. answered true part number asked) (λ part. item true part (request number asked))
              (at before.tool job.core job.comparators []) (at tool job.core job.comparators out)
              (λ part old s e. as_item before.tool (request number asked) part s on e.tool) does);
        }

    -- where the target is at home
    module _ (old own : Job F) (tool : ToolState) (there : before.target ≡ Some old) (takes : takes_requests before.tool.mode ≡ true)
        (home : IsAtHome part_of tool own) (part : tool.plan.part ≡ before.tool.plan.part)
        (asks : DoesAsking flash (λ part. answered true part number asked) (at before.tool old.core old.comparators []) old.flash
        (at tool own.core own.comparators out) own.flash) where
      abbrev middle : Emulator F
      middle = record before { tool = tool; target = Some own }

      heard_so : (next : Next F) (after : Emulator F) (now : Job F) → IsHeld part_of after now → NextTells next before after now →
          StopTells next before.tool.mode (request number asked) → after.tool.plan.part ≡ before.tool.plan.part →
          DoesAsking flash (λ part. answered true part number asked) (at before.tool old.core old.comparators []) old.flash
          (at after.tool now.core now.comparators out) now.flash →
          HearsFrame flash part_of before old frame out next after
      heard_so next after now is tells stops same does = record {
        now = now;
        is = is;
        tells = tells;
        stays = λ none b. cc;
        mute = λ none b. cc;
        part = same;
        heard = request number asked;
        hears = hears;
        stops = stops;
        asks = same_asking flash (λ part. answered true part number asked) (λ part. item true part (request number asked))
            (at before.tool old.core old.comparators []) (at after.tool now.core now.comparators out) old.flash now.flash
            (λ part before_ s e. as_item before.tool (request number asked) part s on e.tool) does;
      }

      by_mode : (m : Mode) (next : Next F) (after : Emulator F) → tool.mode ≡ m → GoesOnBy m middle own next after →
          HearsFrame flash part_of before old frame out next after
      by_mode stopped next after is h =
          subst (λ (n : Next F). HearsFrame flash part_of before old frame out n after) (sym h.0)
          (subst (λ (e : Emulator F). HearsFrame flash part_of before old frame out Answered e) (sym h.1)
          (heard_so Answered middle own refl (ap listens is) (λ out. absurd (not_out before.tool.mode takes out)) part asks))
      by_mode (launching number) next after is h =
          subst (λ (n : Next F). HearsFrame flash part_of before old frame out n after) (sym h.0)
          (subst (λ (e : Emulator F). HearsFrame flash part_of before old frame out (Launch (armed tool own)) e) (sym h.1)
          (heard_so (Launch (armed tool own)) (record middle { target = None }) (armed tool own)
          (record { flash = home.flash; core = home.core; fresh = refl; replant = refl }) (refl, ap is_launching is) tt part asks))
      by_mode running next after is h = absurd h
      by_mode programming next after is h =
          subst (λ (n : Next F). HearsFrame flash part_of before old frame out n after) (sym h.0)
          (subst (λ (e : Emulator F). HearsFrame flash part_of before old frame out Answered e) (sym h.1)
          (heard_so Answered middle own refl (ap listens is) (λ out. absurd (not_out before.tool.mode takes out)) part asks))
      by_mode leaving next after is h = absurd h
      by_mode (closed true) next after is h =
          subst (λ (n : Next F). HearsFrame flash part_of before old frame out n after) (sym h.0)
          (subst (λ (e : Emulator F). HearsFrame flash part_of before old frame out (Closed (Ok tt)) e) (sym h.1)
          (heard_so (Closed (Ok tt)) middle own refl is tt part asks))
      by_mode (closed false) next after is h =
          subst (λ (n : Next F). HearsFrame flash part_of before old frame out n after) (sym h.0)
          (subst (λ (e : Emulator F). HearsFrame flash part_of before old frame out (Closed (Err (record {}))) e) (sym h.1)
          (heard_so (Closed (Err (record {}))) middle own refl is tt part asks))

      pub heard_at_home : (job : Job F) (next : Next F) (after : Emulator F) → IsHeld part_of before job → GoesOnBy tool.mode middle own next after →
          HearsFrame flash part_of before job frame out next after
      heard_at_home job next after held h =
          subst (λ (j : Job F). HearsFrame flash part_of before j frame out next after)
          (sym (own_job before.target before.tool old job there held)) (by_mode tool.mode next after refl h)

-- what takes requests and has no target at home is a run that is out
pub is_running : (m : Mode) → rests m ≡ false → listens m ≡ true → m ≡ running
is_running stopped h k = cc
is_running (launching number) h k = cc
is_running running h k = refl
is_running programming h k = cc
is_running leaving h k = cc
is_running (closed restored) h k = cc

-- and with one it takes requests at home
pub takes_at_home : (m : Mode) → rests m ≡ true → listens m ≡ true → takes_requests m ≡ true
takes_at_home stopped h k = refl
takes_at_home (launching number) h k = cc
takes_at_home running h k = cc
takes_at_home programming h k = refl
takes_at_home leaving h k = cc
takes_at_home (closed restored) h k = cc

-- a frame with the number of events is dropped
module _ {F : Type 0} (flash : Flash F) (part_of : F → Part) (before : Emulator F) (frame : Frame) (count : ℕ) (tool : ToolState)
    (on : listens before.tool.mode ≡ true) (hears : Hears (whole frame) (dropped count))
    (is : tool ≡ record before.tool { dropped = (before.tool.dropped + count) % 2 ^ 64 }) where
  drops-count : (part : Part) (s : Debugger) → before.tool ≡ kept_tool part s → tool ≡ kept_tool part (dropping count s)
  drops-count part s e =
      is ∙ ap (λ (k : ToolState). record k { dropped = (k.dropped + count) % 2 ^ 64 }) e ∙
      ap (λ (n : ℕ). record (kept_tool part s) { dropped = n }) (mod-add-mod s.dropped (2 ^ 64) count)

  pub frame_dropped : (job : Job F) → IsHeld part_of before job →
      HearsFrame flash part_of before job frame [] Answered (record before { tool = tool })
  frame_dropped job held = record {
    now = job;
    is = same_held before.target held;
    tells = ap (λ (k : ToolState). listens k.mode) is ∙ on;
    stays = λ a b. refl;
    mute = λ a b. asks_nothing flash (λ part. item true part (dropped count)) (at before.tool job.core job.comparators [])
        (at tool job.core job.comparators []) job.flash job.flash refl _;
    part = ap (λ (k : ToolState). k.plan.part) is;
    heard = dropped count;
    hears = hears;
    stops = λ out. refl;
    asks = asking_nothing flash (λ part. item true part (dropped count)) (at before.tool job.core job.comparators [])
        (at tool job.core job.comparators []) job.flash job.flash refl
        (λ part old s e. in_words part old (at tool job.core job.comparators []) s (dropping count s) (item true (chip_of part) (dropped count) s)
        (as_item before.tool (dropped count) part s on e.tool)
        (record { tool = drops-count part s e.tool; core = e.core; comparators = e.comparators; sent = e.sent }, record { device = refl; launches = refl }));
  }
    where
      same_held : (target : Option (Job F)) → IsJob part_of target before.tool job → IsJob part_of target tool job
      same_held (Some own) h = h
      same_held None h = subst (λ (k : ToolState). IsLaunched part_of k job) (sym is) (record { flash = h.flash; core = h.core; fresh = h.fresh; replant = h.replant })
