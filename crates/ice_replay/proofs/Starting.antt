-- A run that was launched, and has not ended within its steps, waits with the page writes that its runner has made.
use Rattle.std.proofs.Common.{◌≡◌, ◌<◌, ℕ, zero, suc, Bool, true, false, ◌&&◌, ◌||◌, List, [], ◌∷◌, Option, Some, None}
use Rattle.std.proofs.Common.{refl, sym, ◌∙◌, subst, arith}
use Rattle.std.specs.Prelude.{is_some}
use Rattle.part_spec.specs.declared.part.Part.{Part}
use Rattle.part_spec.specs.Chip.{chip_of}
use Rattle.debug_spec.specs.Device.{Asked}
use Rattle.debug_spec.specs.Debugger.{Mode, stopped, launching, running, programming, leaving, closed}
use Rattle.debug_spec.specs.Moved.{Flash}
use Rattle.debug_spec.specs.Replay.{steps_for}
use Rattle.run_control.specs.declared.inline.Inline.{Inline}
use Rattle.run_control.specs.declared.inline.Seat.{Seat}
use Rattle.run_control.specs.declared.inline.Seat.TheVariants.{Free, Going, Ended}
use Rattle.run_control.specs.declared.job.Job.{Job}
use Rattle.run_control.specs.declared.runner.Done.{Done}
use Rattle.run_control.specs.Ends.{AreStops, EndsWithin, IsGiven, is_taken, is_ended}
use Rattle.ice_answer.specs.Kept.{ToolState}
use Rattle.ice_emul.specs.Launching.{rests}
use Rattle.ice_emul.specs.Standing.{IsJob, IsLaunched, Held, held}
use Rattle.ice_emul.specs.Taking.{is_launching}
use Rattle.ice_emul.specs.Coming.{IsForRun, ComesTo, EndsBy}
use Rattle.ice_emul.specs.declared.emulator.Emulator.{Emulator}
use Rattle.ice_emul.proofs.Halting.{comes_within}
use Rattle.ice_replay.specs.Keeping.{place, Waits, ComesByNumber}
use Rattle.ice_replay.proofs.Going.{given_of}

-- only one thing is given
given_one : {F : Type 0} (seat : Seat F) (done other : Done F) → IsGiven seat done → IsGiven seat other → other ≡ done
given_one Free done other h k = absurd h
given_one (Going job) done other h k = k ∙ sym h
given_one (Ended end) done other h k = k ∙ sym h

module _ {F : Type 0} (flash : Flash F) (part_of : F → Part) (e : Emulator F) (r : Inline F) (job : Job F) (before : ℕ)
    (launched : IsLaunched part_of e.tool job) (taken : is_taken r.seat ≡ true) (counted : r.launches ≡ suc before)
    (some : 0 < steps_for r.stops.items (suc before))
    (made : (done : Done F) → IsGiven r.seat done →
    EndsWithin flash part_of job done (steps_for r.stops.items (suc before)) (is_ended r.seat)) where
  abbrev the_done : Done F
  the_done = (given_of r.seat taken).0

  came : (asks : List Asked) × ((h : Held F) → IsForRun e.tool job h →
      ComesTo flash h the_done (EndsBy (steps_for r.stops.items (suc before)) (is_ended r.seat) (chip_of e.tool.plan.part)) asks)
  came = comes_within flash part_of e job the_done (steps_for r.stops.items (suc before)) (is_ended r.seat) some launched
      (made the_done (given_of r.seat taken).1)

  -- whatever is given has come to the end of the run that the launch's number of steps says, with the same page writes
  pub comes_so : (pend : List Asked) × ((done : Done F) → IsGiven r.seat done → ComesByNumber flash (place e r job pend) done (is_ended r.seat))
  comes_so = (
    came.0,
    λ done given h is_for.
        subst (λ (n : ℕ). ComesTo flash h done (EndsBy (steps_for r.stops.items n) (is_ended r.seat) (chip_of e.tool.plan.part)) came.0)
        (sym counted)
        (subst (λ (d : Done F). ComesTo flash h d
        (EndsBy (steps_for r.stops.items (suc before)) (is_ended r.seat) (chip_of e.tool.plan.part)) came.0)
        (given_one r.seat done the_done given (given_of r.seat taken).1) (came.1 h is_for)),
  )

-- a launch is given some steps
steps_some : (stops : List ℕ) (n : ℕ) → AreStops stops → 0 < steps_for stops n
steps_some [] n are = absurd (no are.0)
  where
    no : 0 < 0 → ⊥
    no h = omega (arith, h)
steps_some (steps ∷ []) n are = are.1 0 0 are.0
steps_some (steps ∷ next ∷ stops) zero are = are.1 0 0 are.0
steps_some (steps ∷ next ∷ stops) (suc zero) are = are.1 0 0 are.0
steps_some (steps ∷ next ∷ stops) (suc (suc n)) are =
    steps_some (next ∷ stops) (suc n) (omega arith, λ k d less. are.1 (suc k) d (omega (arith, less)))

-- a job that is launched is held, with no target at home
pub launched_held : {F : Type 0} (part_of : F → Part) (target : Option (Job F)) (tool : ToolState) (job : Job F) → is_some target ≡ rests tool.mode →
    is_launching tool.mode ≡ true → IsLaunched part_of tool job → IsJob part_of target tool job
launched_held part_of None tool job here prepared launched = launched
launched_held part_of (Some own) tool job here prepared launched = absurd (not_rests tool.mode prepared (sym here))
  where
    not_rests : (m : Mode) → is_launching m ≡ true → rests m ≡ true → ⊥
    not_rests stopped h k = cc
    not_rests (launching number) h k = cc
    not_rests running h k = cc
    not_rests programming h k = cc
    not_rests leaving h k = cc
    not_rests (closed restored) h k = cc

-- it stays so once its frame is answered
pub launched_answered : {F : Type 0} (part_of : F → Part) (before after : ToolState) (job : Job F) → after ≡ record before { mode = running } →
    IsLaunched part_of before job → IsLaunched part_of after job
launched_answered part_of before after job runs l = subst (λ (k : ToolState). IsLaunched part_of k job) (sym runs)
    (record { flash = l.flash; core = l.core; fresh = l.fresh; replant = l.replant })

-- a runner that is ready before a stop is raised has come to an end by itself
pub ended_when_ready : (result taken ended raised : Bool) → result ≡ taken && (ended || raised) → taken ≡ true → raised ≡ false → ended ≡ result
ended_when_ready result true true raised is t r = sym is
ended_when_ready result true false false is t r = sym is
ended_when_ready result true false true is t r = cc
ended_when_ready result false ended raised is t r = cc

-- a run that was launched, told by the runner before the launch
module _ {F : Type 0} (flash : Flash F) (part_of : F → Part) (e : Emulator F) (before r : Inline F) (job : Job F)
    (launched : IsLaunched part_of e.tool job) (taken : is_taken r.seat ≡ true) (counted : r.launches ≡ suc before.launches)
    (stops : r.stops.items ≡ before.stops.items) (are : AreStops before.stops.items)
    (made : (done : Done F) → IsGiven r.seat done →
    EndsWithin flash part_of job done (steps_for before.stops.items (suc before.launches)) (is_ended r.seat)) where
  abbrev number : List ℕ → ℕ
  number l = steps_for l (suc before.launches)

  comes : (pend : List Asked) × ((done : Done F) → IsGiven r.seat done → ComesByNumber flash (place e r job pend) done (is_ended r.seat))
  comes = comes_so flash part_of e r job before.launches launched taken counted
      (subst (λ (l : List ℕ). 0 < number l) (sym stops) (steps_some before.stops.items (suc before.launches) are))
      (λ done given. subst (λ (l : List ℕ). EndsWithin flash part_of job done (number l) (is_ended r.seat)) (sym stops) (made done given))

  -- the page writes that the runner has made
  pub made_pend : List Asked
  made_pend = comes.0

  -- and the end that it gives
  pub made_comes : (by_itself : Bool) → is_ended r.seat ≡ by_itself → (done : Done F) → IsGiven r.seat done →
      ComesTo flash (held e job) done (EndsBy (number before.stops.items) by_itself (chip_of e.tool.plan.part)) made_pend
  unfolding made_pend comes
  made_comes by_itself is done given =
      subst (λ (l : List ℕ). ComesTo flash (held e job) done (EndsBy (number l) by_itself (chip_of e.tool.plan.part)) made_pend) stops
      (subst (λ (n : ℕ). ComesTo flash (held e job) done (EndsBy (steps_for r.stops.items n) by_itself (chip_of e.tool.plan.part)) made_pend)
      counted
      (subst (λ (b : Bool). ComesTo flash (held e job) done (EndsBy (steps_for r.stops.items r.launches) b (chip_of e.tool.plan.part)) made_pend)
      is (comes.1 done given (held e job) (record { job = refl; plan = refl; run_to = refl }))))

  -- one that has not ended waits
  pub made_waits : is_ended r.seat ≡ false → r.collects < r.launches → Waits flash part_of (place e r job made_pend)
  unfolding made_pend comes
  made_waits not_yet due = record {
    taken = taken;
    due = due;
    own = λ done given. let through = made done given in record {
      flash = through.flash_part ∙ launched.flash;
      core = through.core_part ∙ launched.core;
    };
    comes = λ done given. subst (λ (b : Bool). ComesByNumber flash (place e r job made_pend) done b) not_yet (comes.1 done given);
  }
