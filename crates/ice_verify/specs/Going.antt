-- Runs that the code makes step by step.
use Rattle.std.specs.Prelude.{◌≡◌, ℕ, ◌<◌, true, false, Bool, List, [], Option, None}
use Rattle.part_spec.specs.declared.part.Part.{Part}
use Rattle.part_spec.specs.Chip.{Chip, chip_of}
use Rattle.avr_spec.specs.Machine.{Machine}
use Rattle.avr_spec.specs.Kept.{Kept, kept}
use Rattle.avr_spec.specs.Step.{go_on}
use Rattle.debug_spec.specs.Stop.{Cause, forced, by_step, undefined, stop}
use Rattle.debug_spec.specs.Run.{Run, End, after, stop_after, IsCauseOf}
use Rattle.debug_spec.specs.Debugger.{Debugger, is_out, targets_by, run_out}
use Rattle.debug_spec.specs.Running.{MayEnd, stopped_at, run_ended}
use Rattle.ice_answer.specs.Does.{IsAt}
use Rattle.ice_verify.specs.Well.{IsGood}
use Rattle.ice_verify.specs.Standing.{at_of}
use Rattle.ice_verify.specs.declared.plain.Plain.{Plain}

-- what stops the target of the code in a state
abbrev pub stop_in : Chip → Machine → Plain → Option Cause
stop_in part p plain = stop part p plain.words.words (targets_by plain.tool.run_to plain.tool.plan.soft) plain.comparators

-- a single step was made, or no step is ahead; and what it is told with
abbrev pub SteppedBy : Bool → Chip → Machine → List ℕ → Cause → Kept → Type 0
SteppedBy true part p words cause core = (cause ≡ undefined) × (core ≡ kept part p)
SteppedBy false part p words cause core = (cause ≡ by_step) × (core ≡ kept part (go_on part p words))

-- a run that is under way where the code's target stands
pub record IsUnderWay (part : Chip) (plain : Plain) (r : Run) : Type 0 where
  pub start : plain.core ≡ kept part r.start
  pub fresh : r.fresh ≡ false
  pub first : r.first ≡ plain.words.words
  pub later : r.later ≡ plain.words.words
  pub stops : r.stops ≡ targets_by plain.tool.run_to plain.tool.plan.soft
  pub comparators : r.comparators ≡ plain.comparators

-- it went on through n boundaries, at none of which it stops
abbrev pub RunsOn : Plain → ℕ → Plain → Type 0
RunsOn before n after_ = (part : Chip) (r : Run) → IsUnderWay part before r →
    (after_.core ≡ kept part (after part r n)) × ((j : ℕ) → j < n → stop_after part r j ≡ None)

-- at one of them it stops
abbrev pub Stops : Plain → ℕ → Type 0
Stops before n = (part : Chip) (r : Run) → IsUnderWay part before r → (j : ℕ) × (j < n) × (stop_after part r j ≡ None → ⊥)

-- a run may end in a state for a cause
abbrev pub MayStop : Chip → Machine → Plain → Cause → Type 0
MayStop part p plain cause = IsCauseOf (stop_in part p plain) cause × (cause ≡ forced → plain.tool.stop_asked ≡ true)

-- the run that is out may end so, and the target stands there
abbrev pub ComesTo : Plain → End → Plain → Type 0
ComesTo before end after_ = (part : Part) (sent : List ℕ) (s : Debugger) → IsAt part sent (at_of before []) s → is_out s.mode ≡ true → IsGood s →
    MayEnd false (chip_of part) s end × (after_.core ≡ kept (chip_of part) (after (chip_of part) (run_out false s) end.steps))

-- the run that is out ends where the target stands, for this cause
abbrev pub EndsRun : Plain → List ℕ → Cause → Plain → List ℕ → Type 0
EndsRun before out cause after_ more = (part : Part) (sent : List ℕ) (s : Debugger) (end : End) → is_out s.mode ≡ true → end.cause ≡ cause →
    IsAt part sent (at_of before out) (stopped_at false (chip_of part) end s) → IsGood (stopped_at false (chip_of part) end s) →
    IsAt part sent (at_of after_ more) (run_ended false (chip_of part) end s) × IsGood (run_ended false (chip_of part) end s)

-- it may not
abbrev pub DoesNotComeTo : Plain → End → Type 0
DoesNotComeTo before end = (part : Part) (sent : List ℕ) (s : Debugger) → IsAt part sent (at_of before []) s → is_out s.mode ≡ true → IsGood s →
    MayEnd false (chip_of part) s end → ⊥
