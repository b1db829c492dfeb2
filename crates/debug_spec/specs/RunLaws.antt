-- The laws of runs, as facts. Each is proved as the contract of a function of `src/laws.rt`.
use Rattle.std.specs.Prelude.{◌≡◌, ◌≢◌, ◌↔◌, ◌⊎◌, ℕ, ◌+◌, ◌<◌, ◌≤◌, Bool, true, false, List, [], length, Option, Some, None, if◌then◌else◌}
use Rattle.part_spec.specs.Chip.{Chip, words_of}
use Rattle.avr_spec.specs.declared.target.Vector.{Vector}
use Rattle.avr_spec.specs.declared.target.Ahead.TheVariants.{Break as BreakAhead, Undefined as UndefinedAhead}
use Rattle.avr_spec.specs.Machine.{Machine}
use Rattle.avr_spec.specs.Step.{due, step, go_on, ahead}
use Rattle.debug_spec.specs.Patch.{has, patch, plantable}
use Rattle.debug_spec.specs.Stop.{Cause, breakpoint, forced, by_step, by_reset, own_break, undefined, failed_write, compared, stop}
use Rattle.debug_spec.specs.Run.{Run, End, run_after, after, early_end, stop_after, IsTestedEnd, IsEnd, natural_end, end_within, end_by}
use Rattle.debug_spec.specs.Run.{run_of}
use Rattle.debug_spec.specs.Clean.{clean_step, clean_for, clean_run}

-- the next step is the same under two lists of words, also where it runs a BREAK as a NOP
abbrev pub StepsAlike : Chip → Machine → List ℕ → List ℕ → Type 0
StepsAlike part p flash other = (step part p flash ≡ step part p other) × (go_on part p flash ≡ go_on part p other)

-- a step that takes a due interrupt is the same under any two lists of words
abbrev pub DueStepsAlike : Type 0
DueStepsAlike = (part : Chip) (p : Machine) (flash other : List ℕ) (v : Vector) → due part p ≡ Some v → StepsAlike part p flash other

-- each address of a set may be planted in a program
abbrev pub AllPlantable : Chip → List ℕ → List ℕ → Type 0
AllPlantable part prog set = (address : ℕ) → has set address ≡ true → plantable part prog address ≡ true

-- a clean step whose pc is not planted is the same under the planted words and under the program
abbrev pub CleanStepsAlike : Type 0
CleanStepsAlike = (part : Chip) (p : Machine) (prog set : List ℕ) → length prog ≡ words_of part → AllPlantable part prog set →
    has set p.pc ≡ false → clean_step part p prog set ≡ true → StepsAlike part p (patch prog set) prog

-- the target stops at the same places under the planted words and under the program
abbrev pub StopsAgree : Type 0
StopsAgree = (part : Chip) (p : Machine) (prog set : List ℕ) (comparators : List (Option ℕ)) →
    stop part p (patch prog set) set comparators ≡ stop part p prog set comparators

-- a cause that was found with no set in mind, named by the set: a BREAK at an address of the set is a breakpoint
abbrev pub named_cause : List ℕ → ℕ → Cause → Cause
named_cause set pc breakpoint = breakpoint
named_cause set pc forced = forced
named_cause set pc by_step = by_step
named_cause set pc by_reset = by_reset
named_cause set pc own_break = if has set pc then breakpoint else own_break
named_cause set pc undefined = undefined
named_cause set pc failed_write = failed_write

-- the same of a stop
abbrev pub named : List ℕ → ℕ → Option Cause → Option Cause
named set pc None = None
named set pc (Some cause) = Some (named_cause set pc cause)

-- one who knows the planted words alone stops at the same places, and needs the set only to name the cause
abbrev pub PlantedWordsStop : Type 0
PlantedWordsStop = (part : Chip) (p : Machine) (prog set : List ℕ) (comparators : List (Option ℕ)) →
    ((address : ℕ) → has set address ≡ true → address < length prog) →
    stop part p (patch prog set) set comparators ≡ named set p.pc (stop part p (patch prog set) [] comparators)

-- a stop has a reason of the program's own: an address of the set or of a comparator, or the word of the program at pc
abbrev pub IsReason : Chip → Machine → List ℕ → List ℕ → List (Option ℕ) → Cause → Type 0
IsReason part p prog set comparators breakpoint = (has set p.pc ≡ true) ⊎ (compared comparators p.pc ≡ true)
IsReason part p prog set comparators own_break = ahead part p prog ≡ BreakAhead
IsReason part p prog set comparators undefined = ahead part p prog ≡ UndefinedAhead
IsReason part p prog set comparators forced = ⊥
IsReason part p prog set comparators by_step = ⊥
IsReason part p prog set comparators by_reset = ⊥
IsReason part p prog set comparators failed_write = ⊥

-- each stop has one
abbrev pub StopsHaveReasons : Type 0
StopsHaveReasons = (part : Chip) (p : Machine) (prog set : List ℕ) (comparators : List (Option ℕ)) (cause : Cause) →
    stop part p prog set comparators ≡ Some cause → IsReason part p prog set comparators cause

-- the first stop within n steps is an end, there is none where none is found, and each end within them that is not forced is found
pub record NaturalEnds (part : Chip) (r : Run) (n : ℕ) : Type 0 where
  pub found : (e : End) → natural_end part r n ≡ Some e → (e.steps ≤ n) × IsTestedEnd part r e × (e.cause ≢ forced)
  pub none : natural_end part r n ≡ None → (k : ℕ) → 0 < k → k ≤ n → stop_after part r k ≡ None
  pub each : (e : End) → IsTestedEnd part r e → e.cause ≢ forced → e.steps ≤ n → natural_end part r n ≡ Some e

-- the natural end is the first stop
abbrev pub NaturalEndIsFirst : Type 0
NaturalEndIsFirst = (part : Chip) (r : Run) (n : ℕ) → NaturalEnds part r n

-- a run has one end at most that is not forced
abbrev pub OneEnd : Type 0
OneEnd = (part : Chip) (r : Run) (write_failed : Bool) (e f : End) → IsEnd part r write_failed e → IsEnd part r write_failed f →
    e.cause ≢ forced → f.cause ≢ forced → e ≡ f

-- what a run is made to end by is an end of it
abbrev pub EndByIsEnd : Type 0
EndByIsEnd = (part : Chip) (r : Run) (write_failed : Bool) (n : ℕ) → 0 < n → IsEnd part r write_failed (end_by part r write_failed n)

-- the end of a run that is under way is one of the run, where nothing stopped it before
abbrev pub RunsGoOn : Type 0
RunsGoOn = (part : Chip) (r : Run) (write_failed later_failed : Bool) (k : ℕ) (e : End) → early_end part r write_failed ≡ None →
    ((j : ℕ) → 0 < j → j ≤ k → stop_after part r j ≡ None) → 0 < k → IsEnd part (run_after part r k) later_failed e →
    IsEnd part r write_failed (record { steps = k + e.steps; cause = e.cause })

-- a run that is clean comes to the same end under the planted words and under the program, within the same steps, and through the
-- same states
pub record RunsAlike (part : Chip) (prog : List ℕ) (p : Machine) (set : List ℕ) (comparators : List (Option ℕ)) (write_failed : Bool)
    (n : ℕ) : Type 0 where
  pub same_end : end_within part (run_of true prog p set comparators) write_failed n ≡ end_within part (run_of false prog p set comparators)
      write_failed n
  pub same_states : (k : ℕ) → k ≤ (end_by part (run_of false prog p set comparators) write_failed n).steps →
      after part (run_of true prog p set comparators) k ≡ after part (run_of false prog p set comparators) k

-- clean runs are so
abbrev pub CleanRunsAlike : Type 0
CleanRunsAlike = (part : Chip) (prog : List ℕ) (p : Machine) (set : List ℕ) (comparators : List (Option ℕ)) (write_failed : Bool) (n : ℕ) →
    length prog ≡ words_of part → AllPlantable part prog set →
    clean_run part (run_of false prog p set comparators) write_failed n ≡ true → RunsAlike part prog p set comparators write_failed n

-- an end, whichever it is, of the run under the planted words is one of the run under the program, as far as that is clean, and
-- leaves the same state
abbrev pub CleanEndsAlike : Type 0
CleanEndsAlike = (part : Chip) (prog : List ℕ) (p : Machine) (set : List ℕ) (comparators : List (Option ℕ)) (write_failed : Bool)
    (e : End) →
    length prog ≡ words_of part → AllPlantable part prog set →
    clean_for part (run_of false prog p set comparators) e.steps ≡ true →
    (IsEnd part (run_of true prog p set comparators) write_failed e ↔ IsEnd part (run_of false prog p set comparators) write_failed e) ×
    (IsEnd part (run_of false prog p set comparators) write_failed e →
    after part (run_of true prog p set comparators) e.steps ≡ after part (run_of false prog p set comparators) e.steps)
