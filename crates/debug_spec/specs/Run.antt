-- A run of the target: from its start to its end.
--
-- A run begins with a step that is not tested for a stop and runs a BREAK as a NOP. Behind that step a page may be written, which
-- plants the breakpoint at the start. From then on each boundary between two steps is tested for a stop.
use Rattle.std.specs.Prelude.{◌≡◌, ℕ, zero, suc, ◌<◌, Bool, true, false, ◌&&◌, if◌then◌else◌, List, Option, Some, None, MatchOption}
use Rattle.part_spec.specs.Chip.{Chip}
use Rattle.avr_spec.specs.declared.target.Ahead.{Ahead}
use Rattle.avr_spec.specs.declared.target.Ahead.TheVariants.{Interrupt, Ready, Break as BreakAhead, Undefined as UndefinedAhead}
use Rattle.avr_spec.specs.Machine.{Machine}
use Rattle.avr_spec.specs.Step.{step, go_on, ahead}
use Rattle.debug_spec.specs.Patch.{has, without, patch}
use Rattle.debug_spec.specs.Stop.{Cause, forced, undefined, failed_write, stop}

-- a run from a state on: whether its next step is its first, whether a page is written behind that step, the words of its next
-- step and of later ones, the addresses that stop it, and the comparators. A run that is under way is a run too.
pub record Run : Type 0 where
  pub start : Machine
  pub fresh : Bool
  pub replants : Bool
  pub first : List ℕ
  pub later : List ℕ
  pub stops : List ℕ
  pub comparators : List (Option ℕ)

-- the state after the run's next step
abbrev pub stepped : Chip → Run → Machine
stepped part r = if r.fresh then go_on part r.start r.first else step part r.start r.first

-- the run from the boundary behind its next step on
abbrev pub onward : Chip → Run → Run
onward part r = record r { start = stepped part r; fresh = false; replants = false; first = r.later }

-- the run from its n-th boundary on
abbrev pub run_after : Chip → Run → ℕ → Run
run_after part r zero = r
run_after part r (suc n) = run_after part (onward part r) n

-- the state after n steps
abbrev pub after : Chip → Run → ℕ → Machine
after part r n = (run_after part r n).start

-- what stops the run where it stands
abbrev pub stop_here : Chip → Run → Option Cause
stop_here part r = stop part r.start r.first r.stops r.comparators

-- what stops the run after n steps
abbrev pub stop_after : Chip → Run → ℕ → Option Cause
stop_after part r n = stop_here part (run_after part r n)

-- an end of a run: its steps and its cause
pub record End : Type 0 where
  pub steps : ℕ
  pub cause : Cause

-- what is ahead does not run
abbrev pub is_undefined : Ahead → Bool
is_undefined Interrupt = false
is_undefined Ready = false
is_undefined BreakAhead = false
is_undefined UndefinedAhead = true

-- the end of a run that does not come to a boundary with a test: it starts at a word that does not run, or the page behind its
-- first step could not be written
abbrev pub early_end : Chip → Run → Bool → Option End
early_end part r write_failed =
    if r.fresh && is_undefined (ahead part r.start r.first) then Some (record { steps = 0; cause = undefined }) else
    if r.replants && write_failed then Some (record { steps = 1; cause = failed_write }) else
    None

-- at a boundary with a stop a run ends for that, and at one with none it is forced to end
abbrev pub IsCauseOf : Option Cause → Cause → Type 0
IsCauseOf None cause = cause ≡ forced
IsCauseOf (Some stopped) cause = cause ≡ stopped

-- an end at a boundary that was tested: there is no stop at the boundaries before
pub record IsTestedEnd (part : Chip) (r : Run) (e : End) : Type 0 where
  pub some_step : 0 < e.steps
  pub no_stop_before : (k : ℕ) → 0 < k → k < e.steps → stop_after part r k ≡ None
  pub here : IsCauseOf (stop_after part r e.steps) e.cause

-- the run may end so, told whether the page write behind its first step failed
abbrev pub IsEnd : Chip → Run → Bool → End → Type 0
IsEnd part r write_failed e = MatchOption (early_end part r write_failed) (IsTestedEnd part r e) (λ early. e ≡ early)

-- an end that comes one step later
abbrev pub one_later : Option End → Option End
one_later None = None
one_later (Some e) = Some (record { steps = suc e.steps; cause = e.cause })

-- the first stop within n steps
abbrev pub natural_end : Chip → Run → ℕ → Option End
natural_end part r zero = None
natural_end part r (suc n) = elim (stop_here part (onward part r)) [
  | Some cause ↦ Some (record { steps = 1; cause = cause })
  | None ↦ one_later (natural_end part (onward part r) n)
]

-- the end that the run comes to within n steps by itself
abbrev pub end_within : Chip → Run → Bool → ℕ → Option End
end_within part r write_failed n = elim (early_end part r write_failed) [
  | Some early ↦ Some early
  | None ↦ natural_end part r n
]

-- the end of a run that is forced to end after n steps where it did not come to one by itself
abbrev pub end_by : Chip → Run → Bool → ℕ → End
end_by part r write_failed n = elim (end_within part r write_failed n) [
  | Some e ↦ e
  | None ↦ record { steps = n; cause = forced }
]

-- the words that the target runs: of the two debuggers one has planted a set in the program, and the other runs the program
abbrev pub run_words : Bool → List ℕ → List ℕ → List ℕ
run_words planted prog set = if planted then patch prog set else prog

-- the run of a program from a state on with breakpoints at a set; the one at its start is planted behind the first step
abbrev pub run_of : Bool → List ℕ → Machine → List ℕ → List (Option ℕ) → Run
run_of planted prog p set comparators = record {
  start = p;
  fresh = true;
  replants = has set p.pc;
  first = run_words planted prog (without p.pc set);
  later = run_words planted prog set;
  stops = set;
  comparators = comparators;
}
