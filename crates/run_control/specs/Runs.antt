-- The run of a job, and what an advance makes of it.
use Rattle.std.specs.Prelude.{◌≡◌, ℕ, suc, ◌<◌, ◌≤◌, Bool, true, false, not, if◌then◌else◌, is_some, List, [], Option, Some, None}
use Rattle.std.specs.Prelude.{IfSome, ⊤}
use Rattle.part_spec.specs.declared.part.Part.{Part}
use Rattle.part_spec.specs.Chip.{Chip, chip_of}
use Rattle.part_spec.specs.Pages.{page_of}
use Rattle.avr_spec.specs.declared.target.Ahead.{Ahead}
use Rattle.avr_spec.specs.declared.target.Ahead.TheVariants.{Interrupt, Ready, Break as BreakAhead, Undefined as UndefinedAhead}
use Rattle.avr_spec.specs.Machine.{Machine}
use Rattle.avr_spec.specs.Kept.{Kept, kept}
use Rattle.avr_spec.specs.Step.{ahead, step}
use Rattle.debug_spec.specs.Stop.{Cause, breakpoint, forced, by_step, own_break, undefined, failed_write, stop}
use Rattle.debug_spec.specs.Device.{synced_page}
use Rattle.debug_spec.specs.Moved.{Flash}
use Rattle.debug_spec.specs.Run.{Run, End, is_undefined, stepped, onward, after, stop_after, natural_end}
use Rattle.debug_spec.specs.Looks.{cause_at, advance_end}
use Rattle.flash_patch.specs.Asking.{Asks}
use Rattle.run_control.specs.Looking.{Looked, IsLooked, looks_made}
use Rattle.run_control.specs.declared.job.Halt.{Halt}
use Rattle.run_control.specs.declared.job.Halt.TheVariants.{Comparator, Word, Undefined, Forced, Single, FlashFault}
use Rattle.run_control.specs.declared.job.Turn.{Turn}
use Rattle.run_control.specs.declared.job.Turn.TheVariants.{Halted, NotYet}
use Rattle.run_control.specs.declared.job.Job.{Job}

-- the cause that a halt stands for
abbrev pub cause_of_halt : Halt → Cause
cause_of_halt Comparator = breakpoint
cause_of_halt Word = own_break
cause_of_halt Undefined = undefined
cause_of_halt Forced = forced
cause_of_halt Single = by_step
cause_of_halt FlashFault = failed_write

-- a halt at a boundary between two steps
abbrev pub IsAtBoundary : Halt → Type 0
IsAtBoundary Comparator = ⊤
IsAtBoundary Word = ⊤
IsAtBoundary Undefined = ⊤
IsAtBoundary Forced = ⊤
IsAtBoundary Single = ⊥
IsAtBoundary FlashFault = ⊥

-- the same of a turn
abbrev pub HaltsAtBoundary : Turn → Type 0
HaltsAtBoundary NotYet = ⊤
HaltsAtBoundary (Halted halt) = IsAtBoundary halt

-- what a single step answers, told whether no step is ahead
abbrev pub single_halt : Bool → Halt
single_halt none = if none then Undefined else Single

-- the cause of a halt that may not be there
abbrev pub cause_of_stop : Option Halt → Option Cause
cause_of_stop None = None
cause_of_stop (Some halt) = Some (cause_of_halt halt)

-- the end that a turn tells, after so many steps
abbrev pub end_of : Turn → ℕ → Option End
end_of NotYet steps = None
end_of (Halted halt) steps = Some (record { steps = steps; cause = cause_of_halt halt })

-- what a boundary makes of a run in a state, told what the look there said and how many steps are left: nothing, and a step is made; or a
-- turn
abbrev pub Turns : Chip → Machine → List ℕ → List (Option ℕ) → (told : Bool) → (left : ℕ) → Option Turn → Kept → Type 0
Turns part p flash comparators told left None after =
    (stop part p flash [] comparators ≡ None) × (told ≡ false) × (0 < left) × (after ≡ kept part (step part p flash))
Turns part p flash comparators told left (Some NotYet) after =
    (stop part p flash [] comparators ≡ None) × (told ≡ false) × (left ≡ 0) × (after ≡ kept part p)
Turns part p flash comparators told left (Some (Halted halt)) after =
    (cause_at (stop part p flash [] comparators) told ≡ Some (cause_of_halt halt)) × (after ≡ kept part p)

-- what a turn says of a run at its last boundary
abbrev pub IsTurn : Chip → Run → (steps : ℕ) → (told : Bool) → Turn → Type 0
IsTurn part r steps told NotYet = stop_after part r steps ≡ None
IsTurn part r steps told (Halted halt) = cause_at (stop_after part r steps) told ≡ Some (cause_of_halt halt)

-- a run that stands behind its first step went on through some quiet boundaries to one that ends it, or that is the last of its budget
pub record RunsThrough {M : Type 0} (later : List ℕ) (comparators : List (Option ℕ)) (budget : ℕ) (before : Kept) (turn : Turn)
    (core : Kept) (looking looked : Looked M) : Type 0 where
  pub quiet : ℕ
  pub told : Bool
  pub within : quiet < budget
  pub spent : turn ≡ NotYet → (suc quiet ≡ budget) × (told ≡ false)
  pub forced : turn ≡ Halted Forced → told ≡ true
  pub looks : IsLooked (suc quiet) told looking looked
  pub run : (part : Chip) (r : Run) → before ≡ kept part (onward part r).start → r.later ≡ later → r.stops ≡ [] →
      r.comparators ≡ comparators →
      (natural_end part r quiet ≡ None) × (core ≡ kept part (after part r (suc quiet))) × IsTurn part r (suc quiet) told turn

-- the run of a job from a state on, under the words of its first step and those behind it
abbrev pub run_of_job : {F : Type 0} → Job F → Machine → (first later : List ℕ) → Run
run_of_job job p first later = record {
  start = p;
  fresh = job.fresh;
  replants = is_some job.replant;
  first = first;
  later = later;
  stops = [];
  comparators = job.comparators;
}

-- an interrupt or an instruction is ahead
abbrev pub IsStep : Ahead → Type 0
IsStep Interrupt = ⊤
IsStep Ready = ⊤
IsStep BreakAhead = ⊥
IsStep UndefinedAhead = ⊥

-- a job that may be advanced: its flash is its core's part's, a page is to be written only behind a first step, and a job that is under
-- way has a step ahead
pub record MayAdvance {F : Type 0} (flash : Flash F) (part_of : F → Part) (job : Job F) : Type 0 where
  pub part : chip_of (part_of job.flash) ≡ job.core.part
  pub replant : IfSome job.replant (λ asked. (job.fresh ≡ true) × (asked.0 < job.core.part.pages))
  pub ahead : job.fresh ≡ false → (part : Chip) (p : Machine) → job.core ≡ kept part p → IsStep (ahead part p (flash.words job.flash))

-- the page behind the first step of a run is written where its words are others
abbrev pub IsReplanted : {F : Type 0} → Flash F → Option (ℕ × List ℕ) → F → Bool → F → Type 0
IsReplanted flash None before ok after = (ok ≡ true) × (after ≡ before)
IsReplanted flash (Some asked) before ok after =
    (wanted : List ℕ) → page_of wanted asked.0 ≡ asked.1 → Asks flash (synced_page wanted asked.0) before ok after

-- the first step of an advance was made, and the page behind it was written, or failed
abbrev pub IsBehind : {F : Type 0} → Flash F → Job F → Bool → Job F → Type 0
IsBehind flash before ok job =
    IsReplanted flash before.replant before.flash ok job.flash × (job.replant ≡ None) × (job.fresh ≡ false) ×
    ((part : Chip) (p : Machine) → before.core ≡ kept part p →
    (before.fresh ≡ true → is_undefined (ahead part p (flash.words before.flash)) ≡ false) ×
    (job.core ≡ kept part (stepped part (run_of_job before p (flash.words before.flash) (flash.words job.flash)))))

-- an advance has begun: the run ended before any boundary, or stands behind its first step
abbrev pub IsBegun : {F : Type 0} → Flash F → Job F → Option Halt → Job F → Type 0
IsBegun flash before None job = IsBehind flash before true job
IsBegun flash before (Some Undefined) job =
    (job ≡ before) × (before.fresh ≡ true) ×
    ((part : Chip) (p : Machine) → before.core ≡ kept part p → is_undefined (ahead part p (flash.words before.flash)) ≡ true)
IsBegun flash before (Some FlashFault) job =
    IsBehind flash before false job × (before.fresh ≡ true) × (is_some before.replant ≡ true)
IsBegun flash before (Some Comparator) job = ⊥
IsBegun flash before (Some Word) job = ⊥
IsBegun flash before (Some Forced) job = ⊥
IsBegun flash before (Some Single) job = ⊥

-- an advance of a job: it comes to what the book's advance of its run comes to, with a look at each boundary but the one where a page
-- write failed; where it made no step nothing changed, and where it made one the page was written
pub record AdvancesJob {F M : Type 0} (flash : Flash F) (before : Job F) (budget : ℕ) (turn : Turn) (job : Job F)
    (looking looked : Looked M) : Type 0 where
  pub steps : ℕ
  -- the page behind the first step has its words
  pub ok : Bool
  -- what the last look told
  pub told : Bool
  pub within : steps ≤ budget
  pub run : (part : Chip) (p : Machine) → before.core ≡ kept part p →
      let r = run_of_job before p (flash.words before.flash) (flash.words job.flash) in
      (advance_end part r (not ok) (looks_made steps told) budget ≡ end_of turn steps) × (job.core ≡ kept part (after part r steps))
  pub spent : turn ≡ NotYet → (steps ≡ budget) × (told ≡ false)
  pub forced : turn ≡ Halted Forced → told ≡ true
  pub looks : IsLooked (if ok then steps else 0) told looking looked
  pub mute : ok ≡ false → told ≡ false
  pub none : steps ≡ 0 → (job ≡ before) × (ok ≡ true) × (told ≡ false)
  pub some : 0 < steps → IsReplanted flash before.replant before.flash ok job.flash × (job.replant ≡ None) × (job.fresh ≡ false)
  pub comparators : job.comparators ≡ before.comparators
  pub part : job.core.part ≡ before.core.part
