-- What a runner gives back of a job: an end of its run.
use Rattle.std.specs.Prelude.{◌≡◌, ◌≢◌, ℕ, ◌<◌, ◌≤◌, Bool, true, false, not, is_some, List, All, None, length}
use Rattle.part_spec.specs.declared.part.Part.{Part}
use Rattle.part_spec.specs.Chip.{Chip}
use Rattle.avr_spec.specs.Machine.{Machine}
use Rattle.avr_spec.specs.Kept.{kept}
use Rattle.debug_spec.specs.Moved.{Flash}
use Rattle.debug_spec.specs.Run.{Run, End, after, IsEnd, end_within, end_by}
use Rattle.run_control.specs.Runs.{cause_of_halt, run_of_job, IsReplanted}
use Rattle.run_control.specs.declared.job.Halt.TheVariants.{Forced, Single}
use Rattle.run_control.specs.declared.job.Turn.{Turn}
use Rattle.run_control.specs.declared.job.Turn.TheVariants.{Halted, NotYet}
use Rattle.run_control.specs.declared.job.Job.{Job}
use Rattle.run_control.specs.declared.runner.Done.{Done}
use Rattle.run_control.specs.declared.inline.Seat.{Seat}
use Rattle.run_control.specs.declared.inline.Seat.TheVariants.{Free, Going, Ended}

-- the job of a done has gone through a run of the job that was launched: so many steps, and whether the page behind the first has its
-- words; with them something is said of the run and its end
pub record GoesThrough {F : Type 0} (flash : Flash F) (part_of : F → Part) (job : Job F) (done : Done F)
    (says : Chip → Run → Bool → End → Type 0) : Type 0 where
  pub steps : ℕ
  pub ok : Bool
  pub run : (part : Chip) (p : Machine) → job.core ≡ kept part p →
      let r = run_of_job job p (flash.words job.flash) (flash.words done.job.flash) in
      says part r (not ok) (record { steps = steps; cause = cause_of_halt done.halt }) × (done.job.core ≡ kept part (after part r steps))
  pub none : steps ≡ 0 → (done.job ≡ job) × (ok ≡ true)
  pub some : 0 < steps → IsReplanted flash job.replant job.flash ok done.job.flash × (done.job.replant ≡ None) × (done.job.fresh ≡ false)
  pub comparators : done.job.comparators ≡ job.comparators
  pub core_part : done.job.core.part ≡ job.core.part
  pub flash_part : part_of done.job.flash ≡ part_of job.flash
  pub counts : flash.faults job.flash ≤ flash.faults done.job.flash
  pub halt : done.halt ≢ Single

-- a done is an end of a job
abbrev pub EndsJob : {F : Type 0} → Flash F → (F → Part) → Job F → Done F → Type 0
EndsJob flash part_of job done = GoesThrough flash part_of job done IsEnd

-- an end of a run within a number of steps by itself, or forced behind them; and whether it comes by itself
abbrev pub IsEndBy : ℕ → Bool → Chip → Run → Bool → End → Type 0
IsEndBy number by_itself part r write_failed e =
    (end_by part r write_failed number ≡ e) × (is_some (end_within part r write_failed number) ≡ by_itself)

-- a done is the end of a job that is given a number of steps
abbrev pub EndsWithin : {F : Type 0} → Flash F → (F → Part) → Job F → Done F → ℕ → Bool → Type 0
EndsWithin flash part_of job done number by_itself = GoesThrough flash part_of job done (IsEndBy number by_itself)

-- numbers of steps: there is one, and each is of some
abbrev pub AreStops : List ℕ → Type 0
AreStops stops = (0 < length stops) × All (λ steps. 0 < steps) stops

-- a job is out
abbrev pub is_taken : {F : Type 0} → Seat F → Bool
is_taken Free = false
is_taken (Going job) = true
is_taken (Ended done) = true

-- and has come to its end by itself
abbrev pub is_ended : {F : Type 0} → Seat F → Bool
is_ended Free = false
is_ended (Going job) = false
is_ended (Ended done) = true

-- what is given of it: its end, or a forced one where it stands
abbrev pub IsGiven : {F : Type 0} → Seat F → Done F → Type 0
IsGiven Free done = ⊥
IsGiven (Going job) done = done ≡ record { job = job; halt = Forced }
IsGiven (Ended end) done = done ≡ end

-- where a job is once its run has come to a turn
abbrev pub seat_of : {F : Type 0} → Turn → Job F → Seat F
seat_of NotYet job = Going job
seat_of (Halted halt) job = Ended (record { job = job; halt = halt })

-- numbers of steps, and a seat in which no end is forced
abbrev pub IsSoundInline : {F : Type 0} → List ℕ → Seat F → Type 0
IsSoundInline {F = F} stops seat = AreStops stops × (is_ended seat ≡ true → (done : Done F) → IsGiven seat done → done.halt ≢ Forced)
