-- Why a session does not begin, and what is left of one that has ended.
use Rattle.std.specs.Prelude.{◌≡◌, ℕ, List}
use Rattle.part_spec.specs.declared.part.Part.{Part}
use Rattle.ice_base.specs.Counts.{Rose}
use Rattle.debug_spec.specs.Moved.{Flash}
use Rattle.run_control.specs.declared.job.Job.{Job}
use Rattle.ice_emul.specs.Session.{DoesNotOpen}
use Rattle.ice_emul.specs.declared.emulator.Emulator.{Emulator}
use Rattle.ice_emul.specs.declared.session.BeginError.{BeginError}
use Rattle.ice_emul.specs.declared.session.BeginError.TheVariants.{Memory, Flash as Fault}
use Rattle.ice_emul.specs.declared.session.Totals.{Totals}

-- for want of memory with the flash as it was, or as a page write failed
abbrev pub FailsToBegin : {F : Type 0} → Flash F → (F → Part) → (prog : List ℕ) → (from : F) → BeginError F → Type 0
FailsToBegin flash part_of prog from (Memory given) = given ≡ from
FailsToBegin flash part_of prog from (Fault given) =
    DoesNotOpen flash part_of prog from given × Rose (flash.faults from) (flash.faults given)

-- the flash and the totals of the target's job, and the bytes dropped
pub record Leaves {F : Type 0} (e : Emulator F) (job : Job F) (flash : F) (totals : Totals) : Type 0 where
  pub flash_is : flash ≡ job.flash
  pub cycles : totals.cycles ≡ job.core.io.cycles
  pub steps : totals.steps ≡ job.core.steps
  pub writes : totals.writes ≡ job.core.io.total
  pub dropped : totals.dropped ≡ e.tool.dropped
