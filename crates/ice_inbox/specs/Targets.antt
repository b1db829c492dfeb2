-- What the work of a target has done once its run has ended.
use Rattle.std.specs.Prelude.{◌≡◌, ℕ, ◌%◌, ◌^◌, ◌≢◌, Bool, true, [], ◌∷◌, ◌++◌, if◌then◌else◌}
use Rattle.part_spec.specs.declared.part.Part.{Part}
use Rattle.debug_spec.specs.Moved.{Flash}
use Rattle.atomic_table.specs.Seated.{TableId}
use Rattle.run_control.specs.declared.job.Job.{Job}
use Rattle.run_control.specs.declared.job.Halt.TheVariants.{Forced}
use Rattle.run_control.specs.declared.runner.Done.{Done}
use Rattle.run_control.specs.Ends.{EndsJob}
use Rattle.ice_inbox.specs.declared.inbox.Note.TheVariants.{Halted}
use Rattle.ice_inbox.specs.declared.stop_word.Asked.TheVariants.{Nothing, One}
use Rattle.ice_inbox.specs.Ends.{Sent}
use Rattle.ice_inbox.specs.Stopping.{Looking}

-- what a look is known by: the stop word that it loads, and the number that it looks for
pub record LookMark : Type 0 where
  pub word : TableId
  pub number : ℕ

-- the looker has not looked
abbrev pub IsUnasked : Looking → Type 0
IsUnasked looker = (looker.asked ≡ Nothing) × (looker.loads ≡ 0)

-- it looked for this number alone, or not at all
abbrev pub IsAsked : ℕ → Looking → Type 0
IsAsked number looker = looker.asked ≢ One number → IsUnasked looker

module _ {F : Type 0} (flash : Flash F) (part_of : F → Part) where
  -- the run of a job came to an end, with so many looks, modulo 2^64: one at each boundary, but where a page write failed; it was forced
  -- only where the newest told so
  pub record EndsLooked (job : Job F) (done : Done F) (looks : ℕ) (told : Bool) : Type 0 where
    pub ends : EndsJob flash part_of job done
    pub looked : looks ≡ (if ends.ok then ends.steps else 0) % 2 ^ 64
    pub forced : done.halt ≡ Forced → told ≡ true

  -- the run of the job with this number came to an end, and each of its looks was one load for that number; it was forced only where the
  -- last look saw it
  pub record RunsTarget (job : Job F) (number : ℕ) (looker : Looking) (done : Done F) (looked : Looking) : Type 0 where
    pub ends : EndsJob flash part_of job done
    pub loads : looked.loads ≡ (if ends.ok then ends.steps else 0) % 2 ^ 64
    pub asked : IsAsked number looked
    pub forced : done.halt ≡ Forced → looked.seen ≡ number
    pub word : looked.word ≡ looker.word

-- the end of the job with this number was told, once
abbrev pub SendsHalted : Sent → ℕ → Sent → Type 0
SendsHalted before number after = after ≡ record before { sent = before.sent ++ Halted number ∷ [] }
