-- A run made some steps at a time, with one look at each boundary behind a step for whether it is to stop.
use Rattle.std.specs.Prelude.{◌≡◌, ℕ, zero, suc, ◌+◌, ◌<◌, ◌≤◌, Bool, true, false, List, [], ◌∷◌, Option, Some, None}
use Rattle.part_spec.specs.Chip.{Chip}
use Rattle.debug_spec.specs.Stop.{Cause, forced}
use Rattle.debug_spec.specs.Run.{Run, onward, run_after, stop_here, stop_after, End, early_end, IsEnd, one_later}
use Rattle.debug_spec.specs.Debugger.{Debugger, is_out}
use Rattle.debug_spec.specs.Running.{replant_failed, MayEnd}
use Rattle.debug_spec.specs.SessionLaws.{IsSound}
use Rattle.debug_spec.specs.DeviceRuns.{device_run, named_end}

-- what the looks to come tell, one for each boundary; behind the last of them none is true
abbrev pub next_look : List Bool → Bool
next_look [] = false
next_look (look ∷ looks) = look

-- the looks behind the first
abbrev pub later_looks : List Bool → List Bool
later_looks [] = []
later_looks (look ∷ looks) = looks

-- the looks behind the first n
abbrev pub looks_after : List Bool → ℕ → List Bool
looks_after looks zero = looks
looks_after looks (suc n) = looks_after (later_looks looks) n

-- the look at the n-th boundary, counted from 1
abbrev pub look_at : List Bool → ℕ → Bool
look_at looks zero = false
look_at looks (suc zero) = next_look looks
look_at looks (suc (suc n)) = look_at (later_looks looks) (suc n)

-- why a run ends at a boundary: a stop comes before a look
abbrev pub cause_at : Option Cause → Bool → Option Cause
cause_at (Some cause) look = Some cause
cause_at None true = Some forced
cause_at None false = None

-- the end that a run comes to within n steps behind this boundary: the first boundary with a stop, or with a look that is true
abbrev pub looked_end : Chip → Run → List Bool → ℕ → Option End
looked_end part r looks zero = None
looked_end part r looks (suc n) = elim (cause_at (stop_here part (onward part r)) (next_look looks)) [
  | Some cause ↦ Some (record { steps = 1; cause = cause })
  | None ↦ one_later (looked_end part (onward part r) (later_looks looks) n)
]

-- what an advance by so many steps comes to: an early end of the run, for which no look is made, such an end, or none yet
abbrev pub advance_end : Chip → Run → Bool → List Bool → ℕ → Option End
advance_end part r write_failed looks n = elim (early_end part r write_failed) [
  | Some early ↦ Some early
  | None ↦ looked_end part r looks n
]

-- an end that comes n steps later
abbrev pub later_by : ℕ → Option End → Option End
later_by zero o = o
later_by (suc n) o = one_later (later_by n o)

-- an advance ends the run in one of its ways, and forces it only where the look at that boundary was true; where it comes to no end, no
-- boundary had a stop, and no look was true; and then an advance by more steps is this one and another from its boundary on
pub record Advances (part : Chip) (r : Run) (write_failed : Bool) (looks : List Bool) (n : ℕ) : Type 0 where
  pub ends : (e : End) → advance_end part r write_failed looks n ≡ Some e →
      IsEnd part r write_failed e × (e.cause ≡ forced → look_at looks e.steps ≡ true)
  pub none : advance_end part r write_failed looks n ≡ None → (k : ℕ) → 0 < k → k ≤ n →
      (stop_after part r k ≡ None) × (look_at looks k ≡ false)
  pub joined : (m : ℕ) → advance_end part r write_failed looks n ≡ None →
      advance_end part r write_failed looks (n + m) ≡ later_by n (looked_end part (run_after part r n) (looks_after looks n) m)

-- each does; and one who has the device makes an end so that the run that is out may have, where only then a look is true when a stop was
-- asked for
pub record RunsAreAdvanced : Type 0 where
  pub advances : (part : Chip) (r : Run) (write_failed : Bool) (looks : List Bool) (n : ℕ) → Advances part r write_failed looks n
  pub by_device : (part : Chip) (s : Debugger) (looks : List Bool) (n : ℕ) (e : End) → IsSound part s → is_out s.mode ≡ true →
      ((k : ℕ) → look_at looks k ≡ true → s.stop_asked ≡ true) → advance_end part (device_run s) (replant_failed s) looks n ≡ Some e →
      MayEnd true part s (named_end part s e)
