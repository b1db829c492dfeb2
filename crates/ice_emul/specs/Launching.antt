-- Where the target is: at home with the emulator, or out in a job.
use Rattle.std.specs.Prelude.{◌≡◌, ℕ, ◌/◌, Bool, true, false, List, Option, Some, None}
use Rattle.part_spec.specs.declared.part.Part.{Part}
use Rattle.part_spec.specs.Chip.{chip_of, page_words}
use Rattle.part_spec.specs.Pages.{page_of}
use Rattle.debug_spec.specs.Patch.{has, patch}
use Rattle.debug_spec.specs.Debugger.{Mode, stopped, launching, running, programming, leaving, closed, targets_by}
use Rattle.run_control.specs.declared.job.Job.{Job}
use Rattle.ice_answer.specs.Kept.{ToolState}

-- the target is at home: no run is prepared, and none is out
abbrev pub rests : Mode → Bool
rests stopped = true
rests (launching number) = false
rests running = false
rests programming = true
rests leaving = false
rests (closed restored) = true

-- the target is at home, or about to be launched
abbrev pub is_here_or_launching : Mode → Bool
is_here_or_launching stopped = true
is_here_or_launching (launching number) = true
is_here_or_launching running = false
is_here_or_launching programming = true
is_here_or_launching leaving = false
is_here_or_launching (closed restored) = true

-- a job of the program's part, by its flash and its core
pub record IsOwn {F : Type 0} (part_of : F → Part) (tool : ToolState) (job : Job F) : Type 0 where
  pub flash : part_of job.flash ≡ tool.plan.part
  pub core : job.core.part ≡ chip_of tool.plan.part

-- a job at home: its flash and its core are those of the program's part, and no page waits to be written
pub record IsAtHome {F : Type 0} (part_of : F → Part) (tool : ToolState) (job : Job F) : Type 0 where
  pub flash : part_of job.flash ≡ tool.plan.part
  pub core : job.core.part ≡ chip_of tool.plan.part
  pub replant : job.replant ≡ None

-- the addresses at which a run stops
abbrev pub targets_of : ToolState → List ℕ
targets_of tool = targets_by tool.run_to tool.plan.soft

-- the page behind the first step of a run from an address on, and its words, where that address is a breakpoint
abbrev pub page_behind : ToolState → ℕ → Option (ℕ × List ℕ)
page_behind tool start = elim (has (targets_of tool) start) [
  | true ↦ Some (start / page_words, page_of (patch tool.plan.prog (targets_of tool)) (start / page_words))
  | false ↦ None
]
