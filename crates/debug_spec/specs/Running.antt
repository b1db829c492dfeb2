-- How a run begins and ends, and how the session does.
use Rattle.std.specs.Prelude.{◌≡◌, ℕ, zero, suc, Bool, true, false, not, List, length, Option, None}
use Rattle.part_spec.specs.Chip.{Chip}
use Rattle.avr_spec.specs.Step.{ahead}
use Rattle.line_spec.specs.declared.refusal.Refusal.TheVariants.{Failed}
use Rattle.line_spec.specs.Messages.{okay, refused}
use Rattle.debug_spec.specs.Patch.{has, without, patch}
use Rattle.debug_spec.specs.Stop.{forced, by_step, undefined}
use Rattle.debug_spec.specs.Run.{Run, End, stepped, after, is_undefined, IsEnd, run_of}
use Rattle.debug_spec.specs.Device.{Device, Tried, untouched, launched, synced, replanted}
use Rattle.debug_spec.specs.Debugger.{Mode, stopped, launching, running, programming, leaving, closed, Debugger, listens, is_out}
use Rattle.debug_spec.specs.Debugger.{targets_by, targets, run_out, replied, told, dropping}

-- the device is made the program again, and the session is closed
abbrev pub restored : Chip → Debugger → Debugger
restored part s = let tried = synced part s.prog s.device in record s { mode = closed tried.ok; device = tried.device }

-- the session ends in a mode: at once, or with the run that is out, which is asked to stop
abbrev pub left_in : Chip → Mode → Debugger → Debugger
left_in part stopped s = restored part s
left_in part (launching number) s = s
left_in part programming s = restored part s
left_in part running s = record s { mode = leaving; stop_asked = true }
left_in part leaving s = s
left_in part (closed done) s = s

-- the session ends
abbrev pub left : Chip → Debugger → Debugger
left part s = left_in part s.mode s

-- the line ends, and the bytes held back are dropped
abbrev pub line_end : Chip → List ℕ → Debugger → Debugger
line_end part held s = elim (listens s.mode) [ true ↦ left part (dropping (length held) s) | false ↦ s ]

-- a run is prepared where the page writes for it were made; else the frame is answered that they failed
abbrev pub prepared_by : ℕ → Option ℕ → Tried → Debugger → Debugger
prepared_by number run_to tried s = elim tried.ok [
  | true ↦ record s { mode = launching number; run_to = run_to; device = tried.device; stop_asked = false }
  | false ↦ replied number (refused Failed) (record s { device = tried.device; run_to = None })
]

-- a run is prepared for the frame with this number: its breakpoints are planted, but for one at pc
abbrev pub prepared : Chip → ℕ → Option ℕ → Debugger → Debugger
prepared part number run_to s =
    prepared_by number run_to (synced part (patch s.prog (without s.machine.pc (targets_by run_to s.soft))) s.device) s

-- the frame is answered whether the launch of its run was made
abbrev pub launch_by : ℕ → Tried → Debugger → Debugger
launch_by number tried s = elim tried.ok [
  | true ↦ replied number okay (record s { mode = running; device = tried.device; launches = suc s.launches })
  | false ↦ replied number (refused Failed) (record s { mode = stopped; device = tried.device; run_to = None })
]

-- where a run is prepared, its launch is asked for
abbrev pub launch_in : Mode → Debugger → Debugger
launch_in stopped s = s
launch_in (launching number) s = launch_by number (launched s.device) s
launch_in running s = s
launch_in programming s = s
launch_in leaving s = s
launch_in (closed done) s = s

-- a run that is prepared is launched
abbrev pub launch_if_prepared : Debugger → Debugger
launch_if_prepared s = launch_in s.mode s

-- the page write behind the first step of the run that is out: where the run starts at a breakpoint
abbrev pub replant : Debugger → Tried
replant s = elim (has (targets s) s.machine.pc) [
  | true ↦ replanted (patch s.prog (targets s)) s.machine.pc s.device
  | false ↦ untouched s.device
]

-- that page write failed
abbrev pub replant_failed : Debugger → Bool
replant_failed s = not (replant s).ok

-- the device behind so many steps of the run that is out
abbrev pub device_after : ℕ → Debugger → Device
device_after zero s = s.device
device_after (suc steps) s = (replant s).device

-- the target and the device as the run that is out leaves them
abbrev pub stopped_at : Bool → Chip → End → Debugger → Debugger
stopped_at planted part e s =
    record s { machine = after part (run_out planted s) e.steps; device = device_after e.steps s }

-- the end of a run in a mode: the host is told, or the session is closed
abbrev pub ended_in : Bool → Chip → Mode → End → Debugger → Debugger
ended_in planted part stopped e s = s
ended_in planted part (launching number) e s = s
ended_in planted part programming e s = s
ended_in planted part running e s = told e.cause (record (stopped_at planted part e s) { mode = stopped; run_to = None })
ended_in planted part leaving e s = restored part (stopped_at planted part e s)
ended_in planted part (closed done) e s = s

-- the run that is out has ended so
abbrev pub run_ended : Bool → Chip → End → Debugger → Debugger
run_ended planted part e s = ended_in planted part s.mode e s

-- the run that is out may end so: a forced end comes only where a stop was asked for
pub record MayEnd (planted : Bool) (part : Chip) (s : Debugger) (e : End) : Type 0 where
  pub out : is_out s.mode ≡ true
  pub is_end : IsEnd part (run_out planted s) (replant_failed s) e
  pub asked : e.cause ≡ forced → s.stop_asked ≡ true

-- a single step as a run: with all breakpoints planted but for one at pc
abbrev pub step_of : Bool → Debugger → Run
step_of planted s = run_of planted s.prog s.machine s.soft s.comparators

-- a single step is made and told; a BREAK runs as a NOP, and a word that does not run stays
abbrev pub step_told : Bool → Chip → Debugger → Debugger
step_told planted part s = let r = step_of planted s in
    elim (is_undefined (ahead part r.start r.first)) [
      | true ↦ told undefined s
      | false ↦ told by_step (record s { machine = stepped part r })
    ]

-- the frame is answered, and the step made where the page writes for it were
abbrev pub stepped_by : Bool → Chip → ℕ → Tried → Debugger → Debugger
stepped_by planted part number tried s = elim tried.ok [
  | true ↦ step_told planted part (replied number okay (record s { device = tried.device }))
  | false ↦ replied number (refused Failed) (record s { device = tried.device })
]

-- a single step for the frame with this number
abbrev pub single_stepped : Bool → Chip → ℕ → Debugger → Debugger
single_stepped planted part number s =
    stepped_by planted part number (synced part (patch s.prog (without s.machine.pc s.soft)) s.device) s
