-- The run that is out, as one makes it who has the device and knows no set of addresses.
use Rattle.std.specs.Prelude.{◌≡◌, ℕ, true, [], Option, Some, None}
use Rattle.part_spec.specs.Chip.{Chip}
use Rattle.debug_spec.specs.Patch.{has}
use Rattle.debug_spec.specs.Run.{Run, End, after, IsEnd, end_within}
use Rattle.debug_spec.specs.RunLaws.{named_cause}
use Rattle.debug_spec.specs.Debugger.{Debugger, is_out, targets, run_out}
use Rattle.debug_spec.specs.Running.{replant, replant_failed}
use Rattle.debug_spec.specs.SessionLaws.{IsSound}

-- the run under the words that the device holds, at its launch and behind the page write behind its first step
abbrev pub device_run : Debugger → Run
device_run s = record {
  start = s.machine;
  fresh = true;
  replants = has (targets s) s.machine.pc;
  first = s.device.words;
  later = (replant s).device.words;
  stops = [];
  comparators = s.comparators;
}

-- an end of it, named by the set of the run: a BREAK at one of its addresses is a breakpoint
abbrev pub named_end : Chip → Debugger → End → End
named_end part s e = record {
  steps = e.steps;
  cause = named_cause (targets s) (after part (run_out true s) e.steps).pc e.cause;
}

-- the same of an end that may not be there
abbrev pub named_end_if : Chip → Debugger → Option End → Option End
named_end_if part s None = None
named_end_if part s (Some e) = Some (named_end part s e)

-- it is the run that is out: through the same states, to the same ends but for their names
pub record IsDeviceRun (part : Chip) (s : Debugger) : Type 0 where
  pub states : (e : End) → IsEnd part (device_run s) (replant_failed s) e →
      after part (device_run s) e.steps ≡ after part (run_out true s) e.steps
  pub ends : (e : End) → IsEnd part (device_run s) (replant_failed s) e →
      IsEnd part (run_out true s) (replant_failed s) (named_end part s e)
  pub within : (n : ℕ) →
      end_within part (run_out true s) (replant_failed s) n ≡ named_end_if part s (end_within part (device_run s) (replant_failed s) n)

-- while a run is out the device makes it
abbrev pub DeviceMakesRuns : Type 0
DeviceMakesRuns = (part : Chip) (s : Debugger) → IsSound part s → is_out s.mode ≡ true → IsDeviceRun part s
