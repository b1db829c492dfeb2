-- The laws of scripts, as facts. Each is proved as the contract of a function of `src/laws.rt`.
use Rattle.std.specs.Prelude.{◌≡◌, ℕ, Bool, List, []}
use Rattle.part_spec.specs.Chip.{Chip}
use Rattle.debug_spec.specs.Device.{Device}
use Rattle.debug_spec.specs.Debugger.{Debugger, opened}
use Rattle.debug_spec.specs.Replay.{over_all}
use Rattle.shell_spec.specs.Sent.{requests_of}
use Rattle.shell_spec.specs.Script.{Ending, script, left_behind}
use Rattle.shell_spec.specs.Transcript.{IsTranscript}

-- a script has one transcript at most, one ending, and one debugger behind it
abbrev pub OneTranscript : Type 0
OneTranscript = (planted : Bool) (part : Chip) (stops prog : List ℕ) (device : Device) (lines : List (List ℕ)) (text other : List ℕ)
    (ending other_ending : Ending) (end other_end : Debugger) → IsTranscript planted part stops prog device lines text ending end →
    IsTranscript planted part stops prog device lines other other_ending other_end →
    (text ≡ other) × (ending ≡ other_ending) × (end ≡ other_end)

-- the debugger behind a script is that of the session over the commands of its lines
abbrev pub ScriptsAreSessions : Type 0
ScriptsAreSessions = (planted : Bool) (part : Chip) (stops prog : List ℕ) (device : Device) (lines : List (List ℕ)) →
    let s = script planted part stops prog device lines in
    left_behind planted part stops s ≡ over_all planted part stops (requests_of 0 s.commands) [] (opened part prog device)
