-- Reads and writes of memories: what the code decides of them.
use Rattle.std.specs.Prelude.{◌≡◌, ℕ, ◌+◌, ◌≤◌, true, List, length, Some, Result, Ok, Err}
use Rattle.part_spec.specs.Chip.{Chip}
use Rattle.line_spec.specs.declared.refusal.Refusal.{Refusal}
use Rattle.line_spec.specs.Messages.{refused}
use Rattle.debug_spec.specs.Debugger.{Mode, Debugger, replied}
use Rattle.debug_spec.specs.MemoryTypes.{Memory as Holds, access_of, memory_size, in_whole_units, read_of, memory_written}
use Rattle.ice_answer.specs.declared.memory.Memory.{Memory}
use Rattle.ice_answer.specs.Values.{memory_of}

-- a read of a memory is answered
abbrev pub reads : (frame : ℕ) → Holds → (count address : ℕ) → Chip → Debugger → Debugger
reads frame kind count address part s = replied frame (read_of part (Some kind) count address s) s

-- a write of so many bytes is for a memory, in which they lie as whole units; or it is refused so
abbrev pub IsWritten : Chip → Mode → (kind address count : ℕ) → Result Memory Refusal → Type 0
IsWritten part mode kind address count (Ok memory) = ((access_of mode kind).written ≡ Some (memory_of memory)) ×
    (address + count ≤ memory_size part (memory_of memory)) × (in_whole_units (memory_of memory) address count ≡ true)
IsWritten part mode kind address count (Err refusal) = (frame : ℕ) (bytes : List ℕ) (s : Debugger) → length bytes ≡ count → mode ≡ s.mode →
    memory_written part frame kind address bytes s ≡ replied frame (refused refusal) s
