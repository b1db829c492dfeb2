use Rattle.std.proofs.Common.{◌≡◌, length}
use Rattle.part_spec.specs.declared.part.Part.{Part}
use Rattle.part_spec.specs.Chip.{chip_of}
use Rattle.avr_spec.specs.Kept.{kept}
use Rattle.line_spec.specs.Frames.{IsBytes}
use Rattle.debug_spec.specs.Debugger.{Debugger}
use Rattle.debug_spec.specs.MemoryTypes.{byte_in, bytes_from}
use Rattle.ice_answer.specs.Values.{memory_of}
use Rattle.ice_answer.specs.Kept.{kept_tool}
use Rattle.ice_answer.proofs.tool.Tool.bytes_from.Given as goal

abbrev pub invariant-loop-place : goal.invariant-loop-place
invariant-loop-place l = record {
  size : length l.bytes.items ≡ l.place;
  range : IsBytes l.bytes.items;
  bytes : (part : Part) (s : Debugger) → l.self ≡ kept_tool part s → l.core ≡ kept (chip_of part) s.machine →
      l.bytes.items ≡ bytes_from (byte_in (chip_of part) (memory_of l.memory) s) l.address l.place;
}
