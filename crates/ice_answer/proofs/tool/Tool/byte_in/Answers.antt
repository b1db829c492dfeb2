use Rattle.std.proofs.Common.{sym, ap, ◌∙◌}
use Rattle.part_spec.specs.Chip.{chip_of}
use Rattle.avr_spec.specs.Kept.{Kept}
use Rattle.debug_spec.specs.MemoryTypes.{byte_in}
use Rattle.ice_answer.specs.Values.{memory_of}
use Rattle.ice_answer.specs.declared.memory.Memory.{Memory}
use Rattle.ice_answer.proofs.tool.Tool.byte_in.Goals as goal

pub returns-in-IoSpace : goal.returns-in-IoSpace
returns-in-IoSpace c = λ part s tool core.
    c.load.ensures (chip_of part) s.machine.io (c.io.ensures ∙ ap (λ (k : Kept). k.io) core) ∙
    ap (λ (memory : Memory). byte_in (chip_of part) (memory_of memory) s c.args.address) (sym c.in-IoSpace.is)
