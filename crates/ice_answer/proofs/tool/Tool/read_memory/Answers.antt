use Rattle.std.proofs.Common.{ap, sym, ◌∙◌, Option}
use Rattle.part_spec.specs.Chip.{chip_of}
use Rattle.debug_spec.specs.Debugger.{replied}
use Rattle.debug_spec.specs.MemoryTypes.{Memory as Holds, access_of, read_of, memory_read}
use Rattle.ice_answer.specs.declared.memory.Memory.{Memory}
use Rattle.ice_answer.specs.Values.{memory_of, memories_of}
use Rattle.ice_answer.specs.Kept.{ToolState}
use Rattle.ice_answer.specs.Accesses.{reads}
use Rattle.ice_answer.proofs.Doing.{same_does}
use Rattle.ice_answer.proofs.tool.Tool.read_memory.Goals as goal

pub returns-in-Some : goal.returns-in-Some
returns-in-Some c = λ comparators.
    same_does (reads c.args.frame (memory_of c.in-Some.memory) c.args.count c.args.address)
    (λ part. memory_read part c.args.frame c.args.kind c.args.count c.args.address) _ _
    (λ part before s e.
    ap (λ (m : Option Holds). replied c.args.frame (read_of (chip_of part) m c.args.count c.args.address s) s)
    (ap (λ (m : Option Memory). memories_of m) (sym c.in-Some.is) ∙ c.to_read.ensures ∙
    ap (λ (k : ToolState). (access_of k.mode c.args.kind).read) (c.self.view_is ∙ e.tool)))
    (c.read_range.ensures comparators)
