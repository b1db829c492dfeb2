use Rattle.std.proofs.Common.{refl}
use Rattle.debug_spec.specs.MemoryTypes.{written_to, memory_written}
use Rattle.ice_answer.specs.Values.{memory_of}
use Rattle.ice_answer.proofs.Doing.{same_does}
use Rattle.ice_answer.proofs.MemoryWrites.{written_by_tool}
use Rattle.ice_answer.proofs.tool.Tool.write_beside_program.Goals as goal

pub returns-in-Ok-clause-does : goal.returns-in-Ok-clause-does
returns-in-Ok-clause-does c = λ left comparators.
    same_does (λ part. written_to part (memory_of c.in-Ok.memory) c.args.frame c.args.address c.args.bytes.now)
    (λ part. memory_written part c.args.frame c.args.kind c.args.address c.args.bytes.now) _ _
    (λ part before s e.
    written_by_tool c.args.self.now part c.args.frame c.args.kind c.args.address _ c.in-Ok.memory c.args.bytes.now s e.tool refl
    c.in-Ok.ensures)
    (c.write_to.ensures.does left c.args.self.now comparators)
