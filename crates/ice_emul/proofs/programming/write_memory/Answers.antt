use Rattle.std.proofs.Common.{List, ℕ, refl, subst}
use Rattle.avr_spec.specs.Kept.{Kept}
use Rattle.debug_spec.specs.MemoryTypes.{program, written_to, memory_written}
use Rattle.flash_patch.specs.Asking.{seen}
use Rattle.ice_answer.specs.declared.memory.Memory.TheVariants.{Program}
use Rattle.ice_emul.specs.Asking.{DoesAsking}
use Rattle.ice_answer.specs.Does.{at}
use Rattle.ice_emul.proofs.Asking.{asking_nothing, same_asking}
use Rattle.ice_answer.proofs.MemoryWrites.{written_by_tool}
use Rattle.ice_emul.proofs.programming.write_memory.Goals as goal

pub returns-else-write_beside_program-clause-asks : goal.returns-else-write_beside_program-clause-asks
returns-else-write_beside_program-clause-asks g c =
    asking_nothing (seen g.F.Flash.words g.F.Flash.journal g.F.Flash.faults g.F.Flash.writes)
    (λ q. memory_written q c.args.frame c.args.kind c.args.address c.args.bytes.now) _ _ _ _ refl
    (c.write_beside_program.ensures.does c.if-write_beside_program.false c.args.job.now.comparators)

pub returns-then-write_beside_program-clause-asks : goal.returns-then-write_beside_program-clause-asks
returns-then-write_beside_program-clause-asks g c =
    let flash = seen g.F.Flash.words g.F.Flash.journal g.F.Flash.faults g.F.Flash.writes in
    let bytes = c.args.bytes.now in
    let told = c.if-write_beside_program.ensures in
    let ByCore : Kept → Type 0 = λ core. DoesAsking flash (λ q. written_to q program c.args.frame c.args.address bytes)
    (at c.args.tool.now core c.args.job.now.comparators c.write_beside_program.new.out.items) c.args.job.now.flash
    (at c.write_pages.new.tool c.write_pages.new.job.core c.write_pages.new.job.comparators c.write_pages.new.out.items)
    c.write_pages.new.job.flash in
    let ByOut : List ℕ → Type 0 = λ out. DoesAsking flash (λ q. written_to q program c.args.frame c.args.address bytes)
    (at c.args.tool.now c.args.job.now.core c.args.job.now.comparators out) c.args.job.now.flash
    (at c.write_pages.new.tool c.write_pages.new.job.core c.write_pages.new.job.comparators c.write_pages.new.out.items)
    c.write_pages.new.job.flash in
    same_asking flash (λ q. written_to q program c.args.frame c.args.address bytes)
    (λ q. memory_written q c.args.frame c.args.kind c.args.address bytes) _ _ _ _
    (λ part before s e. written_by_tool c.args.tool.now part c.args.frame c.args.kind c.args.address _ Program bytes s e.tool refl
    (told.left refl))
    (subst ByOut (told.out refl) (subst ByCore (told.core refl) c.write_pages.ensures.asks))
