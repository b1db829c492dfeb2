use Rattle.std.proofs.Common.{List, ℕ, refl, subst}
use Rattle.avr_spec.specs.Kept.{Kept}
use Rattle.debug_spec.specs.MemoryTypes.{program, written_to, memory_written}
use Rattle.ice_answer.specs.declared.memory.Memory.TheVariants.{Program}
use Rattle.ice_answer.specs.Does.{at}
use Rattle.ice_answer.proofs.MemoryWrites.{written_by_tool}
use Rattle.ice_verify.specs.Well.{DoesWell}
use Rattle.ice_verify.specs.Standing.{at_of}
use Rattle.ice_verify.proofs.DoingWell.{well, same_well}
use Rattle.ice_verify.proofs.plain.Plain.write_memory.Goals as goal

pub returns-else-write_beside_program-clause-does : goal.returns-else-write_beside_program-clause-does
returns-else-write_beside_program-clause-does c =
    well (λ q. memory_written q c.args.frame c.args.kind c.args.address c.args.bytes.now) _ _
    (c.write_beside_program.ensures.does c.if-write_beside_program.false c.args.self.now.comparators)

pub returns-then-write_beside_program-clause-does : goal.returns-then-write_beside_program-clause-does
returns-then-write_beside_program-clause-does c =
    let bytes = c.args.bytes.now in
    let told = c.if-write_beside_program.ensures in
    let ByCore : Kept → Type 0 = λ core. DoesWell (λ q. written_to q program c.args.frame c.args.address bytes)
    (at c.args.self.now.tool core c.args.self.now.comparators c.write_beside_program.new.out.items)
    (at_of c.write_pages.new.self c.write_pages.new.out.items) in
    let ByOut : List ℕ → Type 0 = λ out. DoesWell (λ q. written_to q program c.args.frame c.args.address bytes)
    (at c.args.self.now.tool c.args.self.now.core c.args.self.now.comparators out)
    (at_of c.write_pages.new.self c.write_pages.new.out.items) in
    same_well (λ q. written_to q program c.args.frame c.args.address bytes)
    (λ q. memory_written q c.args.frame c.args.kind c.args.address bytes) _ _
    (λ part before s e good. written_by_tool c.args.self.now.tool part c.args.frame c.args.kind c.args.address _ Program bytes s e.tool refl
    (told.left refl))
    (subst ByOut (told.out refl) (subst ByCore (told.core refl) c.write_pages.ensures.does))
