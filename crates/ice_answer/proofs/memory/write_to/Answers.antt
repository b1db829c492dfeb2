use Rattle.std.proofs.Common.{sym, subst}
use Rattle.debug_spec.specs.MemoryTypes.{written_to}
use Rattle.ice_answer.specs.declared.memory.Memory.{Memory}
use Rattle.ice_answer.specs.Values.{memory_of}
use Rattle.ice_answer.specs.Does.{Does, at}
use Rattle.ice_answer.proofs.memory.write_to.Goals as goal

pub returns-in-DataSpace-clause-does : goal.returns-in-DataSpace-clause-does
returns-in-DataSpace-clause-does c = λ left tool comparators.
    let P : Memory → Type 0 = λ memory. Does (λ part. written_to part (memory_of memory) c.args.frame c.args.address c.args.bytes.now)
    (at tool c.args.core.now comparators c.args.out.now.items) (at tool c.write_data.new.core comparators c.write_data.new.out.items) in
    subst P (sym c.in-DataSpace.is) (c.write_data.ensures.does tool comparators)

pub returns-in-IoSpace-clause-does : goal.returns-in-IoSpace-clause-does
returns-in-IoSpace-clause-does c = λ left tool comparators.
    let P : Memory → Type 0 = λ memory. Does (λ part. written_to part (memory_of memory) c.args.frame c.args.address c.args.bytes.now)
    (at tool c.args.core.now comparators c.args.out.now.items) (at tool c.write_io.new.core comparators c.write_io.new.out.items) in
    subst P (sym c.in-IoSpace.is) (c.write_io.ensures.does tool comparators)
