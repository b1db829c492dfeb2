use Rattle.std.proofs.Common.{ap, ◌∙◌, ◌+◌, refl}
use Rattle.part_spec.specs.Chip.{chip_of}
use Rattle.avr_spec.specs.Machine.{Machine}
use Rattle.avr_spec.specs.Kept.{kept}
use Rattle.avr_spec.specs.Effect.{with_io}
use Rattle.line_spec.specs.Messages.{okay, response_body}
use Rattle.debug_spec.specs.Debugger.{Debugger}
use Rattle.debug_spec.specs.MemoryTypes.{stored_from}
use Rattle.ice_answer.proofs.Doing.{changed_then_sent}
use Rattle.ice_answer.proofs.MemoryBytes.{stored_io}
use Rattle.ice_answer.proofs.memory.write_io.Goals as goal

pub returns-clause-does : goal.returns-clause-does
returns-clause-does c = λ tool comparators part before s e.
    let bytes = c.args.bytes.now in
    let t : Debugger = record s { machine = stored_from with_io c.args.address bytes s.machine } in
    changed_then_sent c.args.frame (response_body okay) c.args.out.now.items c.okay.new.out.items tool c.store_all.new.core comparators
    c.okay.ensures.sends part before s t
    (record {
      tool = e.tool;
      core = c.store_all.ensures.moves (chip_of part) s.machine e.core ∙
          ap (λ (q : Machine). kept (chip_of part) q)
          (stored_io (chip_of part) bytes c.args.address (0x20 + c.args.address) s.machine refl c.requires.within);
      comparators = e.comparators;
      sent = e.sent;
    })
    (record { device = refl; launches = refl })
