use Rattle.std.proofs.Common.{◌≡◌, ◌<◌, nat_lt, ap, ◌∙◌, refl, arith}
use Rattle.std.proofs.lemmas.Bool.{lt-ltb}
use Rattle.part_spec.specs.Chip.{chip_of, words_of}
use Rattle.avr_spec.specs.Kept.{Kept}
use Rattle.avr_spec.specs.Effect.{with_pc}
use Rattle.line_spec.specs.Messages.{okay, refused, response_body}
use Rattle.line_spec.specs.declared.refusal.Refusal.TheVariants.{IllegalMemoryRange}
use Rattle.debug_spec.specs.Debugger.{Debugger, replied}
use Rattle.debug_spec.specs.Commands.{pc_written}
use Rattle.ice_answer.specs.Does.{at}
use Rattle.ice_answer.proofs.Doing.{changed_then_sent, in_words, yes_if}
use Rattle.ice_answer.proofs.commands.write_pc.Goals as goal

pub returns-clause-does : goal.returns-clause-does
returns-clause-does c = λ tool comparators part before s e.
    let t : Debugger = record s { machine = with_pc c.args.address s.machine } in
    let size : words_of (chip_of c.part.result) ≡ words_of (chip_of part) = ap words_of (c.part.ensures ∙ ap (λ (k : Kept). k.part) e.core) in
    let within : c.args.address < words_of (chip_of part) =
    omega (arith, c.if-address-from.false, c.from.ensures, c.words.ensures, size) in
    in_words part before (at tool c.set_pc.new.self comparators c.okay.new.out.items) s (replied c.args.number okay t)
    (pc_written (chip_of part) c.args.number c.args.address s)
    (yes_if (nat_lt c.args.address (words_of (chip_of part))) (replied c.args.number okay t) (replied c.args.number (refused IllegalMemoryRange) s)
    (lt-ltb c.args.address (words_of (chip_of part)) within))
    (changed_then_sent c.args.number (response_body okay) c.args.out.now.items c.okay.new.out.items tool c.set_pc.new.self comparators c.okay.ensures.sends
    part before s t
    (record { tool = e.tool; core = c.set_pc.ensures.moves (chip_of part) s.machine e.core; comparators = e.comparators; sent = e.sent })
    (record { device = refl; launches = refl }))
