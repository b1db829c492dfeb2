use Rattle.std.proofs.Common.{◌≡◌, ◌<◌, ◌/◌, ℕ, nat_lt, ap, ◌∙◌, arith}
use Rattle.std.proofs.lemmas.Bool.{lt-ltb, le-ltb}
use Rattle.part_spec.specs.Chip.{chip_of, flash_bytes, page_bytes}
use Rattle.part_spec.specs.Pages.{erased}
use Rattle.line_spec.specs.Messages.{refused, response_body}
use Rattle.line_spec.specs.declared.refusal.Refusal.TheVariants.{IllegalMemoryRange}
use Rattle.debug_spec.specs.Programming.{erased_page}
use Rattle.debug_spec.specs.Commands.{page_erased}
use Rattle.debug_spec.specs.Debugger.{replied}
use Rattle.debug_spec.specs.MemoryTypes.{programming_told}
use Rattle.ice_answer.specs.Kept.{ToolState}
use Rattle.ice_answer.proofs.Doing.{yes_if, no_if}
use Rattle.ice_verify.specs.Standing.{at_of, given_pages, with_program}
use Rattle.ice_verify.proofs.Good.{programmed_made}
use Rattle.ice_verify.proofs.DoingWell.{programmed_so, sent_well, well_in_words}
use Rattle.ice_verify.proofs.plain.Plain.erase_page.Goals as goal

pub returns-then-address-from-clause-does : goal.returns-then-address-from-clause-does
returns-then-address-from-clause-does c = λ part before s e good.
    let size : flash_bytes (chip_of c.part.result) ≡ flash_bytes (chip_of part) =
    ap (λ p. flash_bytes (chip_of p)) (c.part.ensures.part ∙ ap (λ (k : ToolState). k.plan.part) e.tool) in
    well_in_words part before (at_of c.args.self.now c.refuse.new.out.items) (replied c.args.number (refused IllegalMemoryRange) s)
    (page_erased (chip_of part) c.args.number c.args.address s)
    (no_if (nat_lt c.args.address (flash_bytes (chip_of part)))
    (programming_told c.args.number (erased_page (chip_of part) (c.args.address / page_bytes) s.prog s.device) s)
    (replied c.args.number (refused IllegalMemoryRange) s)
    (le-ltb c.args.address (flash_bytes (chip_of part)) (omega (arith, c.if-address-from.true, c.from.ensures, c.words.ensures, size))))
    (sent_well c.args.number (response_body (refused IllegalMemoryRange)) c.args.out.now.items c.refuse.new.out.items c.args.self.now.tool
    c.args.self.now.core c.args.self.now.comparators c.refuse.ensures.sends part before s e good)

pub returns-clause-does : goal.returns-clause-does
returns-clause-does c = λ part before s e good.
    let own = c.args.self.now.tool.plan in
    let page : ℕ = c.args.address / page_bytes in
    let size : flash_bytes (chip_of c.part.result) ≡ flash_bytes (chip_of part) =
    ap (λ p. flash_bytes (chip_of p)) (c.part.ensures.part ∙ ap (λ (k : ToolState). k.plan.part) e.tool) in
    let within : c.args.address < flash_bytes (chip_of part) = omega (arith, c.if-address-from.false, c.from.ensures, c.words.ensures, size) in
    let done = erased_page (chip_of part) page s.prog s.device in
    well_in_words part before (at_of c.erase.new.self c.okay.new.out.items) (programming_told c.args.number done s)
    (page_erased (chip_of part) c.args.number c.args.address s)
    (yes_if (nat_lt c.args.address (flash_bytes (chip_of part))) (programming_told c.args.number done s)
    (replied c.args.number (refused IllegalMemoryRange) s) (lt-ltb c.args.address (flash_bytes (chip_of part)) within))
    (programmed_so c.args.number done (given_pages (erased (chip_of part)) page 1 s.prog) c.args.self.now c.erase.new.self c.args.out.now.items
    c.okay.new.out.items c.okay.ensures.sends (programmed_made (erased (chip_of part)) page 1 s.prog s.device good)
    (c.erase.ensures ∙
    ap (λ (k : ToolState). with_program (given_pages (erased (chip_of k.plan.part)) page 1 k.plan.prog) c.args.self.now) e.tool)
    part before s e)
