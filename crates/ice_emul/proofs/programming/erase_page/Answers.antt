use Rattle.std.proofs.Common.{◌≡◌, ◌<◌, ◌/◌, ℕ, nat_lt, if◌then◌else◌, refl, sym, ap, ◌∙◌, arith}
use Rattle.std.proofs.lemmas.Bool.{lt-ltb, le-ltb}
use Rattle.part_spec.specs.Chip.{chip_of, flash_bytes, page_bytes}
use Rattle.part_spec.specs.Pages.{erased}
use Rattle.line_spec.specs.Messages.{refused, response_body}
use Rattle.line_spec.specs.declared.refusal.Refusal.TheVariants.{IllegalMemoryRange}
use Rattle.debug_spec.specs.Programming.{programmed_from}
use Rattle.debug_spec.specs.Commands.{page_erased}
use Rattle.debug_spec.specs.Debugger.{replied}
use Rattle.debug_spec.specs.MemoryTypes.{programming_told}
use Rattle.flash_patch.specs.Asking.{seen}
use Rattle.ice_answer.specs.Kept.{ToolState}
use Rattle.ice_answer.proofs.Doing.{does-send, same_does, yes_if, no_if}
use Rattle.ice_emul.proofs.Asking.{asking_nothing}
use Rattle.ice_emul.proofs.ProgrammingTold.{programming_does}
use Rattle.ice_emul.proofs.programming.erase_page.Goals as goal

pub returns-then-address-from-clause-asks : goal.returns-then-address-from-clause-asks
returns-then-address-from-clause-asks g c =
    asking_nothing (seen g.F.Flash.words g.F.Flash.journal g.F.Flash.faults g.F.Flash.writes)
    (λ q. page_erased q c.args.number c.args.address) _ _ _ _ refl
    (same_does (λ q. replied c.args.number (refused IllegalMemoryRange)) (λ q. page_erased q c.args.number c.args.address) _ _
    (λ q before s e.
    let size : flash_bytes (chip_of c.part.result) ≡ flash_bytes (chip_of q) =
    ap (λ p. flash_bytes (chip_of p)) (c.part.ensures ∙ ap (λ (k : ToolState). k.plan.part) (c.tool.view_is ∙ e.tool)) in
    no_if (nat_lt c.args.address (flash_bytes (chip_of q)))
    (programming_told c.args.number (programmed_from (erased (chip_of q)) (c.args.address / page_bytes) 1 s.prog s.device) s)
    (replied c.args.number (refused IllegalMemoryRange) s)
    (le-ltb c.args.address (flash_bytes (chip_of q)) (omega (arith, c.if-address-from.true, c.from.ensures, c.words.ensures, size))))
    (does-send c.args.number (response_body (refused IllegalMemoryRange)) c.args.out.now.items c.refuse.new.out.items c.args.tool.now
    c.args.job.now.core
    c.args.job.now.comparators c.refuse.ensures.sends))

pub returns-clause-asks : goal.returns-clause-asks
returns-clause-asks g c =
    let part = chip_of c.tool.inside.plan.part in
    let page : ℕ = c.args.address / page_bytes in
    let size : flash_bytes (chip_of c.part.result) ≡ flash_bytes part = ap (λ p. flash_bytes (chip_of p)) c.part.ensures in
    let within : c.args.address < flash_bytes part = omega (arith, c.if-address-from.false, c.from.ensures, c.words.ensures, size) in
    programming_does (seen g.F.Flash.words g.F.Flash.journal g.F.Flash.faults g.F.Flash.writes) c.args.number c.args.job.now.core
    c.args.job.now.comparators c.args.out.now.items c.tell_programmed.new.out.items c.args.job.now.flash c.erase_pages-done.new.flash
    (λ d. programmed_from (erased part) page 1 c.tool.inside.plan.prog d)
    (λ q. page_erased q c.args.number c.args.address) _ _ c.erase_pages-done.new.plan _
    (λ q s is.
    ap (λ (k : ToolState). if nat_lt c.args.address (flash_bytes (chip_of k.plan.part)) then programming_told c.args.number
    (programmed_from (erased (chip_of k.plan.part)) page 1 k.plan.prog s.device) s else replied c.args.number (refused IllegalMemoryRange)
    s) (sym is) ∙
    sym (yes_if (nat_lt c.args.address (flash_bytes part))
    (programming_told c.args.number (programmed_from (erased part) page 1 c.tool.inside.plan.prog s.device) s)
    (replied c.args.number (refused IllegalMemoryRange) s) (lt-ltb c.args.address (flash_bytes part) within)))
    c.tool.view_is c.erase_pages-done.ensures.rest c.erase_pages-done.ensures.asks c.tell_programmed.ensures
