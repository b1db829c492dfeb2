use Rattle.std.proofs.Common.{◌≡◌, ℕ, true, sym, ap, ◌∙◌}
use Rattle.part_spec.specs.declared.part.Part.{Part}
use Rattle.part_spec.specs.Chip.{chip_of}
use Rattle.part_spec.specs.Pages.{erased}
use Rattle.line_spec.specs.Messages.{chip_erase}
use Rattle.debug_spec.specs.Programming.{programmed_from}
use Rattle.debug_spec.specs.Commands.{carried_out}
use Rattle.debug_spec.specs.MemoryTypes.{programming_told}
use Rattle.flash_patch.specs.Asking.{seen}
use Rattle.ice_answer.specs.Kept.{ToolState}
use Rattle.ice_emul.proofs.ProgrammingTold.{programming_does}
use Rattle.ice_emul.proofs.programming.erase_all.Goals as goal

pub returns-clause-asks : goal.returns-clause-asks
returns-clause-asks g c =
    let part = chip_of c.tool.inside.plan.part in
    let pages : c.pages-pages.result ≡ part.pages = c.pages-pages.ensures ∙ ap (λ (q : Part). (chip_of q).pages) c.part.ensures in
    programming_does (seen g.F.Flash.words g.F.Flash.journal g.F.Flash.faults g.F.Flash.writes) c.args.number c.args.job.now.core
    c.args.job.now.comparators c.args.out.now.items c.tell_programmed.new.out.items c.args.job.now.flash c.erase_pages-done.new.flash
    (λ d. programmed_from (erased part) 0 c.pages-pages.result c.tool.inside.plan.prog d)
    (λ q. carried_out true q c.args.number chip_erase) _ _ c.erase_pages-done.new.plan _
    (λ q s is.
    ap (λ (k : ToolState). programming_told c.args.number
    (programmed_from (erased (chip_of k.plan.part)) 0 (chip_of k.plan.part).pages k.plan.prog s.device) s) (sym is) ∙
    ap (λ (n : ℕ). programming_told c.args.number (programmed_from (erased part) 0 n c.tool.inside.plan.prog s.device) s) (sym pages))
    c.tool.view_is c.erase_pages-done.ensures.rest c.erase_pages-done.ensures.asks c.tell_programmed.ensures
