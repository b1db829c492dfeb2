use Rattle.std.proofs.Common.{◌≡◌, ◌*◌, ◌/◌, ℕ, length, sym, ap, ◌∙◌, arith}
use Rattle.part_spec.specs.Chip.{page_words, page_bytes}
use Rattle.part_spec.specs.Pages.{overlaid, paired}
use Rattle.debug_spec.specs.Programming.{programmed_from}
use Rattle.debug_spec.specs.MemoryTypes.{program, written_to, programming_told}
use Rattle.flash_patch.specs.Asking.{seen}
use Rattle.ice_answer.specs.Kept.{ToolState}
use Rattle.ice_emul.proofs.ProgrammingTold.{programming_does}
use Rattle.ice_emul.proofs.programming.write_pages.Goals as goal

pub returns-clause-asks : goal.returns-clause-asks
returns-clause-asks g c =
    let bytes = c.args.bytes.now in
    let page : ℕ = c.args.address / page_bytes in
    let count : ℕ = length bytes / page_bytes in
    let prog = c.tool.inside.plan.prog in
    let start : c.args.address / 2 ≡ page_words * page = omega (arith, c.requires.page) in
    programming_does (seen g.F.Flash.words g.F.Flash.journal g.F.Flash.faults g.F.Flash.writes) c.args.frame c.args.job.now.core
    c.args.job.now.comparators c.args.out.now.items c.tell_programmed.new.out.items c.args.job.now.flash c.program_bytes-done.new.flash
    (λ d. programmed_from (overlaid prog (page_words * page) (paired bytes)) page count prog d)
    (λ q. written_to q program c.args.frame c.args.address bytes) _ _ c.program_bytes-done.new.plan _
    (λ q s is.
    ap (λ (k : ToolState). programming_told c.args.frame
    (programmed_from (overlaid k.plan.prog (c.args.address / 2) (paired bytes)) page count k.plan.prog s.device) s) (sym is) ∙
    ap (λ (n : ℕ). programming_told c.args.frame (programmed_from (overlaid prog n (paired bytes)) page count prog s.device) s) start)
    c.tool.view_is c.program_bytes-done.ensures.rest c.program_bytes-done.ensures.asks c.tell_programmed.ensures
