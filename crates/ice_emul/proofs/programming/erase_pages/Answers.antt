use Rattle.std.proofs.Common.{◌+◌, ◌-◌, true, false, refl, ap, ◌∙◌, arith}
use Rattle.part_spec.specs.Chip.{chip_of}
use Rattle.part_spec.specs.Pages.{erased}
use Rattle.flash_patch.specs.Asking.{seen}
use Rattle.flash_patch.specs.State.{PlanState}
use Rattle.ice_emul.proofs.PageProgramming.{programs_more, programs_stop, page_of-erased}
use Rattle.ice_emul.proofs.programming.erase_pages.Goals as goal

pub returns-in-Err-clause-asks : goal.returns-in-Err-clause-asks
returns-in-Err-clause-asks g c =
    let flash = seen g.F.Flash.words g.F.Flash.journal g.F.Flash.faults g.F.Flash.writes in
    let part = chip_of c.args.plan.now.part in
    let page = c.loop-page.page in
    let more = programs_more flash (erased part) c.args.first page (page + 1) (c.args.first + page) c.args.plan.now.prog
    c.loop-page.plan.prog
    c.program_page.new.self.prog c.args.flash.now c.loop-page.flash c.program_page.new.flash false refl refl c.loop-page.invariant.asks
    (c.in-Err.ensures.asks (erased part)
    (page_of-erased part _ (c.args.first + page) (omega (arith, c.loop-page-test.true, c.requires.within)) refl)) in
    programs_stop flash (erased part) c.args.first (page + 1) (c.args.count - (page + 1)) c.args.count c.args.plan.now.prog
    c.program_page.new.self.prog c.args.flash.now c.program_page.new.flash (omega (arith, c.loop-page-test.true)) more

pub loop-page-preserved : goal.loop-page-preserved
loop-page-preserved g c =
    let flash = seen g.F.Flash.words g.F.Flash.journal g.F.Flash.faults g.F.Flash.writes in
    let part = chip_of c.args.plan.now.part in
    let page = c.loop-page.page in record {
      part = c.in-Ok.ensures.part ∙ c.loop-page.invariant.part;
      rest = c.in-Ok.ensures.rest ∙ ap (λ (p : PlanState). record p { prog = c.program_page.new.self.prog }) c.loop-page.invariant.rest;
      counts = omega (arith, c.in-Ok.ensures.cause.0, c.loop-page.invariant.counts);
      asks = programs_more flash (erased part) c.args.first page (page + 1) (c.args.first + page) c.args.plan.now.prog c.loop-page.plan.prog
          c.program_page.new.self.prog c.args.flash.now c.loop-page.flash c.program_page.new.flash true refl refl c.loop-page.invariant.asks
          (c.in-Ok.ensures.asks (erased part)
          (page_of-erased part _ (c.args.first + page) (omega (arith, c.loop-page-test.true, c.requires.within)) refl));
    }
