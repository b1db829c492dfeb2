use Rattle.std.proofs.Common.{◌*◌, ℕ, ◌+◌, ◌-◌, ◌/◌, length, true, false, refl, ap, ◌∙◌, arith}
use Rattle.part_spec.specs.Chip.{page_words, page_bytes}
use Rattle.part_spec.specs.Pages.{overlaid, paired}
use Rattle.flash_patch.specs.Asking.{seen}
use Rattle.flash_patch.specs.State.{PlanState}
use Rattle.ice_emul.proofs.PageProgramming.{programs_more, programs_stop, page_of-overlaid}
use Rattle.ice_emul.proofs.programming.program_bytes.Goals as goal

pub returns-in-Err-clause-asks : goal.returns-in-Err-clause-asks
returns-in-Err-clause-asks g c =
    let flash = seen g.F.Flash.words g.F.Flash.journal g.F.Flash.faults g.F.Flash.writes in
    let wanted = overlaid c.args.plan.now.prog (page_words * c.args.first) (paired c.args.bytes.now) in
    let page = c.loop-page.page in
    let count : ℕ = length c.args.bytes.now / page_bytes in
    let more = programs_more flash wanted c.args.first page (page + 1) (c.args.first + page) c.args.plan.now.prog c.loop-page.plan.prog
    c.program_page.new.self.prog c.args.flash.now c.loop-page.flash c.program_page.new.flash false refl refl c.loop-page.invariant.asks
    (c.in-Err.ensures.asks wanted (page_of-overlaid c.args.plan.now.prog c.args.bytes.now c.paired_page-words.result c.args.first page
    (c.args.first + page)
    (page_bytes * page) (page_bytes * page + page_bytes - page_bytes * page)
    (omega (arith, c.program_word-first.ensures.size, c.requires.within)) (omega (arith, c.requires.whole))
    (omega (arith, c.loop-page-test.true)) refl refl (omega arith) c.paired_page-words.ensures)) in
    programs_stop flash wanted c.args.first (page + 1) (count - (page + 1)) count c.args.plan.now.prog
    c.program_page.new.self.prog c.args.flash.now c.program_page.new.flash (omega (arith, c.loop-page-test.true)) more

pub loop-page-preserved : goal.loop-page-preserved
loop-page-preserved g c =
    let flash = seen g.F.Flash.words g.F.Flash.journal g.F.Flash.faults g.F.Flash.writes in
    let wanted = overlaid c.args.plan.now.prog (page_words * c.args.first) (paired c.args.bytes.now) in
    let page = c.loop-page.page in record {
      part = c.in-Ok.ensures.part ∙ c.loop-page.invariant.part;
      rest = c.in-Ok.ensures.rest ∙ ap (λ (p : PlanState). record p { prog = c.program_page.new.self.prog }) c.loop-page.invariant.rest;
      counts = omega (arith, c.in-Ok.ensures.cause.0, c.loop-page.invariant.counts);
      asks = programs_more flash wanted c.args.first page (page + 1) (c.args.first + page) c.args.plan.now.prog c.loop-page.plan.prog
          c.program_page.new.self.prog c.args.flash.now c.loop-page.flash c.program_page.new.flash true refl refl c.loop-page.invariant.asks
          (c.in-Ok.ensures.asks wanted (page_of-overlaid c.args.plan.now.prog c.args.bytes.now c.paired_page-words.result c.args.first page
          (c.args.first + page)
          (page_bytes * page) (page_bytes * page + page_bytes - page_bytes * page)
          (omega (arith, c.program_word-first.ensures.size, c.requires.within)) (omega (arith, c.requires.whole))
          (omega (arith, c.loop-page-test.true)) refl refl (omega arith) c.paired_page-words.ensures));
    }
