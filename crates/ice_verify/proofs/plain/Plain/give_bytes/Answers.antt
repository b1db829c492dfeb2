use Rattle.std.proofs.Common.{◌+◌, ◌-◌, ◌*◌, refl, sym, ap, ◌∙◌, subst, arith}
use Rattle.part_spec.specs.Chip.{chip_of, page_words, page_bytes}
use Rattle.part_spec.specs.Pages.{overlaid, paired}
use Rattle.ice_answer.proofs.PageWords.{page_of-overlaid}
use Rattle.ice_verify.specs.declared.plain.Plain.{Plain}
use Rattle.ice_verify.specs.Standing.{IsReady}
use Rattle.ice_verify.proofs.Pages.{ready-program, page_given}
use Rattle.ice_verify.proofs.plain.Plain.give_bytes.Goals as goal

pub give_page-requires-clause-ready : goal.give_page-requires-clause-ready
give_page-requires-clause-ready c =
    subst (λ (p : Plain). IsReady p) (sym c.loop-page.invariant) (ready-program _ c.args.self.now c.requires.ready)

pub give_page-requires-clause-soft : goal.give_page-requires-clause-soft
give_page-requires-clause-soft c = ap (λ (p : Plain). p.tool.plan.soft) c.loop-page.invariant ∙ c.requires.soft

pub give_page-requires-clause-within : goal.give_page-requires-clause-within
give_page-requires-clause-within c =
    omega (
      arith,
      c.loop-page-test.true,
      c.requires.within,
      c.requires.whole,
      ap (λ (p : Plain). (chip_of p.tool.plan.part).pages) c.loop-page.invariant,
    )

pub loop-page-preserved : goal.loop-page-preserved
loop-page-preserved c =
    let prog = c.args.self.now.tool.plan.prog in
    let bytes = c.args.bytes.now in
    let wanted = overlaid prog (page_words * c.args.first) (paired bytes) in
    let page = c.loop-page.page in
    page_given wanted c.args.first page (c.args.first + page) (page + 1) prog c.paired_page-words.result c.args.self.now c.loop-page.self
    c.give_page.new.self refl (omega arith)
    (sym (page_of-overlaid prog bytes c.paired_page-words.result c.args.first page (c.args.first + page) (page_bytes * page)
    (page_bytes * page + page_bytes - page_bytes * page) (omega (arith, c.part-part.ensures.size, c.requires.within))
    (omega (arith, c.requires.whole)) (omega (arith, c.loop-page-test.true)) refl refl (omega arith) c.paired_page-words.ensures))
    c.loop-page.invariant c.give_page.ensures
