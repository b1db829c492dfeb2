use Rattle.std.proofs.Common.{◌+◌, refl, sym, ap, ◌∙◌, subst, arith}
use Rattle.part_spec.specs.Chip.{chip_of}
use Rattle.part_spec.specs.Pages.{erased}
use Rattle.ice_answer.proofs.PageWords.{page_of-erased}
use Rattle.ice_verify.specs.declared.plain.Plain.{Plain}
use Rattle.ice_verify.specs.Standing.{IsReady}
use Rattle.ice_verify.proofs.Pages.{ready-program, page_given}
use Rattle.ice_verify.proofs.plain.Plain.erase.Goals as goal

pub give_page-requires-clause-ready : goal.give_page-requires-clause-ready
give_page-requires-clause-ready c =
    subst (λ (p : Plain). IsReady p) (sym c.loop-page.invariant) (ready-program _ c.args.self.now c.requires.ready)

pub give_page-requires-clause-soft : goal.give_page-requires-clause-soft
give_page-requires-clause-soft c = ap (λ (p : Plain). p.tool.plan.soft) c.loop-page.invariant ∙ c.requires.soft

pub give_page-requires-clause-within : goal.give_page-requires-clause-within
give_page-requires-clause-within c =
    omega (arith, c.loop-page-test.true, c.requires.within, ap (λ (p : Plain). (chip_of p.tool.plan.part).pages) c.loop-page.invariant)

pub loop-page-preserved : goal.loop-page-preserved
loop-page-preserved c =
    let part = chip_of c.args.self.now.tool.plan.part in
    let page = c.loop-page.page in
    page_given (erased part) c.args.first page (c.args.first + page) (page + 1) c.args.self.now.tool.plan.prog _ c.args.self.now c.loop-page.self
    c.give_page.new.self refl (omega arith)
    (sym (page_of-erased part _ (c.args.first + page) (omega (arith, c.loop-page-test.true, c.requires.within)) refl))
    c.loop-page.invariant c.give_page.ensures
