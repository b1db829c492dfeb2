use Rattle.std.proofs.Common.{ℕ, List, sym, ◌∙◌, ap, is_ok}
use Rattle.part_spec.specs.Chip.{chip_of}
use Rattle.part_spec.specs.Pages.{page_of}
use Rattle.part_spec.proofs.PageLemmas.{page-within, page_of-with_page}
use Rattle.debug_spec.proofs.PageLemmas.{same_words-true}
use Rattle.flash_patch.proofs.Writes.{asks-nothing, asks-tried}
use Rattle.flash_patch.proofs.pages.sync_page.Goals as goal

pub returns-then-has_words-clause-asks : goal.returns-then-has_words-clause-asks
returns-then-has_words-clause-asks g c = λ wanted is.
    asks-nothing g.F.Flash.words g.F.Flash.journal g.F.Flash.faults g.F.Flash.writes wanted c.args.page c.args.content.now c.args.flash.now
    is (sym c.has_words.ensures ∙ c.if-has_words.true)

pub returns-then-has_words-clause-words : goal.returns-then-has_words-clause-words
returns-then-has_words-clause-words g c =
    same_words-true (page_of (g.F.Flash.words c.args.flash.now) c.args.page) c.args.content.now
    (sym c.has_words.ensures ∙ c.if-has_words.true)

pub returns-in-Ok-clause-asks : goal.returns-in-Ok-clause-asks
returns-in-Ok-clause-asks g c = λ wanted is.
    let did = c.write_page.ensures in
    asks-tried g.F.Flash.words g.F.Flash.journal g.F.Flash.faults g.F.Flash.writes c.write_page.result wanted c.args.page
    c.args.content.now c.args.flash.now c.write_page.new.self _ (ap is_ok c.in-Ok.is) is (sym c.has_words.ensures ∙ c.if-has_words.false)
    did.moved did.ok did.logged did.err did.err_logged did.cause

pub returns-in-Ok-clause-words : goal.returns-in-Ok-clause-words
returns-in-Ok-clause-words g c =
    let words = g.F.Flash.words c.args.flash.now in
    let within = page-within (chip_of (g.F.Flash.part c.args.flash.now)) words c.args.page c.write_page.ensures.size_before c.requires in
    ap (λ (w : List ℕ). page_of w c.args.page) c.in-Ok.ensures.ok ∙
    page_of-with_page words c.args.page c.args.content.now within c.told-content

pub returns-in-Err-clause-asks : goal.returns-in-Err-clause-asks
returns-in-Err-clause-asks g c = λ wanted is.
    let did = c.write_page.ensures in
    asks-tried g.F.Flash.words g.F.Flash.journal g.F.Flash.faults g.F.Flash.writes c.write_page.result wanted c.args.page
    c.args.content.now c.args.flash.now c.write_page.new.self _ (ap is_ok c.in-Err.is) is (sym c.has_words.ensures ∙ c.if-has_words.false)
    did.moved did.ok did.logged did.err did.err_logged did.cause
