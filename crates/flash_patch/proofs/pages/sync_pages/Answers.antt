use Rattle.std.proofs.Common.{◌≡◌, ℕ, ◌+◌, ◌-◌, true, false, length, refl, sym, ◌∙◌, ap, subst, arith}
use Rattle.part_spec.specs.Chip.{chip_of, words_of}
use Rattle.part_spec.specs.Pages.{page_of}
use Rattle.debug_spec.specs.Patch.{patch}
use Rattle.debug_spec.specs.Device.{synced_from}
use Rattle.debug_spec.proofs.Sets.{length-patch}
use Rattle.flash_patch.specs.Asking.{seen, Asks}
use Rattle.flash_patch.proofs.Writes.{asks-more, asks-stop, in-place}
use Rattle.flash_patch.proofs.pages.sync_pages.Given.{Over}
use Rattle.flash_patch.proofs.pages.sync_pages.Goals as goal

pub returns-in-Err-clause-asks : goal.returns-in-Err-clause-asks
returns-in-Err-clause-asks g c =
    let wanted = patch c.args.program.now c.args.set.now in
    let page = c.loop-page.page in
    let pages = (chip_of c.args.part).pages in
    let more = asks-more g.F.Flash.words g.F.Flash.journal g.F.Flash.faults g.F.Flash.writes wanted page (page + 1) c.args.flash.now
    c.loop-page.flash c.sync_page.new.flash false refl c.loop-page.invariant.asks
    (c.in-Err.ensures.asks wanted (sym {b = page_of (patch c.args.program.now c.args.set.now) page} c.patched_page-content.ensures)) in
    let others : pages ≡ page + 1 + (pages - (page + 1)) = omega (arith, c.loop-page-test.true, c.pages-page-end.ensures) in
    asks-stop g.F.Flash.words g.F.Flash.journal g.F.Flash.faults g.F.Flash.writes wanted (page + 1) pages (pages - (page + 1))
    c.args.flash.now c.sync_page.new.flash others more

pub loop-page-preserved : goal.loop-page-preserved
loop-page-preserved g c =
    let wanted = patch c.args.program.now c.args.set.now in
    let page = c.loop-page.page in record {
      part = c.in-Ok.ensures.part ∙ c.loop-page.invariant.part;
      still = c.in-Ok.ensures.still ∙ c.loop-page.invariant.still;
      asks = asks-more g.F.Flash.words g.F.Flash.journal g.F.Flash.faults g.F.Flash.writes wanted page (page + 1) c.args.flash.now
          c.loop-page.flash c.sync_page.new.flash true refl c.loop-page.invariant.asks
          (c.in-Ok.ensures.asks wanted (sym c.patched_page-content.ensures));
    }

all_asked : (g : Over) (c : goal.After-loop-page g) →
    Asks (seen g.F.Flash.words g.F.Flash.journal g.F.Flash.faults g.F.Flash.writes)
    (synced_from (patch c.args.program.now c.args.set.now) 0 (chip_of c.args.part).pages) c.args.flash.now true c.loop-page.flash
all_asked g c =
    let all : c.loop-page.page ≡ (chip_of c.args.part).pages =
    omega (arith, c.loop-page-test.false, c.loop-page.auto.page-end, c.pages-page-end.ensures) in
    subst
    (λ (n : ℕ). Asks (seen g.F.Flash.words g.F.Flash.journal g.F.Flash.faults g.F.Flash.writes)
    (synced_from (patch c.args.program.now c.args.set.now) 0 n) c.args.flash.now true c.loop-page.flash)
    all c.loop-page.invariant.asks

pub returns-clause-asks : goal.returns-clause-asks
returns-clause-asks g c = all_asked g c

pub returns-clause-words : goal.returns-clause-words
returns-clause-words g c =
    let part = chip_of c.args.part in
    let size : length (g.F.Flash.words c.args.flash.now) ≡ words_of part =
    c.word-first.ensures.size ∙ ap (λ q. words_of (chip_of q)) c.requires.part in
    in-place g.F.Flash.words g.F.Flash.journal g.F.Flash.faults g.F.Flash.writes part (patch c.args.program.now c.args.set.now)
    c.args.flash.now c.loop-page.flash (all_asked g c) size (length-patch c.args.program.now c.args.set.now ∙ c.requires.size)
