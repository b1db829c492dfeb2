use Rattle.std.proofs.Common.{◌≡◌, ℕ, ◌+◌, ◌-◌, ◌*◌, List, take, drop, ap, sym, ◌∙◌, arith}
use Rattle.std.proofs.lemmas.List.{take_all, take_more}
use Rattle.part_spec.specs.Chip.{page_words}
use Rattle.part_spec.specs.Pages.{page_of}
use Rattle.debug_spec.specs.Patch.{patch}
use Rattle.flash_patch.specs.State.{with_break}
use Rattle.flash_patch.proofs.Planting.{page-kept, patch-none, plant-more}
use Rattle.flash_patch.proofs.pages.patched_page.Goals as goal

-- a copy of a page's words
copied : (program words : List ℕ) (page number : ℕ) → number ≡ page →
    words ≡ take (page_words * number + page_words - page_words * number) (drop (page_words * number) program) →
    words ≡ page_of program page
copied program words page number is after =
    let count : page_words * number + page_words - page_words * number ≡ page_words = omega arith in
    after ∙ ap (λ (n : ℕ). take n (drop (page_words * number) program)) count ∙ ap (page_of program) is

pub returns-then-not-touches : goal.returns-then-not-touches
returns-then-not-touches c =
    copied c.args.program.now c.copy_from_slice.new.self c.args.page c.from-start.result c.from-start.ensures
    c.copy_from_slice.ensures.after ∙
    sym (page-kept c.args.program.now c.args.page c.requires c.args.set.now (sym c.touches.ensures ∙ c.if-not-touches.true))

pub loop-address-init : goal.loop-address-init
loop-address-init c =
    copied c.args.program.now c.copy_from_slice.new.self c.args.page c.from-start.result c.from-start.ensures
    c.copy_from_slice.ensures.after ∙
    ap (λ (words : List ℕ). page_of words c.args.page) (sym (patch-none c.args.program.now))

pub loop-address-preserved : goal.loop-address-preserved
loop-address-preserved c =
    let program = c.args.program.now in
    let set = c.args.set.now in
    let k = c.loop-address.address-index in
    let address = c.plant.ensures in
    address ∙ ap (with_break c.args.page _) c.loop-address.invariant ∙
    plant-more program c.args.page c.requires (take k set) _ ∙
    ap (λ (s : List ℕ). page_of (patch program s) c.args.page) (sym (take_more set k 0 c.loop-address-test.true))

pub returns : goal.returns
returns c =
    c.loop-address.invariant ∙
    ap (λ (s : List ℕ). page_of (patch c.args.program.now s) c.args.page)
    (take_all c.loop-address.address-index c.args.set.now c.loop-address-test.false)
