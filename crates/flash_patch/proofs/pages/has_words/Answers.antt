use Rattle.part_spec.specs.Chip.{chip_of}
use Rattle.part_spec.proofs.PageLemmas.{page-within}
use Rattle.flash_patch.proofs.Comparing.{all-same, one-on}
use Rattle.flash_patch.proofs.pages.has_words.Goals as goal

pub loop-place-preserved : goal.loop-place-preserved
loop-place-preserved g c =
    let words = g.F.Flash.words c.args.flash.now in
    let within = page-within (chip_of (g.F.Flash.part c.args.flash.now)) words c.args.page c.word-word.ensures.size c.requires in
    one-on words c.args.content.now c.args.page c.loop-place.place within c.told-content c.loop-place-test.true c.loop-place.same
    c.word-word.result c.word-word.ensures.word c.loop-place.invariant

pub returns : goal.returns
returns g c =
    all-same (g.F.Flash.words c.args.flash.now) c.args.content.now c.args.page c.loop-place.place c.loop-place.same c.told-content
    c.loop-place-test.false c.loop-place.invariant
