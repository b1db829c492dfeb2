use Rattle.std.proofs.Common.{◌≡◌, ◌&&◌, drop}
use Rattle.part_spec.specs.Pages.{page_of, page_has, same_words}
use Rattle.flash_patch.proofs.pages.has_words.Given as goal

abbrev pub invariant-loop-place : goal.invariant-loop-place
invariant-loop-place g l = page_has (g.F.Flash.words l.flash) l.page l.content ≡
    (l.same && same_words (drop l.place (page_of (g.F.Flash.words l.flash) l.page)) (drop l.place l.content))
