use Rattle.std.proofs.Common.{rules, ◌≡◌, ◌<◌, ◌≤◌, length, subst, sym, ap}
use Rattle.part_spec.specs.Chip.{chip_of, page_words, words_of}
use Rattle.part_spec.specs.Pages.{page_of, IsTorn}
use Rattle.part_spec.proofs.PageLemmas.{page-within, length-page_of, front-is_torn}
use Rattle.ice_base.specs.MemFlash.{fronted}
use Rattle.ice_base.proofs.mem_flash.MemFlashFlash.write_page.Goals as goal

pub returns-in-Some-clause-err : goal.returns-in-Some-clause-err
returns-in-Some-clause-err c =
    let flash = c.self.inside.words.items in
    let content = c.args.content.now in
    let count = c.in-Some.count in
    let whole : length content ≡ page_words = search rules in
    let part = chip_of c.self.inside.part in
    let size : length flash ≡ words_of part = search rules in
    let few : count ≤ page_words = search rules in
    let inside : c.args.page < part.pages =
    subst (λ q. c.args.page < (chip_of q).pages) (sym (ap (λ s. s.part) c.self.view_is)) c.requires in
    let within = page-within part flash c.args.page size inside in
    let old = page_of flash c.args.page in
    subst (λ before. IsTorn before c.set_front.new.words.items c.args.page content) (ap (λ s. s.words) c.self.view_is)
    (record {
      left = fronted count content old;
      torn = front-is_torn old content count (length-page_of flash c.args.page within) whole few;
      is = c.set_front.ensures.words;
    })
