use Rattle.std.proofs.Common.{rules, ◌≡◌, length, ◌∙◌}
use Rattle.part_spec.specs.Chip.{page_words}
use Rattle.part_spec.proofs.PageLemmas.{IsWithin}
use Rattle.ice_base.proofs.Fronts.{front_is_page}
use Rattle.ice_base.proofs.mem_flash.set_page.Goals as goal

pub returns-clause-words : goal.returns-clause-words
returns-clause-words c =
    let flash = c.args.words.now.items in
    let whole : length c.args.content.now ≡ page_words = search rules in
    let within : IsWithin flash c.args.page = search rules in
    c.set_front.ensures.words ∙ front_is_page flash c.args.content.now c.args.page within whole
