use Rattle.std.proofs.Common.{rules, ◌≡◌, length, ◌∙◌}
use Rattle.part_spec.specs.Chip.{page_words}
use Rattle.part_spec.proofs.PageLemmas.{IsWithin}
use Rattle.ice_base.proofs.Fronts.{front_set}
use Rattle.ice_base.proofs.mem_flash.set_front.Goals as goal

pub returns-clause-words : goal.returns-clause-words
returns-clause-words c =
    let flash = c.args.words.now.items in
    let content = c.args.content.now in
    let whole : length content ≡ page_words = search rules in
    let within : IsWithin flash c.args.page = search rules in
    c.set_words.ensures.words ∙ front_set flash content c.args.page c.args.count within whole c.requires.count
