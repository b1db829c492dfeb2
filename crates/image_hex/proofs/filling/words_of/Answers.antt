use Rattle.std.proofs.Common.{◌≡◌, ℕ, List, map, ap, subst, ◌∙◌}
use Rattle.std.proofs.lemmas.List.{length-map}
use Rattle.std.specs.Prelude.{IfOk}
use Rattle.part_spec.specs.Chip.{chip_of}
use Rattle.image_hex.specs.Hex.{or_erased}
use Rattle.image_hex.specs.Raw.{program_of}
use Rattle.image_hex.proofs.Pairing.{program_of-all}
use Rattle.image_hex.proofs.filling.words_of.Goals as goal

pub returns-clause-items : goal.returns-clause-items
returns-clause-items c =
    let bytes : c.as_slice.result.now ≡ map or_erased c.args.flash.now = c.as_slice.ensures.value ∙ c.in_ok-bytes.ensures in
    let all = program_of-all (chip_of c.args.part) (map or_erased c.args.flash.now) (length-map c.args.flash.now or_erased ∙ c.requires) in
    subst (λ (wanted : List ℕ). IfOk c.program.result (λ words. words.items ≡ wanted))
    (ap (program_of (chip_of c.args.part)) bytes ∙ all) c.program.ensures.items
