use Rattle.std.proofs.Common.{◌≡◌, ◌++◌, List, ℕ, sym, ap, ◌∙◌, append-nil, rules, arith}
use Rattle.part_spec.specs.Chip.{chip_of, words_of}
use Rattle.part_spec.specs.Pages.{paired}
use Rattle.image_hex.proofs.Pairing.{paired-short, program_filled}
use Rattle.image_hex.proofs.raw.program.Goals as goal

pub returns-clause-items : goal.returns-clause-items
returns-clause-items c =
    let short = paired-short c.loop-rest.rest.now (omega (arith, c.in_default.len_below)) in
    let words : c.loop-rest.words.items ≡ paired c.args.bytes.now =
    sym (append-nil c.loop-rest.words.items) ∙ ap (λ (more : List ℕ). c.loop-rest.words.items ++ more) (sym short)
    ∙ c.loop-rest.invariant in
    let size : c.from-size.result ≡ words_of (chip_of c.args.part) = search rules in
    c.in_ok-resize.ensures.items
    ∙ program_filled (chip_of c.args.part) c.loop-rest.words.items c.args.bytes.now c.from-size.result _ words
    (omega (arith, c.loop-rest.words.ok)) size c.requires
