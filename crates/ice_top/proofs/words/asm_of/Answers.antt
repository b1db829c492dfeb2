use Rattle.std.specs.Prelude.{codes}
use Rattle.std.proofs.lemmas.Slice.Eq.{bytes_eq-Decides}
use Rattle.ice_top.proofs.WordLemmas.{not_false, texts_one}
use Rattle.ice_top.proofs.words.asm_of.Goals as goal

pub returns : goal.returns
returns c =
    let one = texts_one c.args.words.now _ c.in-len1.len_at_least c.in-len1.len_below c.command-item.is in
    let command = (bytes_eq-Decides c.as_str.result.now (codes "asm")).0 (not_false _ c.if-ne.ensures) in
    let value = c.as_str.ensures.value in
    cc
