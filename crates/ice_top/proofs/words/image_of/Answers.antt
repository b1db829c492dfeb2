use Rattle.std.proofs.Common.{◌≡◌}
use Rattle.std.proofs.lemmas.Slice.Eq.{bytes_eq-Decides}
use Rattle.ice_top.proofs.WordLemmas.{not_false, not_true, texts_two}
use Rattle.ice_top.proofs.words.image_of.Goals as goal

pub returns : goal.returns
returns c =
    let two = texts_two c.args.words.now _ _ c.in-len2.len_at_least c.in-len2.len_below c.first-item.is c.image-item.is in
    let command = (bytes_eq-Decides c.as_str.result.now c.args.command.now).0 (not_false _ c.if-ne.ensures) in
    cc (c.as_str.ensures.value, c.as_str-2.ensures.value)

pub returns-then-ne : goal.returns-then-ne
returns-then-ne c = λ image is.
    let two = texts_two c.args.words.now _ _ c.in-len2.len_at_least c.in-len2.len_below c.first-item.is c.image-item.is in
    let value = c.as_str.ensures.value in
    let same : c.as_str.result.now ≡ c.args.command.now = cc in
    not_true _ c.if-ne.ensures ((bytes_eq-Decides c.as_str.result.now c.args.command.now).1 same)
