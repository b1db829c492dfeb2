use Rattle.std.proofs.Common.{◌≡◌}
use Rattle.std.proofs.lemmas.Slice.Eq.{bytes_eq-Decides}
use Rattle.ice_top.proofs.WordLemmas.{not_false, not_true, texts_three}
use Rattle.ice_top.proofs.words.run_of.Goals as goal

pub returns-in-Some : goal.returns-in-Some
returns-in-Some c =
    let three = texts_three c.args.words.now _ _ _ c.in-len3.len_at_least c.in-len3.len_below
    c.first-item.is c.image-item.is c.stops-item.is in
    let command = (bytes_eq-Decides c.as_str.result.now c.args.command.now).0 (not_false _ c.if-ne.ensures) in
    record {
      text = c.as_bytes.result.now;
      form = cc (c.as_str-in-Some.ensures.value, c.as_str.ensures.value, c.as_bytes.ensures.value);
      valid = c.in-Some.ensures.0;
      numbers = c.in-Some.ensures.1;
    }

pub returns-then-ne : goal.returns-then-ne
returns-then-ne c = λ image stops run.
    let three = texts_three c.args.words.now _ _ _ c.in-len3.len_at_least c.in-len3.len_below
    c.first-item.is c.image-item.is c.stops-item.is in
    let form = run.form in
    let value = c.as_str.ensures.value in
    let same : c.as_str.result.now ≡ c.args.command.now = cc in
    not_true _ c.if-ne.ensures ((bytes_eq-Decides c.as_str.result.now c.args.command.now).1 same)
