use Rattle.std.specs.Prelude.{codes}
use Rattle.std.proofs.lemmas.Slice.Eq.{bytes_eq-Decides}
use Rattle.ice_top.proofs.WordLemmas.{not_false, texts_three}
use Rattle.ice_top.proofs.words.gen_of.Goals as goal

pub returns : goal.returns
returns c =
    let three = texts_three c.args.words.now _ _ _ c.in-len3.len_at_least c.in-len3.len_below
    c.command-item.is c.seed-item.is c.count-item.is in
    let command = (bytes_eq-Decides c.as_str.result.now (codes "gen")).0 (not_false _ c.if-ne.ensures) in
    record {
      seed_text = c.as_bytes.result.now;
      count_text = c.as_bytes-2.result.now;
      form = cc (c.as_str.ensures.value, c.as_bytes.ensures.value, c.as_bytes-2.ensures.value);
      valid_seed = c.in-Some.ensures.0;
      valid_count = c.in-Some-number_of.ensures.0;
      is_seed = c.in-Some.ensures.1;
      is_count = c.in-Some-number_of.ensures.1;
    }
