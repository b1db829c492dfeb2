use Rattle.std.specs.Prelude.{codes}
use Rattle.std.proofs.lemmas.Slice.Eq.{bytes_eq-Decides}
use Rattle.ice_top.proofs.WordLemmas.{not_false, texts_two}
use Rattle.ice_top.proofs.words.connect_of.Goals as goal

pub returns-in-Some : goal.returns-in-Some
returns-in-Some c =
    let two = texts_two c.args.words.now _ _ c.in-len2.len_at_least c.in-len2.len_below c.command-item.is c.port-item.is in
    let command = (bytes_eq-Decides c.as_str.result.now (codes "connect")).0 (not_false _ c.if-ne.ensures) in
    record {
      text = c.as_bytes.result.now;
      form = cc (c.as_str.ensures.value, c.as_bytes.ensures.value);
      valid = c.in-Some.ensures;
    }
