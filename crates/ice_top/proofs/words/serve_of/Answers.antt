use Rattle.std.specs.Prelude.{codes}
use Rattle.std.proofs.lemmas.Slice.Eq.{bytes_eq-Decides}
use Rattle.ice_top.proofs.WordLemmas.{not_false, texts_three}
use Rattle.ice_top.proofs.words.serve_of.Goals as goal

pub returns-in-Some : goal.returns-in-Some
returns-in-Some c =
    let three = texts_three c.args.words.now _ _ _ c.in-len3.len_at_least c.in-len3.len_below
    c.command-item.is c.port-item.is c.image-item.is in
    let command = (bytes_eq-Decides c.as_str.result.now (codes "serve")).0 (not_false _ c.if-ne.ensures) in
    record {
      text = c.as_bytes.result.now;
      form = cc (c.as_str.ensures.value, c.as_bytes.ensures.value, c.as_str-in-Some.ensures.value);
      valid = c.in-Some.ensures;
    }
