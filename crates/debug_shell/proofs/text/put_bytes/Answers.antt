use Rattle.std.proofs.Common.{sym, ap, ◌∙◌, List, ℕ, [], ◌∷◌, ◌++◌, take, length, append_assoc, append-nil, get_or, length-append, arith}
use Rattle.hex.specs.Hex.{encode_lower, lower_digits}
use Rattle.hex.proofs.HexLemmas.{length-encode_with}
use Rattle.debug_shell.proofs.Encodings.{encode_lower-more, encode_lower-nil}
use Rattle.debug_shell.proofs.text.put_bytes.Goals as goal

pub bytes-init : goal.bytes-init
bytes-init c = record {
  items = sym (ap (λ (digits : List ℕ). c.args.text.now.items ++ digits) encode_lower-nil ∙ append-nil c.args.text.now.items);
  size = omega arith;
}

pub bytes-preserved : goal.bytes-preserved
bytes-preserved c =
    let before : List ℕ = c.args.text.now.items in
    let index : ℕ = c.bytes.byte-index in
    let bytes : List ℕ = c.args.bytes.now in
    let byte : List ℕ = get_or bytes index 0 ∷ [] in
    let two = length-encode_with lower_digits byte in
    record {
      items = c.append.ensures ∙ ap (λ (digits : List ℕ). c.bytes.text.items ++ digits) c.two_digits.ensures
          ∙ ap (λ (text : List ℕ). text ++ encode_lower byte) c.bytes.invariant.items
          ∙ append_assoc before (encode_lower (take index bytes)) (encode_lower byte)
          ∙ ap (λ (digits : List ℕ). before ++ digits) (sym (encode_lower-more bytes index c.bytes-test.true));
      size = omega (arith, c.bytes.invariant.size, ap length c.append.ensures, length-append c.bytes.text.items c.two_digits.result, ap length c.two_digits.ensures, two);
    }
