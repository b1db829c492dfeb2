use Rattle.std.proofs.Common.{ℕ, ◌-◌, List, [], ◌++◌, length, take, drop, sym, ap, ◌∙◌, arith, append_assoc, append-nil, length-append}
use Rattle.std.proofs.Math.Seq.{take-add}
use Rattle.hex.specs.Hex.{encode_lower, lower_digits}
use Rattle.hex.proofs.HexLemmas.{length-encode_with}
use Rattle.ice_text.proofs.Encodings.{encode_lower-append, encode_lower-nil}
use Rattle.ice_text.proofs.push_hex.Goals as goal

pub pieces-init : goal.pieces-init
pieces-init g c = record {
  within = omega arith;
  items = sym (ap (λ (digits : List ℕ). c.args.line.now.items ++ digits) encode_lower-nil ∙ append-nil c.args.line.now.items);
  size = omega arith;
}

pub pieces-preserved : goal.pieces-preserved
pieces-preserved g c =
    let before : List ℕ = c.args.line.now.items in
    let bytes : List ℕ = c.args.bytes.now in
    let used : ℕ = c.pieces.used in
    let count : ℕ = c.min-count.result in
    let piece : List ℕ = c.split_at-in-pieces.result.0.now in
    record {
      within = omega (arith, c.pieces.invariant.within, c.min-count.ensures, c.split_at.ensures.back_len);
      items = c.push_piece.ensures
          ∙ ap (λ (text : List ℕ). text ++ encode_lower piece) c.pieces.invariant.items
          ∙ append_assoc before (encode_lower (take used bytes)) (encode_lower piece)
          ∙ ap (λ (digits : List ℕ). before ++ digits)
          (sym (ap encode_lower (take-add used count bytes) ∙ encode_lower-append (take used bytes) (take count (drop used bytes))
          ∙ ap (λ (digits : List ℕ). encode_lower (take used bytes) ++ encode_lower digits)
          (sym (c.split_at-in-pieces.ensures.front ∙ ap (take count) c.split_at.ensures.back))));
      size = omega (
        arith,
        c.pieces.invariant.size,
        ap length c.push_piece.ensures,
        length-append c.pieces.line.items (encode_lower piece),
        length-encode_with lower_digits piece,
        c.split_at-in-pieces.ensures.front_len,
      );
    }
