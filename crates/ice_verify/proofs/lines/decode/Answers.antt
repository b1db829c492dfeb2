use Rattle.std.proofs.Common.{◌≡◌, ◌/◌, length, refl, ap, ◌∙◌, arith, rules}
use Rattle.std.proofs.lemmas.List.{take_at}
use Rattle.hex.specs.Hex.{lower_digits}
use Rattle.hex.proofs.HexLemmas.{length-encode_with}
use Rattle.ice_verify.proofs.Texts.{decoded, undecoded}
use Rattle.ice_verify.proofs.lines.decode.Goals as goal

pub returns-in-Ok : goal.returns-in-Ok
returns-in-Ok c = λ bytes b e.
    let full : length c.from-bytes.result.items ≡ 4160 = search rules in
    let half : length c.as_mut_slice.result.now ≡ length c.args.digits.now / 2 =
    omega (arith, full, ap length c.as_mut_slice.ensures.value, c.truncate.ensures.len, c.requires) in
    let made = decoded c.args.digits.now c.decode_to_slice.new.out bytes _ _ c.in-Ok.ensures.value half b e in
    take_at c.decode_to_slice.new.out _ (length c.truncate.new.self.items)
    (omega (arith, ap length made, ap length e, length-encode_with lower_digits bytes, full, c.truncate.ensures.len, c.requires)) ∙ made

pub returns-in-Err : goal.returns-in-Err
returns-in-Err c = λ bytes b e.
    let full : length c.from-bytes.result.items ≡ 4160 = search rules in
    let half : length c.as_mut_slice.result.now ≡ length c.args.digits.now / 2 =
    omega (arith, full, ap length c.as_mut_slice.ensures.value, c.truncate.ensures.len, c.requires) in
    undecoded c.args.digits.now c.decode_to_slice.new.out bytes _ c.in-Err.field-0 _ refl c.in-Err.ensures.value half b e
