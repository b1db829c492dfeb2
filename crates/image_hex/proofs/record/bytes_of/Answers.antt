use Rattle.std.proofs.Common.{◌≡◌, ◌/◌, min, length, drop, ap, sym, subst, rules, arith}
use Rattle.std.proofs.lemmas.List.{take_rest}
use Rattle.image_hex.specs.Told.{IsNoRecord}
use Rattle.image_hex.proofs.Telling.{headed, undecoded}
use Rattle.image_hex.proofs.record.bytes_of.Goals as goal

pub returns-in-Err : goal.returns-in-Err
returns-in-Err c =
    let refused = rw (take_rest c.args.line.now 1) at c.in-Err.ensures.value in
    let line = headed c.args.line.now (omega (arith, c.in-len1-up.len_at_least)) c.if-first-ne58.false in
    let full : length c.from-bytes.result.items ≡ 260 = search rules in
    let room : length c.as_mut_slice.result.now ≡ min 260 (length (drop 1 c.args.line.now) / 2) =
    omega (arith, full, ap length c.as_mut_slice.ensures.value, c.truncate.ensures.len, ap length (take_rest c.args.line.now 1)) in
    subst IsNoRecord (sym line) (undecoded (drop 1 c.args.line.now) c.decode_to_slice.new.out _ c.in-Err.field-0 room refused)
