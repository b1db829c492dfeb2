use Rattle.std.proofs.Common.{◌≡◌, ◌/◌, arith}
use Rattle.avr_decode.proofs.choices.by_six_bits.Goals as goal

-- what the tests of all other values leave
pub returns-in_default : goal.returns-in_default
returns-in_default c =
    let last : c.args.first / 1024 ≡ 63 = omega (arith, c.in_default) in rw last c.bit_skips.ensures
