use Rattle.std.proofs.Common.{arith}
use Rattle.asm_spec.specs.Reading.{limited}
use Rattle.asm_spec.specs.Tokens.{number}
use Rattle.avr_asm.proofs.Registers.{limited_capped, mapped}
use Rattle.avr_asm.proofs.meanings.below.Goals as goal

pub returns-in-Some : goal.returns-in-Some
returns-in-Some c =
    mapped (limited c.args.limit) (number c.args.bytes.now) c.in-Some.number _ c.in-Some.ensures c.limited.ensures
    (λ k. limited_capped c.args.limit k (omega (arith, c.ranges.limit.fits)))
