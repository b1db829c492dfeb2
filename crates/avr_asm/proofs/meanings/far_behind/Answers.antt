use Rattle.std.proofs.Common.{arith}
use Rattle.asm_spec.specs.Reading.{behind}
use Rattle.asm_spec.specs.Tokens.{number}
use Rattle.avr_asm.proofs.Registers.{behind_capped, mapped}
use Rattle.avr_asm.proofs.meanings.far_behind.Goals as goal

pub returns-in-Some : goal.returns-in-Some
returns-in-Some c =
    mapped (behind c.args.values) (number c.args.bytes.now) c.in-Some.number _ c.in-Some.ensures c.behind.ensures
    (λ k. behind_capped c.args.values k (omega (arith, c.ranges.values.fits)))
