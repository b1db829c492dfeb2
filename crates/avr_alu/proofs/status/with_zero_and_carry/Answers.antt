use Rattle.std.proofs.Common.{◌∙◌, arith}
use Rattle.avr_alu.proofs.StatusBits.{masks_keep_the_rest, two_agree}
use Rattle.avr_alu.proofs.status.with_zero_and_carry.Goals as goal

pub returns : goal.returns
returns c =
    two_agree _ _ _ _ _ c.mask.ensures c.mask-2.ensures ∙ masks_keep_the_rest c.args.sreg (omega arith) c.args.zero c.args.carry
