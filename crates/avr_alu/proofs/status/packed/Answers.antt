use Rattle.std.proofs.Common.{◌∙◌, arith}
use Rattle.avr_alu.proofs.StatusBits.{masks_are_byte, parts_agree}
use Rattle.avr_alu.proofs.status.packed.Goals as goal

pub returns : goal.returns
returns c =
    let f = c.args.flags in
    parts_agree _ _ _ _ _ _ _ _ _ _ _ c.mask.ensures c.mask-2.ensures c.mask-3.ensures c.mask-4.ensures c.mask-5.ensures ∙
    masks_are_byte c.args.sreg (omega arith) f.half_carry f.overflow f.negative f.zero f.carry
