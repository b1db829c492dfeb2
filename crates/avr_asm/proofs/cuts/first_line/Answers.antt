use Rattle.std.proofs.Common.{◌<◌, ◌+◌, length, arith}
use Rattle.std.proofs.lemmas.List.{take_rest}
use Rattle.avr_asm.proofs.Fronts.{front_is}
use Rattle.avr_asm.proofs.LineCuts.{leaves_more, leaves_whole}
use Rattle.avr_asm.proofs.cuts.first_line.Goals as goal

pub returns-then-end-text : goal.returns-then-end-text
returns-then-end-text c =
    leaves_whole c.args.text.now c.before-end.result (front_is 0x0a c.before-end.result c.args.text.now c.before-end.ensures.end) c.if-end-text.true

pub returns : goal.returns
returns c =
    let inside : c.before-end.result < length c.args.text.now = omega (arith, c.before-end.ensures.within, c.if-end-text.false) in
    leaves_more c.args.text.now c.without_return.result.now _ c.before-end.result
    (front_is 0x0a c.before-end.result c.args.text.now c.before-end.ensures.end) inside c.without_return.ensures
    (take_rest c.args.text.now (c.before-end.result + 1))
