use Rattle.std.proofs.Common.{length, ap, arith}
use Rattle.ice_verify.proofs.Texts.{read_whole}
use Rattle.ice_verify.proofs.lines.read.Goals as goal

pub read_in-requires : goal.read_in-requires
read_in-requires c = omega (arith, c.if-text-gt-LINE_LIMIT.false, ap length c.in-Some.ensures)

pub returns-in-Some : goal.returns-in-Some
returns-in-Some c =
    read_whole c.args.text.now _ c.read_in.result (omega (arith, c.if-text-gt-LINE_LIMIT.false)) c.in-Some.ensures c.read_in.ensures
