use Rattle.ice_verify.proofs.Texts.{out_none, not_dash}
use Rattle.ice_verify.proofs.lines.read_out.Goals as goal

pub returns-in-None : goal.returns-in-None
returns-in-None c = λ line h.
    out_none c.args.text.now (not_dash c.args.text.now _ _ c.as_slice.ensures c.eq.ensures c.if-eq.false) c.in-None.ensures line h
