use Rattle.std.proofs.Common.{refl}
use Rattle.ice_verify.proofs.Texts.{is_slice, is_no_slice}
use Rattle.ice_verify.proofs.Happened.{not_sent, told_so}
use Rattle.ice_verify.proofs.verifier.Verifier.tell_sent.Goals as goal

pub returns-then-ne-clause-follows : goal.returns-then-ne-clause-follows
returns-then-ne-clause-follows c =
    not_sent c.args.self.now _ c.args.bytes.now c.requires.owes
    (is_no_slice c.as_slice.result.now c.args.self.now.sent.items c.args.bytes.now c.ne.result c.as_slice.ensures.value c.ne.ensures c.if-ne.true)

pub returns-clause-follows : goal.returns-clause-follows
returns-clause-follows c =
    told_so c.args.self.now _ c.args.bytes.now c.requires.owes
    (is_slice c.as_slice.result.now c.args.self.now.sent.items c.args.bytes.now c.ne.result c.as_slice.ensures.value c.ne.ensures c.if-ne.false)
    refl refl refl
