use Rattle.std.proofs.Common.{ℕ, List, get_or, fold, sym, ap, ◌∙◌, take_all}
use Rattle.std.proofs.lemmas.List.Sums.{fold_more}
use Rattle.line_spec.specs.Check.{checked}
use Rattle.ice_frame.proofs.check.crc_from.Goals as goal

pub loop-byte-preserved : goal.loop-byte-preserved
loop-byte-preserved c =
    c.crc_with-register.ensures ∙ ap (λ (k : ℕ). checked k (get_or c.args.bytes.now c.loop-byte.byte-index 0)) c.loop-byte.invariant
    ∙ sym (fold_more checked c.args.before c.args.bytes.now c.loop-byte.byte-index 0 c.loop-byte-test.true)

pub returns : goal.returns
returns c =
    c.loop-byte.invariant ∙ ap (λ (t : List ℕ). fold checked c.args.before t) (take_all c.loop-byte.byte-index c.args.bytes.now c.loop-byte-test.false)
