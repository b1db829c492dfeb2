use Rattle.std.proofs.Common.{◌-◌, length, drop, sym, ◌∙◌, length-take, length-drop, arith}
use Rattle.debug_shell.proofs.Wordings.{begins, begins-none, words_from-skip}
use Rattle.debug_shell.proofs.rest.Rest.skip_blanks.Goals as goal

pub blanks-preserved : goal.blanks-preserved
blanks-preserved c = record {
  words = sym (words_from-skip c.blanks.self.column c.blanks.self.bytes.now c.in-len1-up.len_at_least (sym c.is_blank.ensures ∙ c.if-not-is_blank.false)) ∙ c.blanks.invariant.words;
  end = omega (arith, c.blanks.invariant.end, c.in-len1-up.len_at_least, length-take (length c.blanks.self.bytes.now - 1) (drop 1 c.blanks.self.bytes.now), length-drop 1 c.blanks.self.bytes.now);
}

pub returns-then-not-is_blank-clause-ahead : goal.returns-then-not-is_blank-clause-ahead
returns-then-not-is_blank-clause-ahead c = begins c.blanks.self.bytes.now (sym c.is_blank.ensures ∙ c.if-not-is_blank.true)

pub returns-clause-ahead : goal.returns-clause-ahead
returns-clause-ahead c = begins-none c.blanks.self.bytes.now c.in_default.len_below
