use Rattle.std.proofs.Common.{◌≡◌, length}
use Rattle.debug_shell.specs.Rests.{end_in, words_in}
use Rattle.debug_shell.proofs.rest.Rest.skip_blanks.Given as goal

abbrev pub invariant-blanks : goal.invariant-blanks
invariant-blanks l = record {
  words : words_in l.self ≡ words_in l.fn.self;
  end : end_in l.self ≡ end_in l.fn.self;
}

abbrev pub decreases-blanks : goal.decreases-blanks
decreases-blanks l = length l.self.bytes.now
