use Rattle.ice_inbox.proofs.Stops.{starts}
use Rattle.ice_inbox.proofs.stop_word.StopWord.make.Goals as goal

pub of_words-requires : goal.of_words-requires
of_words-requires c = starts
