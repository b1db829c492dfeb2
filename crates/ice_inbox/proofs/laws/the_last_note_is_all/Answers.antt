use Rattle.ice_inbox.proofs.Notes.{all_is_taken}
use Rattle.ice_inbox.proofs.laws.the_last_note_is_all.Goals as goal

pub returns : goal.returns
returns c = all_is_taken
