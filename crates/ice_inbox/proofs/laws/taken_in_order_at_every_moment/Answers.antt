use Rattle.ice_inbox.proofs.Posts.{taken_in_order}
use Rattle.ice_inbox.proofs.laws.taken_in_order_at_every_moment.Goals as goal

pub returns : goal.returns
returns c = record { order = taken_in_order; room = λ items views posted. posted.room }
