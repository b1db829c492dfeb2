-- What the fields of the ends of an inbox stand for.
use Rattle.std.specs.Prelude.{◌≡◌, true, false}
use Rattle.crossbeam_channel.specs.Claims.{Pass, view, IsSeatAt}
use Rattle.crossbeam_channel.specs.Ends.{sends_on, receives_on, ruled_capacity}
use Rattle.ice_inbox.specs.declared.inbox.Note.{Note}
use Rattle.ice_inbox.specs.declared.inbox.View.{View}
use Rattle.ice_inbox.specs.declared.inbox.LineSender.TheInside as line
use Rattle.ice_inbox.specs.declared.inbox.TargetSender.TheInside as target
use Rattle.ice_inbox.specs.declared.inbox.NoteReceiver.TheInside as receiver
use Rattle.ice_inbox.specs.Ends.{Inbox, Sent, Taken}
use Rattle.ice_inbox.specs.Posting.{capacity}

-- which inbox a pass belongs to
abbrev pub inbox_of : Pass Note View → Inbox
inbox_of pass = record { turns = pass.table_id; notes = pass.me.0.of }

abbrev pub sent_of : Pass Note View → Sent
sent_of pass = record { inbox = inbox_of pass; sent = (view pass).sent }

abbrev pub taken_of : Pass Note View → Taken
taken_of pass = record { inbox = inbox_of pass; taken = (view pass).taken; known = (view pass).known }

-- the pass is one of the end's channel, and the line's
pub record IsLine (sender : line.Inside) : Type 0 where
  pub at : IsSeatAt (sends_on sender.end) sender.pass
  pub room : ruled_capacity (sends_on sender.end) ≡ capacity
  pub lines : (view sender.pass).lines ≡ true
  pub targets : (view sender.pass).targets ≡ false

-- the pass is one of the end's channel, and the target's
pub record IsTarget (sender : target.Inside) : Type 0 where
  pub at : IsSeatAt (sends_on sender.end) sender.pass
  pub room : ruled_capacity (sends_on sender.end) ≡ capacity
  pub targets : (view sender.pass).targets ≡ true
  pub lines : (view sender.pass).lines ≡ false

-- the pass is one of the end's channel, and the receiver's
pub record IsReceiver (taker : receiver.Inside) : Type 0 where
  pub at : IsSeatAt (receives_on taker.end) taker.pass
  pub reads : (view taker.pass).reads ≡ true
