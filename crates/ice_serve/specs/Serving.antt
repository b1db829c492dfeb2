-- A session that is served, with its line and its target each on a thread of its own.
use Rattle.std.specs.Prelude.{◌≡◌, ℕ, ◌+◌, ◌%◌, ◌^◌, false, true, List, [], ◌∷◌, ◌++◌, Option}
use Rattle.part_spec.specs.declared.part.Part.{Part}
use Rattle.debug_spec.specs.Moved.{Flash}
use Rattle.run_control.specs.declared.job.Job.{Job}
use Rattle.ice_inbox.specs.Ends.{Sent, Taken}
use Rattle.ice_inbox.specs.Stopping.{Raising}
use Rattle.ice_inbox.specs.Notes.{of_line, is_last}
use Rattle.ice_inbox.specs.Lines.{IsSent}
use Rattle.ice_inbox.specs.declared.inbox.Note.{Note}
use Rattle.ice_emul.specs.declared.emulator.Emulator.{Emulator}
use Rattle.ice_emul.specs.declared.session.Totals.{Totals}
use Rattle.ice_serve.specs.Inbox.{SessionGoes}
use Rattle.ice_serve.specs.Endings.{Counts, IsServed}
use Rattle.ice_serve.specs.declared.notes.End.{End}

-- the ends of one inbox, by which nothing was sent or taken yet, and a stop word that was never raised, whose looker is here
pub record IsFresh (line : Sent) (receiver : Taken) (raiser : Raising) : Type 0 where
  pub inbox : receiver.inbox ≡ line.inbox
  pub unsent : line.sent ≡ []
  pub untaken : receiver.taken ≡ []
  pub home : raiser.is_out ≡ false
  pub unraised : raiser.raised ≡ []

-- of all notes taken those of the line are what it sent: its chunks, and one last note; and the source lost their bytes, and ended as
-- that note tells
pub record TakesLine {S : Type 0} (left : S → Option (List ℕ)) (faults : S → ℕ) (before after : S) (taken : List Note) : Type 0 where
  pub chunks : List Note
  pub last : Note
  pub whole : of_line taken ≡ chunks ++ last ∷ []
  pub ends : is_last last ≡ true
  pub sent : IsSent left faults before chunks last after

-- starts and joins at one moment
pub record Threads : Type 0 where
  pub starts : ℕ
  pub joins : ℕ

abbrev pub threads : ℕ → ℕ → Threads
threads starts joins = record { starts = starts; joins = joins }

-- both rose by so many, modulo 2^64
pub record RoseBy (count : ℕ) (before after : Threads) : Type 0 where
  pub starts : after.starts % 2 ^ 64 ≡ (before.starts + count) % 2 ^ 64
  pub joins : after.joins % 2 ^ 64 ≡ (before.joins + count) % 2 ^ 64

-- a session over the notes taken while it was open; a thread was started and joined for each launch that worked
pub record Serves {F : Type 0} (flash : Flash F) (part_of : F → Part) (e : Emulator F) (own : Job F) (taken : List Note) (end : End)
    (left_flash : F) (given : Totals) (before after : Counts) (threads_before threads_after : Threads) : Type 0 where
  pub launches : ℕ
  pub served : SessionGoes taken (λ notes. IsServed flash part_of e own notes end left_flash given launches before after)
  pub rose : RoseBy launches threads_before threads_after
