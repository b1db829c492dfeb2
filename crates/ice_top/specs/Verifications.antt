-- How the check of a session record ends: what is found of it goes to the sink, and nothing is noted.
use Rattle.std.specs.Prelude.{ℕ, List}
use Rattle.part_spec.specs.Chip.{Chip}
use Rattle.record_check.specs.Endings.{IsChecked}
use Rattle.record_check.specs.declared.stream.CheckEnd.{CheckEnd}
use Rattle.record_check.specs.declared.stream.CheckEnd.TheVariants.{Okay as Whole, Refuted as Wrong, Read as Unread, Write as Unsent}
use Rattle.record_check.specs.declared.stream.CheckEnd.TheVariants.{TooLong as Long}
use Rattle.ice_top.specs.Outside.{Ends, NotesStill}
use Rattle.ice_top.specs.declared.status.Status.{Status}
use Rattle.ice_top.specs.declared.status.Status.TheVariants.{Okay, Usage, Image, Loader, Read, Write, Flash as Unwritten, Memory, TooLong}
use Rattle.ice_top.specs.declared.status.Status.TheVariants.{NoThread, Link, Refuted}

-- the status of a check that ended so
abbrev pub status_by : CheckEnd → Status
status_by Whole = Okay
status_by Wrong = Refuted
status_by Unread = Read
status_by Unsent = Write
status_by Long = TooLong

-- a check ended so
abbrev pub Checked : CheckEnd → Chip → (program : List ℕ) → (before after : Ends) → Type 0
Checked end part program before after = IsChecked end part program before.line after.line × NotesStill before after

-- what each status says of the check of a record
abbrev pub Verified : Status → Chip → (program : List ℕ) → (before after : Ends) → Type 0
Verified Okay part program before after = Checked Whole part program before after
Verified Refuted part program before after = Checked Wrong part program before after
Verified Read part program before after = Checked Unread part program before after
Verified Write part program before after = Checked Unsent part program before after
Verified TooLong part program before after = Checked Long part program before after
Verified Usage part program before after = ⊥
Verified Image part program before after = ⊥
Verified Loader part program before after = ⊥
Verified Unwritten part program before after = ⊥
Verified Memory part program before after = ⊥
Verified NoThread part program before after = ⊥
Verified Link part program before after = ⊥
