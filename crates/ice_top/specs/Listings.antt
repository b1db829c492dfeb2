-- How a listing of a line ends: nothing is noted, but for want of memory.
use Rattle.std.specs.Prelude.{codes}
use Rattle.frame_listing.specs.Endings.{IsListed}
use Rattle.frame_listing.specs.declared.stream.ListingEnd.{ListingEnd}
use Rattle.frame_listing.specs.declared.stream.ListingEnd.TheVariants.{Okay as Whole, Read as Unread, Write as Unsent, TooLong as Long}
use Rattle.ice_top.specs.Notes.{line}
use Rattle.ice_top.specs.Outside.{Ends, NotOpened, NotesStill}
use Rattle.ice_top.specs.declared.status.Status.{Status}
use Rattle.ice_top.specs.declared.status.Status.TheVariants.{Okay, Usage, Image, Loader, Read, Write, Flash as Unwritten, Memory, TooLong}
use Rattle.ice_top.specs.declared.status.Status.TheVariants.{NoThread, Link, Refuted}

-- the status of a listing that ended so
abbrev pub status_by : ListingEnd → Status
status_by Whole = Okay
status_by Unread = Read
status_by Unsent = Write
status_by Long = TooLong

abbrev pub Listed : Status → (before after : Ends) → Type 0
Listed Okay before after = IsListed Whole before.line after.line × NotesStill before after
Listed Read before after = IsListed Unread before.line after.line × NotesStill before after
Listed Write before after = IsListed Unsent before.line after.line × NotesStill before after
Listed TooLong before after = IsListed Long before.line after.line × NotesStill before after
Listed Memory before after = NotOpened before after (line (codes "memory"))
Listed Usage before after = ⊥
Listed Image before after = ⊥
Listed Loader before after = ⊥
Listed Unwritten before after = ⊥
Listed NoThread before after = ⊥
Listed Link before after = ⊥
Listed Refuted before after = ⊥
