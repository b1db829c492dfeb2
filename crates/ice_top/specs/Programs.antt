-- How the listing of the program of an image ends: it goes to the sink, and nothing is noted.
use Rattle.std.specs.Prelude.{ℕ, Bool, true, false, List}
use Rattle.part_spec.specs.Chip.{Chip}
use Rattle.asm_spec.specs.Listing.{listing}
use Rattle.ice_top.specs.Outside.{Ends, NotesStill, Prints, PrintsFront}
use Rattle.ice_top.specs.declared.status.Status.{Status}
use Rattle.ice_top.specs.declared.status.Status.TheVariants.{Okay, Usage, Image, Loader, Read, Write, Flash as Unwritten, Memory, TooLong}
use Rattle.ice_top.specs.declared.status.Status.TheVariants.{NoThread, Link, Refuted}

-- the status of a listing that was written or not
abbrev pub status_by : (written : Bool) → Status
status_by true = Okay
status_by false = Write

-- what each status says of the listing of a program
abbrev pub ProgramListed : Status → Chip → (program : List ℕ) → (before after : Ends) → Type 0
ProgramListed Okay part program before after = Prints before.line after.line (listing part program) × NotesStill before after
ProgramListed Write part program before after = PrintsFront before.line after.line (listing part program) × NotesStill before after
ProgramListed Usage part program before after = ⊥
ProgramListed Image part program before after = ⊥
ProgramListed Loader part program before after = ⊥
ProgramListed Read part program before after = ⊥
ProgramListed Unwritten part program before after = ⊥
ProgramListed Memory part program before after = ⊥
ProgramListed TooLong part program before after = ⊥
ProgramListed NoThread part program before after = ⊥
ProgramListed Link part program before after = ⊥
ProgramListed Refuted part program before after = ⊥
