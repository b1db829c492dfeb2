-- How the assembly of a text ends: its image goes to the sink, and what is wrong with the text to the notes. The text was read then.
use Rattle.std.specs.Prelude.{◌⊎◌, ℕ}
use Rattle.part_spec.specs.Chip.{Chip}
use Rattle.asm_spec.specs.declared.kind.AsmKind.{AsmKind}
use Rattle.avr_asm.specs.Streams.{IsAssembled}
use Rattle.avr_asm.specs.declared.error.AsmError.{AsmError}
use Rattle.avr_asm.specs.declared.error.AsmError.TheVariants.{Large, At, Memory as NoMemory}
use Rattle.avr_asm.specs.declared.stream.AssemblyEnd.TheVariants.{Okay as Whole, Read as Unread, Write as Unsent, Refused}
use Rattle.ice_top.specs.Notes.{line, fault_text}
use Rattle.ice_top.specs.Outside.{Ends, NotesLine, NotesStill}
use Rattle.ice_top.specs.declared.status.Status.{Status}
use Rattle.ice_top.specs.declared.status.Status.TheVariants.{Okay, Usage, Image, Loader, Read, Write, Flash as Unwritten, Memory, TooLong}
use Rattle.ice_top.specs.declared.status.Status.TheVariants.{NoThread, Link, Refuted}

-- the status of a text that is refused, and the line that says why
abbrev pub status_of : AsmError → Status
status_of Large = Image
status_of (At number kind) = Image
status_of NoMemory = Memory

abbrev pub IsRefused : Chip → AsmError → (before after : Ends) → Type 0
IsRefused part error before after =
    IsAssembled part (Refused error) before.line after.line × NotesLine before after (line (fault_text error))

-- what each status says of the assembly of a text: a text that is refused is too large, or wrong in a line
abbrev pub TextAssembled : Status → Chip → (before after : Ends) → Type 0
TextAssembled Okay part before after = IsAssembled part Whole before.line after.line × NotesStill before after
TextAssembled Read part before after = IsAssembled part Unread before.line after.line × NotesStill before after
TextAssembled Write part before after = IsAssembled part Unsent before.line after.line × NotesStill before after
TextAssembled Image part before after =
    IsRefused part Large before after ⊎ ((number : ℕ) × (kind : AsmKind) × IsRefused part (At number kind) before after)
TextAssembled Memory part before after = IsRefused part NoMemory before after
TextAssembled Usage part before after = ⊥
TextAssembled Loader part before after = ⊥
TextAssembled Unwritten part before after = ⊥
TextAssembled TooLong part before after = ⊥
TextAssembled NoThread part before after = ⊥
TextAssembled Link part before after = ⊥
TextAssembled Refuted part before after = ⊥
