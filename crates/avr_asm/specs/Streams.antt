-- How the text of a source is assembled: what was read, and what was put.
use Rattle.std.specs.Prelude.{◌≡◌, ℕ, ◌<◌, ◌≤◌, List, length, take, Option, Result, Ok, Err}
use Rattle.std.specs.Io.KnownBytes.{Consumes, IsAtEnd}
use Rattle.ice_base.specs.Counts.{Rose}
use Rattle.ice_line.specs.Lines.{Line, IsStill, WritesAll, WritesFront}
use Rattle.part_spec.specs.Chip.{Chip}
use Rattle.asm_spec.specs.Words.{Assembly, assembly, bytes_of, image_of}
use Rattle.avr_asm.specs.Answers.{most_bytes}
use Rattle.avr_asm.specs.declared.assembler.Assembled.{Assembled}
use Rattle.avr_asm.specs.declared.error.AsmError.TheVariants.{Large, At, Memory}
use Rattle.avr_asm.specs.declared.stream.AssemblyEnd.{AssemblyEnd}
use Rattle.avr_asm.specs.declared.stream.AssemblyEnd.TheVariants.{Okay, Read, Write, Refused}

-- the most bytes that are read: one more than a text may have
abbrev pub read_limit : ℕ
read_limit = 1048577

-- a text was read, to the end of the source or to the limit, and no read failed
pub record IsTextRead (before after : Line) (text : List ℕ) : Type 0 where
  pub consumed : Consumes before.left after.left text
  pub most : length text ≤ read_limit
  pub whole : length text < read_limit → IsAtEnd after.left
  pub still : IsStill before.source_faults after.source_faults

-- nothing was put
abbrev pub IsUnsent : (before after : Line) → Type 0
IsUnsent before after = (after.written ≡ before.written) × IsStill before.sink_faults after.sink_faults

-- a text was read whole, and gives these words
pub record IsMade (part : Chip) (before after : Line) (made : Assembly) : Type 0 where
  pub text : List ℕ
  pub read : IsTextRead before after text
  pub small : length text ≤ most_bytes
  pub gives : assembly part text ≡ Ok made

-- what each end says: the words of the text were put as an image, or a front of it; a read failed; the text is too large, which is
-- where a byte more than it may have was read; it is wrong, and its first error is this; or there was no memory
abbrev pub IsAssembled : Chip → AssemblyEnd → (before after : Line) → Type 0
IsAssembled part Okay before after = (made : Assembly) × IsMade part before after made
    × WritesAll before.written after.written before.sink_faults after.sink_faults (image_of made)
IsAssembled part Write before after = (made : Assembly) × IsMade part before after made
    × WritesFront before.written after.written before.sink_faults after.sink_faults (image_of made)
IsAssembled part Read before after = (text : List ℕ) × Consumes before.left after.left text × (length text < read_limit)
    × Rose before.source_faults after.source_faults × IsUnsent before after
IsAssembled part (Refused Large) before after = (text : List ℕ) × IsTextRead before after text × (length text ≡ read_limit)
    × IsUnsent before after
IsAssembled part (Refused (At line kind)) before after = (text : List ℕ) × IsTextRead before after text × (length text ≤ most_bytes)
    × (assembly part text ≡ Err (record { line = line; kind = kind })) × IsUnsent before after
IsAssembled part (Refused Memory) before after = (text : List ℕ) × Consumes before.left after.left text × (length text ≤ most_bytes)
    × IsStill before.source_faults after.source_faults × IsUnsent before after

-- what was read into the front of a buffer: up to the end of the source or the buffer's, or to a read that failed
abbrev pub Fills : {E : Type 0} → (before after : Option (List ℕ)) → (faults faults_now : ℕ) → (buffer : List ℕ) → Result ℕ E → Type 0
Fills before after faults faults_now buffer (Ok count) = Consumes before after (take count buffer) × (count ≤ length buffer)
    × (count < length buffer → IsAtEnd after) × IsStill faults faults_now
Fills before after faults faults_now buffer (Err failed) = ((count : ℕ) × Consumes before after (take count buffer) × (count < length buffer))
    × Rose faults faults_now

-- the image of what was made was put, or a front of it
abbrev pub Puts : AssemblyEnd → (before after : Option (List ℕ)) → (faults faults_now : ℕ) → Assembled → Type 0
Puts Okay before after faults faults_now made = WritesAll before after faults faults_now (bytes_of (take made.used made.words.items))
Puts Write before after faults faults_now made = WritesFront before after faults faults_now (bytes_of (take made.used made.words.items))
Puts Read before after faults faults_now made = ⊥
Puts (Refused error) before after faults faults_now made = ⊥
