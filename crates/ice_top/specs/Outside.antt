-- What is outside of a call at one moment, and what it gives and gets: the loader, both ends of the line, and the notes.
use Rattle.std.specs.Prelude.{◌≡◌, ◌⊎◌, ℕ, List, Option, Some, IfSome, Ok, take}
use Rattle.std.specs.Io.KnownBytes.{Appends}
use Rattle.part_spec.specs.declared.part.Part.{Part}
use Rattle.part_spec.specs.Chip.{chip_of}
use Rattle.ice_base.specs.Counts.{Rose}
use Rattle.image_hex.specs.Reading.{image_of}
use Rattle.ice_line.specs.Lines.{Line, WritesAll, WritesFront}

-- the most bytes that are asked of the loader, one more than an image's content may have
abbrev pub load_limit : ℕ
load_limit = 1048577

-- the line and the notes at one moment
pub record Ends : Type 0 where
  pub line : Line
  pub noted : Option (List ℕ)
  pub notes_faults : ℕ

-- what is outside at one moment
pub record Outside : Type 0 where
  pub contents : Option (List ℕ → Option (List ℕ))
  pub loader_faults : ℕ
  pub ends : Ends

-- the loader gave these bytes, which are the front of the named content where contents are told
abbrev pub Gave : Option (List ℕ → Option (List ℕ)) → List ℕ → List ℕ → Type 0
Gave contents name bytes = IfSome contents (λ content_of.
    (content : List ℕ) × (content_of name ≡ Some content) × (bytes ≡ take load_limit content))

-- the named content is an image that gives this program of the part
pub record Loads (contents : Option (List ℕ → Option (List ℕ))) (part : Part) (name program : List ℕ) : Type 0 where
  pub image : List ℕ
  pub gave : Gave contents name image
  pub gives : image_of (chip_of part) name image ≡ Ok program

-- the notes gained the text, or their count rose and they gained a front of it
abbrev pub Noted : (before after : Option (List ℕ)) → (faults faults_after : ℕ) → List ℕ → Type 0
Noted before after faults faults_after text = Appends before after text ⊎
    (Rose faults faults_after × ((n : ℕ) × Appends before after (take n text)))

abbrev pub NotesLine : (before after : Ends) → List ℕ → Type 0
NotesLine before after text = Noted before.noted after.noted before.notes_faults after.notes_faults text

-- the notes are as they were
abbrev pub NotesStill : (before after : Ends) → Type 0
NotesStill before after = (after.noted ≡ before.noted) × (after.notes_faults ≡ before.notes_faults)

-- the source is as it was, and the sink gained all of a text, or a front of it with its count risen
abbrev pub SourceStill : (before after : Line) → Type 0
SourceStill before after = (after.left ≡ before.left) × (after.source_faults ≡ before.source_faults)

abbrev pub Prints : (before after : Line) → List ℕ → Type 0
Prints before after text = WritesAll before.written after.written before.sink_faults after.sink_faults text × SourceStill before after

abbrev pub PrintsFront : (before after : Line) → List ℕ → Type 0
PrintsFront before after text = WritesFront before.written after.written before.sink_faults after.sink_faults text × SourceStill before after

-- no session opened: the line is as it was, and the notes gain the one text
abbrev pub NotOpened : (before after : Ends) → List ℕ → Type 0
NotOpened before after text = (after.line ≡ before.line) × NotesLine before after text

-- the line and the notes, and what is outside, from what each object tells
abbrev pub ends_at : Line → Option (List ℕ) → ℕ → Ends
ends_at line noted notes_faults = record { line = line; noted = noted; notes_faults = notes_faults }

abbrev pub outside : Option (List ℕ → Option (List ℕ)) → ℕ → Ends → Outside
outside contents loader_faults ends = record { contents = contents; loader_faults = loader_faults; ends = ends }
