-- How a call opens that runs the program of an image: the named content, and the program in it.
use Rattle.std.specs.Prelude.{◌≡◌, ℕ, List, Option, None, IfSome, Result, Ok, Err, Vec, codes}
use Rattle.std.specs.declared.alloc.Global.{Global}
use Rattle.part_spec.specs.declared.part.Part.{Part}
use Rattle.part_spec.specs.Chip.{chip_of}
use Rattle.ice_base.specs.Counts.{Rose}
use Rattle.image_hex.specs.Reading.{image_of}
use Rattle.image_hex.specs.declared.error.ImageError.{ImageError}
use Rattle.image_hex.specs.declared.error.ImageError.TheVariants.{Memory as NoMemory}
use Rattle.ice_top.specs.Outside.{Gave, Loads}
use Rattle.ice_top.specs.Notes.{line, refusal_text}
use Rattle.ice_top.specs.declared.status.Status.{Status}
use Rattle.ice_top.specs.declared.status.Status.TheVariants.{Loader as StatusLoader}
use Rattle.ice_top.specs.declared.status.Status.TheVariants.{Memory as StatusMemory, Image as StatusImage}
use Rattle.ice_top.specs.declared.opening.Unopened.{Unopened}
use Rattle.ice_top.specs.declared.opening.Unopened.TheVariants.{Loader, Memory, Image}

-- why the content with a name gives no program
abbrev pub Unread : Option (List ℕ → Option (List ℕ)) → ℕ → ℕ → Part → (name : List ℕ) → Unopened → Type 0
Unread contents before after part name Loader =
    IfSome contents (λ content_of. content_of name ≡ None) × Rose before after
Unread contents before after part name Memory = Unit {0}
Unread contents before after part name (Image fault) =
    (image : List ℕ) × Gave contents name image × (image_of (chip_of part) name image ≡ Err fault)

-- the program of the content with a name, or why there is none
abbrev pub LoadsAs : Option (List ℕ → Option (List ℕ)) → ℕ → ℕ → Part → (name : List ℕ) → Result (Vec ℕ Global) Unopened →
    Type 0
LoadsAs contents before after part name (Ok program) = Loads contents part name program.items
LoadsAs contents before after part name (Err why) = Unread contents before after part name why

-- the status of a call that did not open
abbrev pub status_of : Unopened → Status
status_of Loader = StatusLoader
status_of Memory = StatusMemory
status_of (Image fault) = StatusImage

-- its line in the notes
abbrev pub line_of : Unopened → List ℕ
line_of Loader = line (codes "loader")
line_of Memory = line (codes "memory")
line_of (Image fault) = line (refusal_text fault)

-- why a call did not open whose image was not read
abbrev pub unread_by : ImageError → Unopened
unread_by NoMemory = Memory
unread_by fault = Image fault
