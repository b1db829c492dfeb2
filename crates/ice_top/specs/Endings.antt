-- How a call ends: what each status says of the words, the image, the line, the flash and the notes.
use Rattle.std.specs.Prelude.{◌≡◌, ℕ, List, None, IfSome, Err, codes}
use Rattle.part_spec.specs.declared.part.Part.{Part}
use Rattle.part_spec.specs.Chip.{chip_of}
use Rattle.debug_spec.specs.Moved.{Flash}
use Rattle.ice_base.specs.Counts.{Rose}
use Rattle.image_hex.specs.Reading.{image_of}
use Rattle.image_hex.specs.declared.error.ImageError.{ImageError}
use Rattle.ice_top.specs.Words.{Form, replay, script, frames, gen, Says, SaysNoneLocal, listing, verifying, assembling, serving, connecting}
use Rattle.ice_top.specs.Notes.{line, refusal_text}
use Rattle.ice_top.specs.Outside.{Outside, Gave, Loads, NotOpened}
use Rattle.ice_top.specs.Replays.{Ran}
use Rattle.ice_top.specs.Scripts.{Scripted}
use Rattle.ice_top.specs.Listings.{Listed}
use Rattle.ice_top.specs.Assemblies.{TextAssembled}
use Rattle.ice_top.specs.Makings.{MadeBy}
use Rattle.ice_top.specs.Programs.{ProgramListed}
use Rattle.ice_top.specs.Verifications.{Verified}
use Rattle.ice_top.specs.declared.status.Status.{Status}
use Rattle.ice_top.specs.declared.status.Status.TheVariants.{Okay, Usage, Image, Loader, Read, Write, Flash as Unwritten, Memory, TooLong}
use Rattle.ice_top.specs.declared.status.Status.TheVariants.{NoThread, Link, Refuted}

-- the named content gives a program, and the call ended so with it
pub record RunsOn (part : Part) (name : List ℕ) (before after : Outside) (Ends : (program : List ℕ) → Type 0) : Type 0 where
  pub program : List ℕ
  pub loads : Loads before.contents part name program
  pub loader : after.loader_faults ≡ before.loader_faults
  pub ends : Ends program

-- how a call ends that runs the program of an image: there is no program, and the flash is the same; or there is one, and it ended so
abbrev pub EndsOnImage : Status → Part → (name : List ℕ) → (before after : Outside) → (Same : Type 0) →
    (Ends : Status → (program : List ℕ) → Type 0) → Type 0
EndsOnImage Usage part name before after Same Ends = ⊥
EndsOnImage Image part name before after Same Ends = (image : List ℕ) × (fault : ImageError)
    × Gave before.contents name image × (image_of (chip_of part) name image ≡ Err fault)
    × NotOpened before.ends after.ends (line (refusal_text fault)) × Same
EndsOnImage Loader part name before after Same Ends = IfSome before.contents (λ content_of. content_of name ≡ None)
    × Rose before.loader_faults after.loader_faults × NotOpened before.ends after.ends (line (codes "loader")) × Same
EndsOnImage Memory part name before after Same Ends = NotOpened before.ends after.ends (line (codes "memory")) × Same
EndsOnImage Okay part name before after Same Ends = RunsOn part name before after (Ends Okay)
EndsOnImage Read part name before after Same Ends = RunsOn part name before after (Ends Read)
EndsOnImage Write part name before after Same Ends = RunsOn part name before after (Ends Write)
EndsOnImage Unwritten part name before after Same Ends = RunsOn part name before after (Ends Unwritten)
EndsOnImage TooLong part name before after Same Ends = RunsOn part name before after (Ends TooLong)
EndsOnImage NoThread part name before after Same Ends = RunsOn part name before after (Ends NoThread)
EndsOnImage Link part name before after Same Ends = RunsOn part name before after (Ends Link)
EndsOnImage Refuted part name before after Same Ends = RunsOn part name before after (Ends Refuted)

-- the loader was not called, or none of its calls failed
abbrev pub LoaderStill : (before after : Outside) → Type 0
LoaderStill before after = after.loader_faults ≡ before.loader_faults

-- how a call of each form ends; `ice2` makes none of a session with a client or a shell over a port
abbrev pub EndsAs : {F : Type 0} → Flash F → Status → Form → Part → (before after : Outside) → (from to : F) → Type 0
EndsAs flash status (replay image stops) part before after from to = EndsOnImage status part image before after (to ≡ from)
    (λ status program. Ran flash status (chip_of part) program stops before.ends after.ends from to)
EndsAs flash status (script image stops) part before after from to = EndsOnImage status part image before after (to ≡ from)
    (λ status program. Scripted flash status (chip_of part) program stops before.ends after.ends from to)
EndsAs flash status frames part before after from to = Listed status before.ends after.ends × LoaderStill before after × (to ≡ from)
EndsAs flash status (gen seed count) part before after from to =
    MadeBy flash status (chip_of part) seed count before.ends after.ends from to × LoaderStill before after
EndsAs flash status (listing image) part before after from to = EndsOnImage status part image before after (Unit {0})
    (λ status program. ProgramListed status (chip_of part) program before.ends after.ends) × (to ≡ from)
EndsAs flash status (verifying image) part before after from to = EndsOnImage status part image before after (Unit {0})
    (λ status program. Verified status (chip_of part) program before.ends after.ends) × (to ≡ from)
EndsAs flash status assembling part before after from to =
    TextAssembled status (chip_of part) before.ends after.ends × LoaderStill before after × (to ≡ from)
EndsAs flash status (serving port image) part before after from to = ⊥
EndsAs flash status (connecting port) part before after from to = ⊥

-- the words say a call, which ended so
pub record Called (words : List (List ℕ)) (Ends : Form → Part → Type 0) : Type 0 where
  pub form : Form
  pub part : Part
  pub says : Says words form part
  pub ends : Ends form part

-- what each status says: the words say no call of `ice2`, or one that ended so
abbrev pub EndsBy : {F : Type 0} → Flash F → Status → List (List ℕ) → (before after : Outside) → (from to : F) → Type 0
EndsBy flash Usage words before after from to = SaysNoneLocal words × NotOpened before.ends after.ends (line (codes "usage")) × (to ≡ from)
EndsBy flash Image words before after from to = Called words (λ form part. EndsAs flash Image form part before after from to)
EndsBy flash Loader words before after from to = Called words (λ form part. EndsAs flash Loader form part before after from to)
EndsBy flash Memory words before after from to = Called words (λ form part. EndsAs flash Memory form part before after from to)
EndsBy flash Okay words before after from to = Called words (λ form part. EndsAs flash Okay form part before after from to)
EndsBy flash Read words before after from to = Called words (λ form part. EndsAs flash Read form part before after from to)
EndsBy flash Write words before after from to = Called words (λ form part. EndsAs flash Write form part before after from to)
EndsBy flash Unwritten words before after from to = Called words (λ form part. EndsAs flash Unwritten form part before after from to)
EndsBy flash TooLong words before after from to = Called words (λ form part. EndsAs flash TooLong form part before after from to)
EndsBy flash NoThread words before after from to = ⊥
EndsBy flash Link words before after from to = Called words (λ form part. EndsAs flash Link form part before after from to)
EndsBy flash Refuted words before after from to = Called words (λ form part. EndsAs flash Refuted form part before after from to)
