-- A call that does not open ends as its cause says, and one that does as what is made of its program.
use Rattle.std.proofs.Common.{◌≡◌, Bool, true, false, List, ℕ, ◌≤◌, inl, inr, Bor, sym, subst, arith}
use Rattle.std.specs.Prelude.{codes}
use Rattle.ice_top.specs.Notes.{line}
use Rattle.part_spec.specs.declared.part.Part.{Part}
use Rattle.run_control.specs.Ends.{AreStops}
use Rattle.asm_spec.specs.Listing.{listing as listing_of}
use Rattle.ice_line.specs.Lines.{Writes}
use Rattle.ice_top.specs.Outside.{Outside, Loads, NotesLine, NotesStill, SourceStill}
use Rattle.debug_spec.specs.Moved.{Flash}
use Rattle.part_spec.specs.Chip.{chip_of}
use Rattle.ice_top.specs.Endings.{EndsOnImage, EndsAs, EndsBy}
use Rattle.ice_top.specs.Replays.{Ran}
use Rattle.ice_top.specs.Programs.{ProgramListed, status_by}
use Rattle.record_check.specs.Endings.{IsChecked}
use Rattle.record_check.specs.declared.stream.CheckEnd.{CheckEnd}
use Rattle.record_check.specs.declared.stream.CheckEnd.TheVariants.{Okay as Whole, Refuted as Wrong, Read as CannotRead, Write as CannotWrite}
use Rattle.record_check.specs.declared.stream.CheckEnd.TheVariants.{TooLong as Long}
use Rattle.ice_top.specs.Verifications.{Verified, status_by as verified_by}
use Rattle.ice_top.specs.Opening.{Unread, status_of, line_of}
use Rattle.ice_top.specs.Words.{Form, replay, script, frames, gen, IsRun, Says, SaysNone, SaysNoneLocal, listing, verifying, assembling, serving, connecting}
use Rattle.ice_top.specs.Calls.{form_told}
use Rattle.ice_top.specs.declared.words.Form.{Form as Held}
use Rattle.ice_top.specs.declared.words.Form.TheVariants.{Replay, Script, Gen, Listing, Verify, Assembly, Serve, Connect}
use Rattle.arrayvec.specs.ArrayVec.{ArrayVec}
use Rattle.ice_top.specs.declared.status.Status.{Status}
use Rattle.ice_top.specs.declared.status.Status.TheVariants.{Okay, Usage, Image as StatusImage, Loader as StatusLoader}
use Rattle.ice_top.specs.declared.status.Status.TheVariants.{Read, Write, Flash as Unwritten, Memory as StatusMemory, TooLong}
use Rattle.ice_top.specs.declared.status.Status.TheVariants.{NoThread, Link, Refuted}
use Rattle.ice_top.specs.declared.opening.Unopened.{Unopened}
use Rattle.ice_top.specs.declared.opening.Unopened.TheVariants.{Loader, Memory, Image}
use Rattle.ice_top.proofs.StopLemmas.{AreStops-numbers}
use Rattle.ice_top.proofs.Scriptings.{never_no_thread_script}

-- the numbers that words say are some
AreStops-run : (command : List ℕ) (words : List (List ℕ)) (name stops : List ℕ) → IsRun command words name stops → AreStops stops
AreStops-run command words name stops r = AreStops-numbers r.text stops r.valid r.numbers

pub AreStops-said : (words : List (List ℕ)) (name stops : List ℕ) (part : Part) → Says words (replay name stops) part → AreStops stops
AreStops-said words name stops part (inl s) = AreStops-run _ words name stops s.0
AreStops-said words name stops part (inr s) = AreStops-run _ s.front name stops s.whole

pub AreStops-script : (words : List (List ℕ)) (name stops : List ℕ) (part : Part) → Says words (script name stops) part → AreStops stops
AreStops-script words name stops part (inl s) = AreStops-run _ words name stops s.0
AreStops-script words name stops part (inr s) = AreStops-run _ s.front name stops s.whole

module _ (part : Part) (name : List ℕ) (before after : Outside) (Same : Type 0) (Ends : Status → (program : List ℕ) → Type 0) where
  -- there is no program
  pub EndsOnImage-refused : (why : Unopened) →
      Unread before.contents before.loader_faults after.loader_faults part name why → after.ends.line ≡ before.ends.line →
      NotesLine before.ends after.ends (line_of why) → Same → EndsOnImage (status_of why) part name before after Same Ends
  EndsOnImage-refused Loader u e n same = (u.0, u.1, (e, n), same)
  EndsOnImage-refused Memory u e n same = ((e, n), same)
  EndsOnImage-refused (Image fault) u e n same = (u.0, fault, u.1, u.2, (e, n), same)

-- a replay of a program
pub EndsAs-ran : {F : Type 0} (flash : Flash F) (status : Status) (image stops program : List ℕ) (part : Part) (before after : Outside)
    (from to : F) → Loads before.contents part image program → after.loader_faults ≡ before.loader_faults →
    Ran flash status (chip_of part) program stops before.ends after.ends from to →
    EndsAs flash status (replay image stops) part before after from to
EndsAs-ran flash Okay image stops program part before after from to l f r = record { program = program; loads = l; loader = f; ends = r }
EndsAs-ran flash Read image stops program part before after from to l f r = record { program = program; loads = l; loader = f; ends = r }
EndsAs-ran flash Write image stops program part before after from to l f r = record { program = program; loads = l; loader = f; ends = r }
EndsAs-ran flash TooLong image stops program part before after from to l f r = record { program = program; loads = l; loader = f; ends = r }
EndsAs-ran flash Unwritten image stops program part before after from to l f r =
    record { program = program; loads = l; loader = f; ends = r }
EndsAs-ran flash StatusMemory image stops program part before after from to l f r = r
EndsAs-ran flash Usage image stops program part before after from to l f r = absurd r
EndsAs-ran flash StatusImage image stops program part before after from to l f r = absurd r
EndsAs-ran flash StatusLoader image stops program part before after from to l f r = absurd r
EndsAs-ran flash NoThread image stops program part before after from to l f r = absurd r
EndsAs-ran flash Link image stops program part before after from to l f r = absurd r
EndsAs-ran flash Refuted image stops program part before after from to l f r = absurd r

-- a listing of a program that was written or not
pub EndsOnImage-listed : (written : Bool) (image program : List ℕ) (part : Part) (before after : Outside) →
    Loads before.contents part image program → after.loader_faults ≡ before.loader_faults →
    Writes written before.ends.line.written after.ends.line.written before.ends.line.sink_faults after.ends.line.sink_faults
    (listing_of (chip_of part) program) → SourceStill before.ends.line after.ends.line → NotesStill before.ends after.ends →
    EndsOnImage (status_by written) part image before after (Unit {0})
    (λ status program. ProgramListed status (chip_of part) program before.ends after.ends)
EndsOnImage-listed true image program part before after l f w still noted =
    record { program = program; loads = l; loader = f; ends = ((w, still), noted) }
EndsOnImage-listed false image program part before after l f w still noted =
    record { program = program; loads = l; loader = f; ends = ((w, still), noted) }

-- a record was checked
pub EndsOnImage-checked : (end : CheckEnd) (image program : List ℕ) (part : Part) (before after : Outside) →
    Loads before.contents part image program → after.loader_faults ≡ before.loader_faults →
    IsChecked end (chip_of part) program before.ends.line after.ends.line → NotesStill before.ends after.ends →
    EndsOnImage (verified_by end) part image before after (Unit {0})
    (λ status program. Verified status (chip_of part) program before.ends after.ends)
EndsOnImage-checked Whole image program part before after l f c noted = record { program = program; loads = l; loader = f; ends = (c, noted) }
EndsOnImage-checked Wrong image program part before after l f c noted = record { program = program; loads = l; loader = f; ends = (c, noted) }
EndsOnImage-checked CannotRead image program part before after l f c noted = record { program = program; loads = l; loader = f; ends = (c, noted) }
EndsOnImage-checked CannotWrite image program part before after l f c noted = record { program = program; loads = l; loader = f; ends = (c, noted) }
EndsOnImage-checked Long image program part before after l f c noted = record { program = program; loads = l; loader = f; ends = (c, noted) }

-- no call of a form ends by these
never_usage : {F : Type 0} (flash : Flash F) (form : Form) (part : Part) (before after : Outside) (from to : F) →
    EndsAs flash Usage form part before after from to → ⊥
never_usage flash (replay image stops) part before after from to e = e
never_usage flash (script image stops) part before after from to e = e
never_usage flash frames part before after from to e = e.0
never_usage flash (gen seed count) part before after from to e = e.0
never_usage flash (listing image) part before after from to e = e.0
never_usage flash (verifying image) part before after from to e = e.0
never_usage flash assembling part before after from to e = e.0
never_usage flash (serving port image) part before after from to e = e
never_usage flash (connecting port) part before after from to e = e

never_no_thread : {F : Type 0} (flash : Flash F) (form : Form) (part : Part) (before after : Outside) (from to : F) →
    EndsAs flash NoThread form part before after from to → ⊥
never_no_thread flash (replay image stops) part before after from to e = e.ends
never_no_thread flash (script image stops) part before after from to e =
    never_no_thread_script flash (chip_of part) e.program stops before.ends after.ends from to e.ends
never_no_thread flash frames part before after from to e = e.0
never_no_thread flash (gen seed count) part before after from to e = e.0
never_no_thread flash (listing image) part before after from to e = e.0.ends
never_no_thread flash (verifying image) part before after from to e = e.0.ends
never_no_thread flash assembling part before after from to e = e.0
never_no_thread flash (serving port image) part before after from to e = e
never_no_thread flash (connecting port) part before after from to e = e

-- a call of which the words say the form
pub EndsBy-called : {F : Type 0} (flash : Flash F) (status : Status) (words : List (List ℕ)) (form : Form) (part : Part)
    (before after : Outside) (from to : F) → Says words form part → EndsAs flash status form part before after from to →
    EndsBy flash status words before after from to
EndsBy-called flash Usage words form part before after from to says e = absurd (never_usage flash form part before after from to e)
EndsBy-called flash StatusImage words form part before after from to says e = record { form = form; part = part; says = says; ends = e }
EndsBy-called flash StatusLoader words form part before after from to says e = record { form = form; part = part; says = says; ends = e }
EndsBy-called flash StatusMemory words form part before after from to says e = record { form = form; part = part; says = says; ends = e }
EndsBy-called flash Okay words form part before after from to says e = record { form = form; part = part; says = says; ends = e }
EndsBy-called flash Read words form part before after from to says e = record { form = form; part = part; says = says; ends = e }
EndsBy-called flash Write words form part before after from to says e = record { form = form; part = part; says = says; ends = e }
EndsBy-called flash TooLong words form part before after from to says e = record { form = form; part = part; says = says; ends = e }
EndsBy-called flash Unwritten words form part before after from to says e = record { form = form; part = part; says = says; ends = e }
EndsBy-called flash NoThread words form part before after from to says e =
    absurd (never_no_thread flash form part before after from to e)
EndsBy-called flash Link words form part before after from to says e = record { form = form; part = part; says = says; ends = e }
EndsBy-called flash Refuted words form part before after from to says e = record { form = form; part = part; says = says; ends = e }

-- and words that say none
pub EndsBy-no_call : {F : Type 0} (flash : Flash F) (status : Status) (words : List (List ℕ)) (before after : Outside) (from to : F) →
    status ≡ Usage → SaysNoneLocal words → after.ends.line ≡ before.ends.line → NotesLine before.ends after.ends (line (codes "usage")) →
    to ≡ from → EndsBy flash status words before after from to
EndsBy-no_call flash status words before after from to is none still noted same =
    let Ended : Status → Type 0 = λ x. EndsBy flash x words before after from to in subst Ended (sym is) (none, (still, noted), same)

-- so few commands does a made session have
pub few_said : (words : List (List ℕ)) (seed count : ℕ) (part : Part) → Says words (gen seed count) part → count ≤ 100000
few_said words seed count part (inl s) = omega (arith, s.0.is_count, s.0.valid_count.to_most)
few_said words seed count part (inr s) = omega (arith, s.whole.is_count, s.whole.valid_count.to_most)

-- where words say no call at all, they say none of `ice2`
pub SaysNoneLocal-none : (words : List (List ℕ)) → SaysNone words → SaysNoneLocal words
SaysNoneLocal-none words none form part says local = none form part says

-- the words say what was read from them
module _ (words : List (List ℕ)) (form : Held) (part : Part) (says : Says words (form_told form) part) where
  said_so : (other : Held) → form ≡ other → Says words (form_told other) part
  said_so other is = let P : Held → Type 0 = λ x. Says words (form_told x) part in subst P is says

  pub stops_told : (image : Bor (List ℕ)) (stops : ArrayVec ℕ) → form ≡ Replay image stops → AreStops stops.items
  stops_told image stops is = AreStops-said words image.now stops.items part (said_so (Replay image stops) is)

  pub script_stops_told : (image : Bor (List ℕ)) (stops : ArrayVec ℕ) → form ≡ Script image stops → AreStops stops.items
  script_stops_told image stops is = AreStops-script words image.now stops.items part (said_so (Script image stops) is)

  pub served_told : (port : ℕ) (image : Bor (List ℕ)) → form ≡ Serve port image → Says words (serving port image.now) part
  served_told port image is = said_so (Serve port image) is

  pub assembly_told : form ≡ Assembly → Says words assembling part
  assembly_told is = said_so Assembly is

  pub connected_told : (port : ℕ) → form ≡ Connect port → Says words (connecting port) part
  connected_told port is = said_so (Connect port) is

  pub few_told : (seed count : ℕ) → form ≡ Gen seed count → count ≤ 100000
  few_told seed count is = few_said words seed count part (said_so (Gen seed count) is)

  module _ {F : Type 0} (flash : Flash F) (status : Status) (before after : Outside) (from to : F) where
    pub EndsBy-replay : (image : Bor (List ℕ)) (stops : ArrayVec ℕ) → form ≡ Replay image stops →
        EndsAs flash status (replay image.now stops.items) part before after from to → EndsBy flash status words before after from to
    EndsBy-replay image stops is ends =
        EndsBy-called flash status words (replay image.now stops.items) part before after from to (said_so (Replay image stops) is) ends

    pub EndsBy-script : (image : Bor (List ℕ)) (stops : ArrayVec ℕ) → form ≡ Script image stops →
        EndsAs flash status (script image.now stops.items) part before after from to → EndsBy flash status words before after from to
    EndsBy-script image stops is ends =
        EndsBy-called flash status words (script image.now stops.items) part before after from to (said_so (Script image stops) is) ends

    pub EndsBy-gen : (seed count : ℕ) → form ≡ Gen seed count → EndsAs flash status (gen seed count) part before after from to →
        EndsBy flash status words before after from to
    EndsBy-gen seed count is ends =
        EndsBy-called flash status words (gen seed count) part before after from to (said_so (Gen seed count) is) ends

    pub EndsBy-listing : (image : Bor (List ℕ)) → form ≡ Listing image → EndsAs flash status (listing image.now) part before after from to →
        EndsBy flash status words before after from to
    EndsBy-listing image is ends =
        EndsBy-called flash status words (listing image.now) part before after from to (said_so (Listing image) is) ends

    pub EndsBy-verify : (image : Bor (List ℕ)) → form ≡ Verify image → EndsAs flash status (verifying image.now) part before after from to →
        EndsBy flash status words before after from to
    EndsBy-verify image is ends =
        EndsBy-called flash status words (verifying image.now) part before after from to (said_so (Verify image) is) ends

    pub EndsBy-assembly : form ≡ Assembly → EndsAs flash status assembling part before after from to →
        EndsBy flash status words before after from to
    EndsBy-assembly is ends = EndsBy-called flash status words assembling part before after from to (said_so Assembly is) ends
