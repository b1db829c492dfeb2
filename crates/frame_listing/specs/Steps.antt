-- What is listed on the way, a frame and a chunk at a time.
use Rattle.std.specs.Prelude.{◌≡◌, ℕ, ◌-◌, ◌<◌, Bool, true, false, List, [], ◌++◌, Option, None, Some, length}
use Rattle.line_spec.specs.Frames.{IsPartial}
use Rattle.line_spec.specs.Cut.{Item, Cuts}
use Rattle.ice_line.specs.Lines.{WritesAll, WritesFront, Writes}
use Rattle.ice_recv.specs.Received.{Received}
use Rattle.ice_recv.specs.Receiving.{Waits}
use Rattle.shell_spec.specs.Listing.{listed}
use Rattle.frame_listing.specs.declared.stream.ListingEnd.{ListingEnd}
use Rattle.frame_listing.specs.declared.stream.ListingEnd.TheVariants.{Okay, Read, Write, TooLong}

-- with so many junk bytes open, the bytes are some items and what is behind them; the lines of the items begin with the text, which leaves
-- so many junk bytes open, however the items go on
pub record Lists (open_before : ℕ) (bytes text : List ℕ) (open_now : ℕ) (behind : List ℕ) : Type 0 where
  pub items : List Item
  pub cuts : Cuts bytes items behind
  pub lines : (others : List Item) → listed open_before (items ++ others) ≡ text ++ listed open_now others

-- the junk bytes that are open: those dropped of which so many are listed
abbrev pub opened : Received → ℕ → ℕ
opened receiver so_many = receiver.dropped - so_many

-- the frame that waits is listed with the junk ahead of it; none waits
abbrev pub NextLists : Option Bool → (before : Received) (listed_before : ℕ) (after : Received) (listed_now : ℕ) →
    (written written_now : Option (List ℕ)) → (faults faults_now : ℕ) → Type 0
NextLists None before listed_before after listed_now written written_now faults faults_now =
    (Waits before.held → ⊥) × (after ≡ before) × (listed_now ≡ listed_before) × WritesAll written written_now faults faults_now []
NextLists (Some all) before listed_before after listed_now written written_now faults faults_now = (text : List ℕ) ×
    Lists (opened before listed_before) before.held text (opened after listed_now) after.held ×
    Writes all written written_now faults faults_now text × (length after.held < length before.held)

-- a chunk is listed as far as its lines are known, and less than a frame is held; or a front of such lines was put
abbrev pub ChunkLists : Bool → (before : Received) (listed_before : ℕ) (chunk : List ℕ) (after : Received) (listed_now : ℕ) →
    (written written_now : Option (List ℕ)) → (faults faults_now : ℕ) → Type 0
ChunkLists true before listed_before chunk after listed_now written written_now faults faults_now = (text : List ℕ) ×
    Lists (opened before listed_before) (before.held ++ chunk) text (opened after listed_now) after.held ×
    WritesAll written written_now faults faults_now text × IsPartial after.held
ChunkLists false before listed_before chunk after listed_now written written_now faults faults_now = (text : List ℕ) × (open_now : ℕ) ×
    (behind : List ℕ) × Lists (opened before listed_before) (before.held ++ chunk) text open_now behind ×
    WritesFront written written_now faults faults_now text

-- why a listing ends that ended for this, where all of its last lines were put, or not
abbrev pub ended : ListingEnd → (all : Bool) → ListingEnd
ended Okay true = Okay
ended Okay false = Write
ended Read all = Read
ended Write all = Write
ended TooLong all = TooLong
