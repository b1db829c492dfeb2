-- How a listing ends: what was read of the source, and what was put to the sink.
use Rattle.std.specs.Prelude.{◌≡◌, ◌⊎◌, ℕ, List, [], length}
use Rattle.std.specs.Io.KnownBytes.{IsAtEnd}
use Rattle.ice_base.specs.Counts.{Rose}
use Rattle.ice_line.specs.Lines.{Line, WritesAll, WritesFront, IsStill}
use Rattle.ice_line.specs.Reads.{IsRead, input_limit}
use Rattle.shell_spec.specs.Listing.{IsListing}
use Rattle.frame_listing.specs.declared.stream.ListingEnd.{ListingEnd}
use Rattle.frame_listing.specs.declared.stream.ListingEnd.TheVariants.{Okay, Read, Write, TooLong}

-- the sink gained all of the text and its count stands, or it gained a front of the text and its count rose
abbrev pub PutsAll : Line → Line → List ℕ → Type 0
PutsAll before after text = WritesAll before.written after.written before.sink_faults after.sink_faults text

abbrev pub PutsFront : Line → Line → List ℕ → Type 0
PutsFront before after text = WritesFront before.written after.written before.sink_faults after.sink_faults text

-- by why it ended, of the bytes that are listed, those read behind them, and the listing: at the end of the source; at a failed read;
-- at a line that could not be put; with the one byte more than are listed
abbrev pub EndsBy : ListingEnd → (before after : Line) → (bytes extra text : List ℕ) → Type 0
EndsBy Okay before after bytes extra text =
    (extra ≡ []) × IsAtEnd after.left × IsStill before.source_faults after.source_faults × PutsAll before after text
EndsBy Read before after bytes extra text =
    (extra ≡ []) × Rose before.source_faults after.source_faults × (PutsAll before after text ⊎ PutsFront before after text)
EndsBy Write before after bytes extra text =
    (extra ≡ []) × IsStill before.source_faults after.source_faults × PutsFront before after text
EndsBy TooLong before after bytes extra text = (length bytes ≡ input_limit) × (length extra ≡ 1) ×
    IsStill before.source_faults after.source_faults × (PutsAll before after text ⊎ PutsFront before after text)

-- some bytes were read, these are listed, and the listing ended for this
pub record IsListed (end : ListingEnd) (before after : Line) : Type 0 where
  pub bytes : List ℕ
  pub extra : List ℕ
  pub text : List ℕ
  pub read : IsRead before after bytes extra
  pub listing : IsListing bytes text
  pub ends : EndsBy end before after bytes extra text
