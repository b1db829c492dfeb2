-- The stream, chunk by chunk: what was read and listed so far, and how the listing ends.
use Rattle.std.proofs.Common.{◌≡◌, ℕ, ◌+◌, ◌-◌, ◌<◌, ◌≤◌, Bool, true, false, List, [], ◌++◌, Option, length, inl, inr}
use Rattle.std.proofs.Common.{refl, sym, ◌∙◌, subst, arith, length-append, append-nil}
use Rattle.std.proofs.KnownBytes.{Appends-nil, Consumes-nil, Consumes-trans}
use Rattle.std.specs.Prelude.{codes, ◌⊎◌}
use Rattle.std.specs.Io.KnownBytes.{Consumes, IsAtEnd}
use Rattle.line_spec.specs.Frames.{IsBytes, IsPartial}
use Rattle.line_spec.proofs.Bytes.{IsBytes-nil, IsBytes-append}
use Rattle.ice_base.specs.Counts.{Rose}
use Rattle.ice_line.specs.Lines.{Line, line_at, Writes, WritesAll, WritesFront}
use Rattle.ice_line.specs.Reads.{IsRead, input_limit}
use Rattle.ice_line.proofs.Pieces.{front_first, front_more, writes_more}
use Rattle.ice_recv.specs.Received.{Received}
use Rattle.shell_spec.specs.Listing.{IsListing, count_text}
use Rattle.frame_listing.specs.Endings.{IsListed}
use Rattle.frame_listing.specs.Steps.{Lists, ChunkLists, opened, ended}
use Rattle.frame_listing.specs.declared.stream.ListingEnd.{ListingEnd}
use Rattle.frame_listing.specs.declared.stream.ListingEnd.TheVariants.{Okay, Read, Write, TooLong}
use Rattle.frame_listing.proofs.Listed.{Lists-none, Lists-more, whole_listing, begun_listing}

-- so many bytes may still be read; all that were read are listed as far as their lines are known, and these are put
pub record Reading (left left_now written written_now : Option (List ℕ)) (sink_faults sink_now : ℕ) (allowed : ℕ) (now : Received)
    (so_many : ℕ) : Type 0 where
  pub bytes : List ℕ
  pub text : List ℕ
  pub size : length bytes + allowed ≡ input_limit
  pub valid : IsBytes bytes
  pub consumed : Consumes left left_now bytes
  pub lists : Lists 0 bytes text (opened now so_many) now.held
  pub wrote : WritesAll written written_now sink_faults sink_now text

pub reading_start : (left written : Option (List ℕ)) (sink_faults : ℕ) →
    Reading left left written written sink_faults sink_faults input_limit (record { held = []; dropped = 0 }) 0
reading_start left written sink_faults = record {
  bytes = [];
  text = [];
  size = refl;
  valid = IsBytes-nil;
  consumed = Consumes-nil left;
  lists = Lists-none 0 [];
  wrote = (Appends-nil written, refl);
}

-- all of a text, or a front of it
either : (all : Bool) (before after : Option (List ℕ)) (faults faults_now : ℕ) (a : List ℕ) → Writes all before after faults faults_now a →
    WritesAll before after faults faults_now a ⊎ WritesFront before after faults faults_now a
either true before after faults faults_now a h = inl h
either false before after faults faults_now a h = inr h

module _ (left middle last written written_now : Option (List ℕ)) (source_faults source_now sink_faults sink_now : ℕ) (allowed : ℕ) (now : Received)
    (so_many : ℕ) (reading : Reading left middle written written_now sink_faults sink_now allowed now so_many)
    (source_counts : source_now ≡ source_faults) where
  abbrev before : Line
  before = line_at left source_faults written sink_faults

  -- a chunk is read and listed
  module _ (chunk : List ℕ) (taken : Consumes middle last chunk) (valid : IsBytes chunk) (within : length chunk ≤ allowed) (after : Received)
      (listed_after : ℕ) (written_after : Option (List ℕ)) (sink_after : ℕ) where
    pub reading_more : ChunkLists true now so_many chunk after listed_after written_now written_after sink_now sink_after →
        Reading left last written written_after sink_faults sink_after (allowed - length chunk) after listed_after
    reading_more h = record {
      bytes = reading.bytes ++ chunk;
      text = reading.text ++ h.0;
      size = omega (arith, reading.size, within, length-append reading.bytes chunk);
      valid = IsBytes-append reading.bytes chunk reading.valid valid;
      consumed = Consumes-trans left middle last reading.bytes chunk reading.consumed taken;
      lists = Lists-more 0 (opened now so_many) (opened after listed_after) reading.bytes chunk now.held after.held reading.text h.0
          reading.lists h.1;
      wrote = writes_more true written written_now written_after sink_faults sink_now sink_after reading.text h.0 reading.wrote h.2;
    }

    -- or a line could not be put
    pub unput : (source_after : ℕ) → source_after ≡ source_now →
        ChunkLists false now so_many chunk after listed_after written_now written_after sink_now sink_after →
        IsListed Write before (line_at last source_after written_after sink_after)
    unput source_after still h =
        let bytes : List ℕ = reading.bytes ++ chunk in
        let text : List ℕ = reading.text ++ h.0 in
        let whole : IsBytes bytes = IsBytes-append reading.bytes chunk reading.valid valid in
        let begun = begun_listing h.1 bytes text h.2 (Lists-more 0 (opened now so_many) h.1 reading.bytes chunk now.held h.2 reading.text h.0
        reading.lists h.3) whole in
        record {
          bytes = bytes;
          extra = [];
          text = text ++ begun.0;
          read = record {
            consumed = subst (λ (l : List ℕ). Consumes left last l) (sym (append-nil bytes))
                (Consumes-trans left middle last reading.bytes chunk reading.consumed taken);
            most = omega (arith, reading.size, within, length-append reading.bytes chunk);
            few = omega arith;
            valid = whole;
          };
          listing = begun.1;
          ends = (
            refl,
            still ∙ source_counts,
            front_first written written_after sink_faults sink_after text begun.0
                (front_more written written_now written_after sink_faults sink_now sink_after reading.text h.0 reading.wrote h.4),
          );
        }

  -- the stream ends where nothing more was listed of it, and the last lines are put, or not
  module _ (partial : IsPartial now.held) (extra : List ℕ) (taken : Consumes middle last extra) (few : length extra < 512) (source_after : ℕ)
      (written_after : Option (List ℕ)) (sink_after : ℕ) (all : Bool)
      (writes : Writes all written_now written_after sink_now sink_after
      (count_text (codes "junk") (opened now so_many) ++ count_text (codes "rest") (length now.held))) where
    abbrev after_line : Line
    after_line = line_at last source_after written_after sink_after

    abbrev lines : List ℕ
    lines = count_text (codes "junk") (opened now so_many) ++ count_text (codes "rest") (length now.held)

    read_so : IsRead before after_line reading.bytes extra
    read_so = record {
      consumed = Consumes-trans left middle last reading.bytes extra reading.consumed taken;
      most = omega (arith, reading.size);
      few = few;
      valid = reading.valid;
    }

    listing_so : IsListing reading.bytes (reading.text ++ lines)
    listing_so = whole_listing (opened now so_many) reading.bytes reading.text now.held reading.lists partial

    written_so : Writes all written written_after sink_faults sink_after (reading.text ++ lines)
    written_so = writes_more all written written_now written_after sink_faults sink_now sink_after reading.text lines reading.wrote writes

    either_so : WritesAll written written_after sink_faults sink_after (reading.text ++ lines) ⊎
        WritesFront written written_after sink_faults sink_after (reading.text ++ lines)
    either_so = either all written written_after sink_faults sink_after (reading.text ++ lines) written_so

    -- with one byte too many
    pub ends_long : (end : ListingEnd) → end ≡ ended TooLong all → allowed ≡ 0 → length extra ≡ 1 → source_after ≡ source_now →
        IsListed end before after_line
    ends_long end is none one still = subst (λ (x : ListingEnd). IsListed x before after_line) (sym is) (record {
      bytes = reading.bytes;
      extra = extra;
      text = reading.text ++ lines;
      read = read_so;
      listing = listing_so;
      ends = (omega (arith, reading.size, none), one, still ∙ source_counts, either_so);
    })

    -- at a failed read
    pub ends_failed : (end : ListingEnd) → end ≡ ended Read all → extra ≡ [] → Rose source_now source_after → IsListed end before after_line
    ends_failed end is none rose = subst (λ (x : ListingEnd). IsListed x before after_line) (sym is) (record {
      bytes = reading.bytes;
      extra = extra;
      text = reading.text ++ lines;
      read = read_so;
      listing = listing_so;
      ends = (none, omega (arith, source_counts, rose), either_so);
    })

  -- at the end of the source
  pub ends_okay : (partial : IsPartial now.held) → (source_after : ℕ) (written_after : Option (List ℕ)) (sink_after : ℕ) (all : Bool) →
      Consumes middle last [] → IsAtEnd last → source_after ≡ source_now →
      Writes all written_now written_after sink_now sink_after
      (count_text (codes "junk") (opened now so_many) ++ count_text (codes "rest") (length now.held)) →
      IsListed (ended Okay all) before (line_at last source_after written_after sink_after)
  ends_okay partial source_after written_after sink_after true taken at still writes = record {
    bytes = reading.bytes;
    extra = [];
    text = reading.text ++ (count_text (codes "junk") (opened now so_many) ++ count_text (codes "rest") (length now.held));
    read = read_so partial [] taken (omega arith) source_after written_after sink_after true writes;
    listing = listing_so partial [] taken (omega arith) source_after written_after sink_after true writes;
    ends = (refl, at, still ∙ source_counts, written_so partial [] taken (omega arith) source_after written_after sink_after true writes);
  }
  ends_okay partial source_after written_after sink_after false taken at still writes = record {
    bytes = reading.bytes;
    extra = [];
    text = reading.text ++ (count_text (codes "junk") (opened now so_many) ++ count_text (codes "rest") (length now.held));
    read = read_so partial [] taken (omega arith) source_after written_after sink_after false writes;
    listing = listing_so partial [] taken (omega arith) source_after written_after sink_after false writes;
    ends = (refl, still ∙ source_counts, written_so partial [] taken (omega arith) source_after written_after sink_after false writes);
  }
