-- What is listed, piece by piece: junk, a frame, one stretch behind another; and the listing that begins so.
use Rattle.std.proofs.Common.{◌≡◌, ℕ, suc, ◌+◌, List, [], ◌∷◌, ◌++◌, length, refl, sym, ap, ◌∙◌, arith}
use Rattle.std.proofs.Common.{append_assoc, append-nil}
use Rattle.std.specs.Prelude.{codes}
use Rattle.line_spec.specs.Frames.{Frame, Begins, IsPartial, IsBytes}
use Rattle.line_spec.specs.Cut.{Item, whole, junk, Cuts}
use Rattle.line_spec.proofs.Cuts.{Cuts-append, Cuts-more, Cuts-whole, Cuts-bytes, has_cut}
use Rattle.ice_recv.specs.Receiving.{OnlyJunk}
use Rattle.shell_spec.specs.Listing.{IsListing, listed, count_text, frame_text}
use Rattle.frame_listing.specs.Steps.{Lists}

-- nothing
pub Lists-none : (run : ℕ) (bytes : List ℕ) → Lists run bytes [] run bytes
Lists-none run bytes = record { items = []; cuts = refl; lines = λ others. refl }

-- junk makes the run longer
items_open : (run : ℕ) (items others : List Item) → OnlyJunk items → listed run (items ++ others) ≡ listed (run + length items) others
items_open run [] others only = ap (λ (n : ℕ). listed n others) (omega arith)
items_open run (whole frame ∷ items) others only = absurd only
items_open run (junk byte ∷ items) others only =
    items_open (suc run) items others only ∙ ap (λ (n : ℕ). listed n others) (omega arith)

pub Lists-junk : (run : ℕ) (bytes behind : List ℕ) (items : List Item) → Cuts bytes items behind → OnlyJunk items →
    Lists run bytes [] (run + length items) behind
Lists-junk run bytes behind items cuts only =
    record { items = items; cuts = cuts; lines = λ others. items_open run items others only }

-- a frame ends it
pub Lists-frame : (run : ℕ) (bytes behind : List ℕ) (frame : Frame) → Begins frame bytes behind →
    Lists run bytes (count_text (codes "junk") run ++ frame_text frame) 0 behind
Lists-frame run bytes behind frame begins = record {
  items = whole frame ∷ [];
  cuts = Cuts-whole bytes behind frame begins;
  lines = λ others. refl;
}

-- one stretch behind another, of bytes that came later
pub Lists-more : (run middle last : ℕ) (bytes more between behind text texts : List ℕ) → Lists run bytes text middle between →
    Lists middle (between ++ more) texts last behind → Lists run (bytes ++ more) (text ++ texts) last behind
Lists-more run middle last bytes more between behind text texts a b = record {
  items = a.items ++ b.items;
  cuts = Cuts-append (bytes ++ more) (between ++ more) behind a.items b.items (Cuts-more bytes more between a.items a.cuts) b.cuts;
  lines = λ others.
      ap (listed run) (append_assoc a.items b.items others) ∙ a.lines (b.items ++ others)
      ∙ ap (λ (t : List ℕ). text ++ t) (b.lines others) ∙ sym (append_assoc text texts (listed last others));
}

-- and where none came
pub Lists-then : (run middle last : ℕ) (bytes between behind text texts : List ℕ) → Lists run bytes text middle between →
    Lists middle between texts last behind → Lists run bytes (text ++ texts) last behind
Lists-then run middle last bytes between behind text texts a b = record {
  items = a.items ++ b.items;
  cuts = Cuts-append bytes between behind a.items b.items a.cuts b.cuts;
  lines = λ others.
      ap (listed run) (append_assoc a.items b.items others) ∙ a.lines (b.items ++ others)
      ∙ ap (λ (t : List ℕ). text ++ t) (b.lines others) ∙ sym (append_assoc text texts (listed last others));
}

-- with the last lines it is the listing
pub whole_listing : (run : ℕ) (bytes text rest : List ℕ) → Lists 0 bytes text run rest → IsPartial rest →
    IsListing bytes (text ++ (count_text (codes "junk") run ++ count_text (codes "rest") (length rest)))
whole_listing run bytes text rest l partial = record {
  items = l.items;
  rest = rest;
  cut = record { cuts = l.cuts; partial = partial };
  is = sym (append_assoc text (count_text (codes "junk") run) (count_text (codes "rest") (length rest))
      ) ∙ ap (λ (t : List ℕ). t ++ count_text (codes "rest") (length rest))
      (sym (ap (listed 0) (sym (append-nil l.items)) ∙ l.lines []));
}

-- a listing begins with these lines, however the bytes behind them are cut
pub begun_listing : (run : ℕ) (bytes text behind : List ℕ) → Lists 0 bytes text run behind → IsBytes bytes →
    (more : List ℕ) × IsListing bytes (text ++ more)
begun_listing run bytes text behind l valid =
    let later = has_cut behind (Cuts-bytes bytes behind l.items l.cuts valid) in
    let last : List ℕ = count_text (codes "rest") (length later.1) in (
      listed run later.0 ++ last,
      record {
        items = l.items ++ later.0;
        rest = later.1;
        cut = record { cuts = Cuts-append bytes behind later.1 l.items later.0 l.cuts later.2.cuts; partial = later.2.partial };
        is = sym (append_assoc text (listed run later.0) last) ∙ ap (λ (t : List ℕ). t ++ last) (sym (l.lines later.0));
      },
    )
