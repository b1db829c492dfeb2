-- What a receiver is fed and hands out, and what is heard of it, is one take of the book.
use Rattle.std.proofs.Common.{◌≡◌, ℕ, suc, ◌<◌, inl, inr, Bool, true, false, List, [], ◌∷◌, ◌++◌, length, map, take}
use Rattle.std.proofs.Common.{refl, sym, ap, subst}
use Rattle.part_spec.specs.Chip.{Chip}
use Rattle.line_spec.specs.Frames.{Frame, Begins, IsJunk, IsPartial}
use Rattle.line_spec.specs.Cut.{Item, whole, junk, Cuts}
use Rattle.line_spec.specs.Hearing.{Heard, Hears}
use Rattle.line_spec.proofs.Cuts.{no_junk_whole, no_junk_partial, Cuts-append}
use Rattle.ice_recv.specs.Received.{Received}
use Rattle.ice_recv.specs.Receiving.{Waits, IsSettled, OnlyJunk, HasFrame}
use Rattle.ice_recv.specs.Handing.{Takes}
use Rattle.debug_spec.specs.Debugger.{Debugger, dropping}
use Rattle.debug_spec.specs.Commands.{item}
use Rattle.debug_spec.specs.Schedule.{Session}
use Rattle.debug_spec.specs.Take.{goes_on, FrameWaits, Leaves, TakesFrame, TakesNone}

-- the bytes of junk items
pub record JunkBytes (x y : List ℕ) (items : List Item) : Type 0 where
  pub bytes : List ℕ
  pub many : length bytes ≡ length items
  pub cuts : Cuts x (map junk bytes) y

pub junk_bytes : (x y : List ℕ) (items : List Item) → OnlyJunk items → Cuts x items y → JunkBytes x y items
junk_bytes x y [] only c = record { bytes = []; many = refl; cuts = c }
junk_bytes x y (whole frame ∷ items) only c = absurd only
junk_bytes x y (junk byte ∷ items) only c =
    let later = junk_bytes c.0 y items only c.3 in
    record { bytes = byte ∷ later.bytes; many = ap suc later.many; cuts = (c.0, c.1, c.2, later.cuts) }

-- and back
only_junk : (bytes : List ℕ) → OnlyJunk (map junk bytes)
only_junk [] = tt
only_junk (byte ∷ bytes) = only_junk bytes

waits_back : (x y : List ℕ) (a : List ℕ) (frame : Frame) → Cuts x (map junk a ++ whole frame ∷ []) y →
    (z : List ℕ) × Cuts x (map junk a) z × Begins frame z y
waits_back x y [] frame c = (x, refl, subst (λ (t : List ℕ). Begins frame x t) c.2 c.1)
waits_back x y (byte ∷ a) frame c = let r = waits_back c.0 y a frame c.3 in (r.0, (c.0, c.1, c.2, r.1), r.2)

pub has_frame : (x : List ℕ) → FrameWaits x → HasFrame x
has_frame x w =
    let r = waits_back x w.2 w.0 w.1 w.3 in
    record { items = map junk w.0; behind = r.0; cuts = r.1; only = only_junk w.0; waits = (w.1, w.2, r.2) }

settled_no_junk : (x : List ℕ) → IsSettled x → IsJunk x → ⊥
settled_no_junk x (inl w) j = no_junk_whole x w.1 w.0 j w.2
settled_no_junk x (inr p) j = no_junk_partial x j p

pub less_settled : (x : List ℕ) → IsSettled x → (Waits x → ⊥) → IsPartial x
less_settled x (inl w) none = absurd (none w)
less_settled x (inr p) none = p

-- the session behind what was heard: the receiver's bytes stay held while it goes on
abbrev pub behind_by : Bool → (held : List ℕ) → (count : ℕ) → Debugger → Session
behind_by true held count s = record { held = held; state = dropping count s }
behind_by false held count s = record { held = []; state = s }

module _ (part : Chip) (used : List ℕ) (before : Session) (fed after : Received) (frame : Frame) (heard : Heard) (items : List Item)
    (only : OnlyJunk items) (cuts : Cuts (before.held ++ used) items fed.held) (first : (k : ℕ) → k < length used → HasFrame (before.held ++ take k used) → ⊥)
    (t : Takes fed frame after) (hears : Hears (whole frame) heard) where
  ahead_of : JunkBytes (before.held ++ used) fed.held items
  ahead_of = junk_bytes (before.held ++ used) fed.held items only cuts

  behind_it : JunkBytes t.0 after.held t.2.items
  behind_it = junk_bytes t.0 after.held t.2.items t.2.only t.2.cuts

  leaves_by : (b : Bool) (s : Debugger) → Leaves b t.0 s (behind_by b after.held (length t.2.items) s)
  leaves_by true s =
      (behind_it.bytes, behind_it.cuts, settled_no_junk after.held t.2.settled, ap (λ (n : ℕ). dropping n s) (sym behind_it.many))
  leaves_by false s = refl

  -- it is a take of the debugger that plants nothing
  pub frame_is_taken : let s = item false part heard (dropping (length items) before.state) in
      TakesFrame false part used before (behind_by (goes_on s.mode) after.held (length t.2.items) s)
  frame_is_taken =
      let s = item false part heard (dropping (length items) before.state) in
      let end = behind_by (goes_on s.mode) after.held (length t.2.items) s in record {
        ahead = ahead_of.bytes;
        frame = frame;
        behind = t.0;
        heard = heard;
        cuts = Cuts-append (before.held ++ used) fed.held t.0 (map junk ahead_of.bytes) (whole frame ∷ []) ahead_of.cuts (t.0, t.1, refl);
        no_sooner = λ k below w. first k below (has_frame (before.held ++ take k used) w);
        hears = hears;
        leaves = subst (λ (n : ℕ). let s = item false part heard (dropping n before.state) in Leaves (goes_on s.mode) t.0 s end)
            (sym ahead_of.many) (leaves_by (goes_on s.mode) s);
      }

pub none_is_taken : (used : List ℕ) (before : Session) (fed : Received) (items : List Item) → OnlyJunk items → Cuts (before.held ++ used) items fed.held →
    IsPartial fed.held → TakesNone used [] before (record { held = fed.held; state = dropping (length items) before.state })
none_is_taken used before fed items only cuts partial =
    let ahead = junk_bytes (before.held ++ used) fed.held items only cuts in
    record {
      all = refl;
      ahead = ahead.bytes;
      cuts = ahead.cuts;
      partial = partial;
      state = ap (λ (n : ℕ). dropping n before.state) (sym ahead.many);
    }
