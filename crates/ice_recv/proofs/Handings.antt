-- The frames handed out call after call are those of the cut of all bytes taken.
use Rattle.std.proofs.Common.{◌≡◌, ℕ, ◌+◌, ◌<◌, ◌^◌, List, [], ◌∷◌, ◌++◌, length, get_or, drop, refl, sym, subst, ap, ◌∙◌, append-nil, append_assoc, arith}
use Rattle.line_spec.specs.Frames.{Frame, IsPartial}
use Rattle.line_spec.specs.Cut.{Item, whole, junk, Cuts}
use Rattle.line_spec.proofs.FrameBytes.{same_begins}
use Rattle.line_spec.proofs.Cuts.{Cuts-append, Cuts-more, Begins-more, no_junk_partial, no_junk_whole, no_partial_whole}
use Rattle.ice_recv.specs.Received.{Received}
use Rattle.ice_recv.specs.Receiving.{OnlyJunk, Drops, counted}
use Rattle.ice_recv.specs.Handing.{Call, feeds, hands, Takes, Leads, taken_by, handed_by, frames_in, junk_in, FollowsCut}

-- a cut begins with the items that are cut off already, and goes on with the cut of what is behind them
goes_on : (x y z : List ℕ) (items all : List Item) → Cuts x items y → Cuts x all z → IsPartial z
    → (others : List Item) × (all ≡ items ++ others) × Cuts y others z
goes_on x y z [] all c d p = let P : List ℕ → Type 0 = λ t. Cuts t all z in (all, refl, subst P c d)
goes_on x y z (whole frame ∷ items) [] c d p =
    let P : List ℕ → Type 0 = λ t. IsPartial t in absurd (no_partial_whole x c.0 frame (subst P (sym d) p) c.1)
goes_on x y z (junk byte ∷ items) [] c d p =
    let P : List ℕ → Type 0 = λ t. IsPartial t in absurd (no_junk_partial x c.2 (subst P (sym d) p))
goes_on x y z (whole frame ∷ items) (junk byte ∷ all) c d p = absurd (no_junk_whole x c.0 frame d.2 c.1)
goes_on x y z (junk byte ∷ items) (whole frame ∷ all) c d p = absurd (no_junk_whole x d.0 frame c.2 d.1)
goes_on x y z (whole frame ∷ items) (whole other ∷ all) c d p =
    let same = same_begins x c.0 d.0 frame other c.1 d.1 in
    let P : List ℕ → Type 0 = λ t. Cuts t all z in
    let later = goes_on c.0 y z items all c.2 (subst P (sym same.1) d.2) p in
    (later.0, ap (λ (f : Frame). whole f ∷ all) (sym same.0) ∙ ap (λ (t : List Item). whole frame ∷ t) later.1, later.2)
goes_on x y z (junk byte ∷ items) (junk other ∷ all) c d p =
    let e : byte ∷ c.0 ≡ other ∷ d.0 = sym c.1 ∙ d.1 in
    let bytes : byte ≡ other = ap (λ (t : List ℕ). get_or t 0 0) e in
    let rests : c.0 ≡ d.0 = ap (λ (t : List ℕ). drop 1 t) e in
    let P : List ℕ → Type 0 = λ t. Cuts t all z in
    let later = goes_on c.0 y z items all c.3 (subst P (sym rests) d.3) p in
    (later.0, ap (λ (k : ℕ). junk k ∷ all) (sym bytes) ∙ ap (λ (t : List Item). junk byte ∷ t) later.1, later.2)

frames_in-junk : (items others : List Item) → OnlyJunk items → frames_in (items ++ others) ≡ frames_in others
frames_in-junk [] others o = refl
frames_in-junk (whole frame ∷ items) others o = absurd o
frames_in-junk (junk byte ∷ items) others o = frames_in-junk items others o

junk_in-junk : (items others : List Item) → OnlyJunk items → junk_in (items ++ others) ≡ length items + junk_in others
junk_in-junk [] others o = omega arith
junk_in-junk (whole frame ∷ items) others o = absurd o
junk_in-junk (junk byte ∷ items) others o = omega (arith, junk_in-junk items others o)

-- the items of all calls, without what they say of any cut
record Followed (before : Received) (calls : List Call) (after : Received) : Type 0 where
  items : List Item
  cuts : Cuts (before.held ++ taken_by calls) items after.held
  frames : handed_by calls ≡ frames_in items
  count : after.dropped ≡ counted before.dropped (junk_in items)

counted_on : (dropped middle after more last : ℕ) → middle ≡ counted dropped more → after ≡ counted middle last → after ≡ counted dropped (more + last)
counted_on dropped middle after more last h k = omega (arith, h, k)

counted_small : (dropped middle more : ℕ) → middle ≡ counted dropped more → middle < 2 ^ 64
counted_small dropped middle more h = omega (arith, h)

-- the junk that a call drops, and then the items of the later calls
cuts_on : (bytes more : List ℕ) (dropped : ℕ) (middle after : Received) (items : List Item) → (d : Drops bytes dropped middle) → Cuts (middle.held ++ more) items after.held
    → Cuts (bytes ++ more) (d.items ++ items) after.held
cuts_on bytes more dropped middle after items d c =
    Cuts-append (bytes ++ more) (middle.held ++ more) after.held d.items items (Cuts-more bytes more middle.held d.items d.cuts) c

Followed-feeds : (before middle after : Received) (bytes : List ℕ) (calls : List Call) → Drops (before.held ++ bytes) before.dropped middle → Followed middle calls after
    → Followed before (feeds bytes ∷ calls) after
Followed-feeds before middle after bytes calls d f =
    let P : List ℕ → Type 0 = λ t. Cuts t (d.items ++ f.items) after.held in
    record {
      items = d.items ++ f.items;
      cuts = subst P (append_assoc before.held bytes (taken_by calls)) (cuts_on (before.held ++ bytes) (taken_by calls) before.dropped middle after f.items d f.cuts);
      frames = f.frames ∙ sym (frames_in-junk d.items f.items d.only);
      count = counted_on before.dropped middle.dropped after.dropped (length d.items) (junk_in f.items) d.count f.count
          ∙ ap (λ (n : ℕ). counted before.dropped n) (sym (junk_in-junk d.items f.items d.only));
    }

Followed-hands : (before middle after : Received) (frame : Frame) (calls : List Call) → Takes before frame middle → Followed middle calls after
    → Followed before (hands frame ∷ calls) after
Followed-hands before middle after frame calls t f =
    let d = t.2 in
    record {
      items = whole frame ∷ d.items ++ f.items;
      cuts = (t.0 ++ taken_by calls, Begins-more before.held t.0 (taken_by calls) frame t.1, cuts_on t.0 (taken_by calls) before.dropped middle after f.items d f.cuts);
      frames = ap (λ (s : List Frame). frame ∷ s) (f.frames ∙ sym (frames_in-junk d.items f.items d.only));
      count = counted_on before.dropped middle.dropped after.dropped (length d.items) (junk_in f.items) d.count f.count
          ∙ ap (λ (n : ℕ). counted before.dropped n) (sym (junk_in-junk d.items f.items d.only));
    }

followed : (before after : Received) (calls : List Call) → before.dropped < 2 ^ 64 → Leads before calls after → Followed before calls after
followed before after [] h l = record {
  items = [];
  cuts = append-nil before.held ∙ ap (λ (r : Received). r.held) l;
  frames = refl;
  count = sym (ap (λ (r : Received). r.dropped) l) ∙ omega (arith, h);
}
followed before after (feeds bytes ∷ calls) h l =
    Followed-feeds before l.0 after bytes calls l.1 (followed l.0 after calls (counted_small before.dropped l.0.dropped (length l.1.items) l.1.count) l.2)
followed before after (hands frame ∷ calls) h l =
    let d = l.1.2 in
    Followed-hands before l.0 after frame calls l.1 (followed l.0 after calls (counted_small before.dropped l.0.dropped (length d.items) d.count) l.2)

pub follows_cut : (before after : Received) (calls : List Call) → before.dropped < 2 ^ 64 → Leads before calls after → FollowsCut before calls after
follows_cut before after calls h l =
    let f = followed before after calls h l in
    record {
      items = f.items;
      cuts = f.cuts;
      frames = f.frames;
      count = f.count;
      goes_on = λ all rest cut.
          let later = goes_on (before.held ++ taken_by calls) after.held rest f.items all f.cuts cut.cuts cut.partial in
          (later.0, later.1, record { cuts = later.2; partial = cut.partial });
    }
