-- Junk is dropped byte by byte, and no frame is ahead of bytes that are less than one.
use Rattle.std.proofs.Common.{◌≡◌, ℕ, ◌+◌, ◌<◌, ◌≤◌, ◌^◌, Bool, true, false, Option, inl, inr, List, [], ◌∷◌, ◌++◌, length, drop, refl, sym, subst, subst₂, ap, ◌∙◌, append-nil, length-append, arith}
use Rattle.std.specs.Option.{is_some}
use Rattle.line_spec.specs.Frames.{Frame, Begins, IsPartial, IsJunk}
use Rattle.line_spec.specs.Cut.{Item, whole, junk, Cuts}
use Rattle.line_spec.proofs.Cuts.{Cuts-append, Cuts-more, Cuts-shorter, Cuts-junk, IsPartial-nil, no_junk_partial, no_junk_whole, no_partial_whole}
use Rattle.ice_recv.specs.Received.{Received}
use Rattle.ice_recv.specs.Receiving.{IsSettled, Tells, OnlyJunk, HasFrame, Drops, counted, risen}
use Rattle.ice_frame.specs.Scans.{Kept}
use Rattle.ice_recv.specs.Fronts.{JunkAhead, TakesByte, TellsFront}
use Rattle.ice_recv.proofs.Founds.{stands_settled, stands_tell}

pub OnlyJunk-append : (items others : List Item) → OnlyJunk items → OnlyJunk others → OnlyJunk (items ++ others)
OnlyJunk-append [] others o q = q
OnlyJunk-append (whole frame ∷ items) others o q = absurd o
OnlyJunk-append (junk byte ∷ items) others o q = OnlyJunk-append items others o q

pub JunkAhead-start : (state : Received) → state.dropped < 2 ^ 64 → JunkAhead state.held state.dropped state
JunkAhead-start state h = record {
  items = [];
  cuts = refl;
  only = tt;
  count = omega (arith, h);
  size = omega arith;
}

-- junk has a first byte
first_junk : (bytes : List ℕ) → IsJunk bytes → (byte : ℕ) × Cuts bytes (junk byte ∷ []) (drop 1 bytes) × (1 + length (drop 1 bytes) ≡ length bytes)
first_junk [] j = absurd (no_junk_partial [] j IsPartial-nil)
first_junk (byte ∷ bytes) j = (byte, Cuts-junk byte bytes j, omega arith)

pub junk_shorter : (bytes : List ℕ) → IsJunk bytes → 1 + length (drop 1 bytes) ≡ length bytes
junk_shorter bytes j = (first_junk bytes j).2

pub JunkAhead-more : (bytes : List ℕ) (dropped : ℕ) (middle after : Received) → JunkAhead bytes dropped middle → IsJunk middle.held
    → after.held ≡ drop 1 middle.held → after.dropped ≡ counted middle.dropped 1 → JunkAhead bytes dropped after
JunkAhead-more bytes dropped middle after p j held count =
    let first = first_junk middle.held j in
    let P : List ℕ → Type 0 = λ behind. Cuts bytes (p.items ++ junk first.0 ∷ []) behind in
    let items = length-append p.items (junk first.0 ∷ []) in
    record {
      items = p.items ++ junk first.0 ∷ [];
      cuts = subst P (sym held) (Cuts-append bytes middle.held (drop 1 middle.held) p.items (junk first.0 ∷ []) p.cuts first.1);
      only = OnlyJunk-append p.items (junk first.0 ∷ []) p.only tt;
      count = omega (arith, p.count, count, items);
      size = omega (arith, p.size, first.2, items, ap length held);
    }

-- what is told is settled
pub settled_of : (waits : Bool) (held : List ℕ) → Tells waits held → IsSettled held
settled_of true held t = inl t
settled_of false held t = inr t

pub Drops-of : (bytes : List ℕ) (dropped : ℕ) (after : Received) → JunkAhead bytes dropped after → IsSettled after.held → Drops bytes dropped after
Drops-of bytes dropped after p s = record { items = p.items; cuts = p.cuts; only = p.only; settled = s; count = p.count }

-- first some junk and then more
pub JunkAhead-join : (bytes : List ℕ) (dropped : ℕ) (middle after : Received) → JunkAhead bytes dropped middle
    → JunkAhead middle.held middle.dropped after → JunkAhead bytes dropped after
JunkAhead-join bytes dropped middle after p q =
    let items = length-append p.items q.items in
    record {
      items = p.items ++ q.items;
      cuts = Cuts-append bytes middle.held after.held p.items q.items p.cuts q.cuts;
      only = OnlyJunk-append p.items q.items p.only q.only;
      count = omega (arith, p.count, q.count, items);
      size = omega (arith, p.size, q.size, items);
    }

-- a byte that went on, or ended a frame
pub TakesByte-kept : (bytes : List ℕ) (dropped looks : ℕ) (after : Received) (looked : ℕ) (waits : Bool) → bytes ≡ after.held
    → after.dropped ≡ dropped → dropped < 2 ^ 64 → Tells waits after.held → looked ≡ looks + 1 → TakesByte bytes dropped looks after looked waits
TakesByte-kept bytes dropped looks after looked waits e d h t l = record {
  settles = record {
    drops = record { items = []; cuts = e; only = tt; settled = settled_of waits after.held t; count = omega (arith, d, h) };
    tells = t;
  };
  cost = omega (arith, l);
}

-- a byte with which no frame begins, where none was held
pub TakesByte-first : (held : List ℕ) (b dropped looks : ℕ) (after : Received) → length held ≡ 0 → IsJunk (b ∷ []) → IsPartial held
    → dropped < 2 ^ 64 → after.held ≡ held → after.dropped ≡ counted dropped 1 → TakesByte (held ++ b ∷ []) dropped looks after looks false
TakesByte-first [] b dropped looks after e j p h held count =
    let P : List ℕ → Type 0 = λ t. Cuts (b ∷ []) (junk b ∷ []) t in
    let Q : List ℕ → Type 0 = λ t. IsPartial t in
    record {
      settles = record {
        drops = record {
          items = junk b ∷ [];
          cuts = subst P (sym held) (Cuts-junk b [] j);
          only = tt;
          settled = inr (subst Q (sym held) p);
          count = omega (arith, count);
        };
        tells = subst Q (sym held) p;
      };
      cost = omega arith;
    }
TakesByte-first (x ∷ held) b dropped looks after e j p h held' count = absurd (omega (arith, e))

-- a byte that made junk of what is held
pub TakesByte-junk : (bytes : List ℕ) (dropped looks : ℕ) (middle after : Received) (first looked : ℕ) (scan : Kept) (found : Option ℕ) (waits : Bool)
    → IsJunk bytes → dropped < 2 ^ 64 → middle.held ≡ drop 1 bytes → middle.dropped ≡ counted dropped 1 → first ≡ looks + 1
    → TellsFront middle.held middle.dropped first after looked scan found → waits ≡ is_some found → TakesByte bytes dropped looks after looked waits
TakesByte-junk bytes dropped looks middle after first looked scan found waits j h held count l f w =
    let start : Received = record { held = bytes; dropped = dropped } in
    let one = JunkAhead-more bytes dropped start middle (JunkAhead-start start h) j held count in
    let all = JunkAhead-join bytes dropped middle after one f.ahead in
    let P : Bool → Type 0 = λ b. Tells b after.held in
    record {
      settles = record {
        drops = record {
          items = all.items;
          cuts = all.cuts;
          only = all.only;
          settled = stands_settled found scan after.held f.stands;
          count = all.count;
        };
        tells = subst P (sym w) (stands_tell found scan after.held f.stands);
      };
      cost = omega (arith, l, f.cost, f.ahead.size, all.size, junk_shorter bytes j, ap length held);
    }

pub TakesByte-along : (bytes now : List ℕ) (dropped before looks : ℕ) (after : Received) (looked : ℕ) (waits : Bool) → now ≡ bytes → before ≡ dropped
    → TakesByte now before looks after looked waits → TakesByte bytes dropped looks after looked waits
TakesByte-along bytes now dropped before looks after looked waits e d t =
    let P : List ℕ → ℕ → Type 0 = λ x n. TakesByte x n looks after looked waits in subst₂ P e d t

-- junk alone takes as many items as bytes
only_size : (x y : List ℕ) (items : List Item) → Cuts x items y → OnlyJunk items → length items + length y ≡ length x
only_size x y [] c o = omega (arith, ap length c)
only_size x y (whole frame ∷ items) c o = absurd o
only_size x y (junk byte ∷ items) c o = omega (arith, ap length c.1, only_size c.0 y items c.3 o)

pub Drops-size : (bytes : List ℕ) (dropped : ℕ) (after : Received) → (d : Drops bytes dropped after) → length d.items + length after.held ≡ length bytes
Drops-size bytes dropped after d = only_size bytes after.held d.items d.cuts d.only

-- the count rose by the junk
pub Drops-risen : (bytes : List ℕ) (dropped : ℕ) (after : Received) → (d : Drops bytes dropped after) → dropped < 2 ^ 64 → length bytes < 2 ^ 64
    → risen dropped after.dropped ≡ length d.items
Drops-risen bytes dropped after d h k = omega (arith, d.count, Drops-size bytes dropped after d, h, k)

-- what is held is no longer than what it was cut from
pub Drops-shorter : (bytes : List ℕ) (dropped : ℕ) (after : Received) → Drops bytes dropped after → length after.held ≤ length bytes
Drops-shorter bytes dropped after d = omega (arith, Cuts-shorter bytes after.held d.items d.cuts)

-- first some bytes and then others
pub Drops-more : (bytes more : List ℕ) (dropped : ℕ) (middle after : Received) → Drops bytes dropped middle → Drops (middle.held ++ more) middle.dropped after
    → Drops (bytes ++ more) dropped after
Drops-more bytes more dropped middle after d e = record {
  items = d.items ++ e.items;
  cuts = Cuts-append (bytes ++ more) (middle.held ++ more) after.held d.items e.items (Cuts-more bytes more middle.held d.items d.cuts) e.cuts;
  only = OnlyJunk-append d.items e.items d.only e.only;
  settled = e.settled;
  count = omega (arith, d.count, e.count, length-append d.items e.items);
}

-- nothing more
pub Drops-none : (state : Received) → IsSettled state.held → state.dropped < 2 ^ 64 → Drops (state.held ++ []) state.dropped state
Drops-none state s h = record {
  items = [];
  cuts = append-nil state.held;
  only = tt;
  settled = s;
  count = omega (arith, h);
}

no_frame : (x y z : List ℕ) (items others : List Item) (frame : Frame) (after : List ℕ) → Cuts x items y → OnlyJunk items → IsPartial y
    → Cuts x others z → OnlyJunk others → Begins frame z after → ⊥
no_frame x y z (whole other ∷ items) others frame after c o p d q b = o
no_frame x y z [] (whole other ∷ others) frame after c o p d q b = q
no_frame x y z (junk byte ∷ items) (whole other ∷ others) frame after c o p d q b = q
no_frame x y z [] [] frame after c o p d q b =
    let P : List ℕ → Type 0 = λ t. IsPartial t in no_partial_whole z after frame (subst P (sym c ∙ d) p) b
no_frame x y z [] (junk byte ∷ others) frame after c o p d q b =
    let P : List ℕ → Type 0 = λ t. IsPartial t in no_junk_partial x d.2 (subst P (sym c) p)
no_frame x y z (junk byte ∷ items) [] frame after c o p d q b =
    let P : List ℕ → Type 0 = λ t. IsJunk t in no_junk_whole z after frame (subst P d c.2) b
no_frame x y z (junk byte ∷ items) (junk other ∷ others) frame after c o p d q b =
    let rests : c.0 ≡ d.0 = ap (λ (t : List ℕ). drop 1 t) (sym c.1 ∙ d.1) in
    let P : List ℕ → Type 0 = λ t. Cuts t others z in
    no_frame c.0 y z items others frame after c.3 o p (subst P (sym rests) d.3) q b

-- where less than a frame is held, the cut has no frame
pub Drops-no_frame : (bytes : List ℕ) (dropped : ℕ) (after : Received) → Drops bytes dropped after → IsPartial after.held → HasFrame bytes → ⊥
Drops-no_frame bytes dropped after d p f =
    no_frame bytes after.held f.behind d.items f.items f.waits.0 f.waits.1 d.cuts d.only p f.cuts f.only f.waits.2
