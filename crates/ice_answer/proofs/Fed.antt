-- A receiver that is fed again and again until a frame waits.
use Rattle.std.proofs.Common.{◌≡◌, ℕ, ◌+◌, ◌-◌, ◌<◌, ◌≤◌, inl, inr, ◌⊎◌, List, [], ◌∷◌, ◌++◌, length, take, drop, refl}
use Rattle.std.proofs.Common.{sym, ap, ◌∙◌, subst, arith, append_assoc, length-append, length-drop}
use Rattle.std.proofs.Math.Seq.{take-add}
use Rattle.std.proofs.lemmas.Bool.{cases_lt}
use Rattle.line_spec.specs.Frames.{IsPartial, IsJunk}
use Rattle.line_spec.specs.Cut.{Item, whole, junk, Cuts}
use Rattle.line_spec.proofs.Cuts.{no_junk_whole, no_partial_whole, Cuts-more, Cuts-append}
use Rattle.ice_recv.specs.Received.{Received}
use Rattle.ice_recv.specs.Receiving.{Waits, OnlyJunk, HasFrame, Drops}

-- so many bytes are fed, and no fewer of them make a frame whole
pub record AreFed (before : Received) (bytes : List ℕ) (used : ℕ) (after : Received) : Type 0 where
  pub most : used ≤ length bytes
  pub drops : Drops (before.held ++ take used bytes) before.dropped after
  pub first : (n : ℕ) → n < used → HasFrame (before.held ++ take n bytes) → ⊥

-- what one feed does with the bytes that are left
pub record FeedsOn (before : Received) (bytes : List ℕ) (used : ℕ) (after : Received) : Type 0 where
  pub most : used ≤ length bytes
  pub none : used ≡ 0 → Waits before.held ⊎ (bytes ≡ [])
  pub drops : Drops (before.held ++ take used bytes) before.dropped after
  pub first : (n : ℕ) → n < used → HasFrame (before.held ++ take n bytes) → ⊥

-- first some junk and then more
only_junk-append : (items others : List Item) → OnlyJunk items → OnlyJunk others → OnlyJunk (items ++ others)
only_junk-append [] others o q = q
only_junk-append (whole frame ∷ items) others o q = absurd o
only_junk-append (junk byte ∷ items) others o q = only_junk-append items others o q

drops-more : (bytes more : List ℕ) (dropped : ℕ) (middle after : Received) → Drops bytes dropped middle →
    Drops (middle.held ++ more) middle.dropped after → Drops (bytes ++ more) dropped after
drops-more bytes more dropped middle after d e = record {
  items = d.items ++ e.items;
  cuts = Cuts-append (bytes ++ more) (middle.held ++ more) after.held d.items e.items (Cuts-more bytes more middle.held d.items d.cuts)
      e.cuts;
  only = only_junk-append d.items e.items d.only e.only;
  settled = e.settled;
  count = omega (arith, d.count, e.count, length-append d.items e.items);
}

-- a frame of bytes that begin with junk is a frame of what is behind the junk
past_junk : (x more y z : List ℕ) (items others : List Item) → Cuts x items y → OnlyJunk items → Cuts (x ++ more) others z →
    OnlyJunk others →
    Waits z → HasFrame (y ++ more)
past_junk x more y z (whole frame ∷ items) others c o d q w = absurd o
past_junk x more y z (junk byte ∷ items) (whole frame ∷ others) c o d q w = absurd q
past_junk x more y z [] others c o d q w = record {
  items = others;
  behind = z;
  cuts = subst (λ (t : List ℕ). Cuts (t ++ more) others z) c d;
  only = q;
  waits = w;
}
past_junk x more y z (junk byte ∷ items) [] c o d q w =
    let begins = Cuts-more x more c.0 (junk byte ∷ []) (c.0, c.1, c.2, refl) in
    absurd (no_junk_whole z w.1 w.0 (subst IsJunk d begins.2) w.2)
past_junk x more y z (junk byte ∷ items) (junk other ∷ others) c o d q w =
    let rests : d.0 ≡ c.0 ++ more = ap (λ (t : List ℕ). drop 1 t) (sym d.1 ∙ ap (λ (t : List ℕ). t ++ more) c.1) in
    past_junk c.0 more y z items others c.3 o (subst (λ (t : List ℕ). Cuts t others z) rests d.3) q w

pub has_frame-behind : (bytes more : List ℕ) (dropped : ℕ) (after : Received) → Drops bytes dropped after → HasFrame (bytes ++ more) →
    HasFrame (after.held ++ more)
has_frame-behind bytes more dropped after d f = past_junk bytes more after.held f.behind d.items f.items d.cuts d.only f.cuts f.only f.waits

-- one feed more
module _ (before middle after : Received) (bytes : List ℕ) (used more : ℕ) (f : AreFed before bytes used middle)
    (g : FeedsOn middle (drop used bytes) more after) where
  joined : (n : ℕ) → (before.held ++ take used bytes) ++ take n (drop used bytes) ≡ before.held ++ take (used + n) bytes
  joined n = append_assoc before.held (take used bytes) (take n (drop used bytes)) ∙
      ap (λ (t : List ℕ). before.held ++ t) (sym (take-add used n bytes))

  no_sooner : (n : ℕ) → n < used + more → HasFrame (before.held ++ take n bytes) → ⊥
  no_sooner n less has = elim (cases_lt n used) [
    | inl earlier ↦ f.first n earlier has
    | inr later ↦ (let rest : n ≡ used + (n - used) = omega (arith, later) in
        let has_so = subst (λ (k : ℕ). HasFrame (before.held ++ take k bytes)) rest has in
        let behind = has_frame-behind (before.held ++ take used bytes) (take (n - used) (drop used bytes)) before.dropped middle f.drops
        (subst HasFrame (sym (joined (n - used))) has_so) in
        g.first (n - used) (omega (arith, less, later)) behind)
  ]

  pub fed-more : AreFed before bytes (used + more) after
  fed-more = record {
    most = omega (arith, f.most, g.most, length-drop used bytes);
    drops = subst (λ (t : List ℕ). Drops t before.dropped after) (joined more)
        (drops-more (before.held ++ take used bytes) (take more (drop used bytes)) before.dropped middle after f.drops g.drops);
    first = no_sooner;
  }

-- a feed takes some bytes where less than a frame is held, and some are left
pub takes_some : (held bytes : List ℕ) (used : ℕ) → IsPartial held → 0 < length bytes → (used ≡ 0 → Waits held ⊎ (bytes ≡ [])) → 0 < used
takes_some held bytes used p some none = elim (cases_lt 0 used) [
  | inl h ↦ h
  | inr h ↦ elim (none (omega (arith, h))) [
    | inl w ↦ absurd (no_partial_whole held w.1 w.0 p w.2)
    | inr e ↦ absurd (omega (arith, some, ap length e))
  ]
]
