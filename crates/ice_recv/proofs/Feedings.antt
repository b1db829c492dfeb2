-- How a feed goes on, byte after byte.
use Rattle.std.proofs.Common.{◌≡◌, ℕ, ◌+◌, ◌*◌, ◌<◌, ◌≤◌, ◌^◌, Bool, true, false, ◌⊎◌, inl, inr, List, [], ◌∷◌, ◌++◌, length, take, refl, sym, subst, ap, ◌∙◌, append-nil, append_assoc, length-append, length-take, arith}
use Rattle.std.proofs.lemmas.Bool.{cases_lt}
use Rattle.std.proofs.lemmas.List.{nil_from_length}
use Rattle.ice_recv.specs.Received.{Received}
use Rattle.ice_recv.specs.Receiving.{Waits, Tells, HasFrame, Drops, frame_limit, feed_limit, risen}
use Rattle.ice_recv.specs.Fronts.{Settles}
use Rattle.ice_recv.proofs.Settlings.{settled_of, Drops-none, Drops-more, Drops-no_frame, Drops-risen, Drops-size}

-- so many bytes are taken; no fewer of them make a frame whole, and it is told whether these do
pub record IsFed (before : Received) (bytes : List ℕ) (taken : ℕ) (waiting : Bool) (after : Received) : Type 0 where
  pub drops : Drops (before.held ++ take taken bytes) before.dropped after
  pub tells : Tells waiting after.held
  pub first : (n : ℕ) → n < taken → HasFrame (before.held ++ take n bytes) → ⊥
  pub start : taken ≡ 0 → after ≡ before

pub IsFed-start : (before : Received) (bytes : List ℕ) (waiting : Bool) → Tells waiting before.held → before.dropped < 2 ^ 64
    → IsFed before bytes 0 waiting before
IsFed-start before bytes waiting t h = record {
  drops = Drops-none before (settled_of waiting before.held t) h;
  tells = t;
  first = λ n less f. omega (arith, less);
  start = λ e. refl;
}

-- so many bytes were dropped, and the others are held
pub IsFed-size : (before : Received) (bytes : List ℕ) (taken : ℕ) (waiting : Bool) (after : Received) → (f : IsFed before bytes taken waiting after)
    → taken ≤ length bytes → length f.drops.items + length after.held ≡ length before.held + taken
IsFed-size before bytes taken waiting after f h =
    omega (
      arith,
      Drops-size (before.held ++ take taken bytes) before.dropped after f.drops,
      length-append before.held (take taken bytes),
      length-take taken bytes,
      h,
    )

-- the looks, by how much the count of dropped bytes rose
pub IsFed-looks : (before : Received) (bytes : List ℕ) (taken : ℕ) (waiting : Bool) (after : Received) (looks looked : ℕ)
    → (f : IsFed before bytes taken waiting after) → length before.held ≤ frame_limit → before.dropped < 2 ^ 64 → taken ≤ length bytes
    → length bytes ≤ feed_limit → looked ≤ looks + taken + frame_limit * length f.drops.items
    → looked ≤ looks + taken + frame_limit * risen before.dropped after.dropped
IsFed-looks before bytes taken waiting after looks looked f fits h within most cost =
    let few : length (before.held ++ take taken bytes) < 2 ^ 64 =
    omega (arith, fits, within, most, length-append before.held (take taken bytes), length-take taken bytes) in
    omega (arith, cost, Drops-risen (before.held ++ take taken bytes) before.dropped after f.drops h few)

no_sum : (n : ℕ) → n + 1 ≡ 0 → ⊥
no_sum n e = omega (arith, e)

-- one byte more
pub IsFed-more : (before middle after : Received) (bytes : List ℕ) (taken byte : ℕ) (waiting : Bool) → IsFed before bytes taken false middle
    → take (taken + 1) bytes ≡ take taken bytes ++ byte ∷ [] → Settles (middle.held ++ byte ∷ []) after middle.dropped waiting
    → IsFed before bytes (taken + 1) waiting after
IsFed-more before middle after bytes taken byte waiting f e s =
    let P : List ℕ → Type 0 = λ t. Drops t before.dropped after in
    record {
      drops = subst P (append_assoc before.held (take taken bytes) (byte ∷ []) ∙ ap (λ (t : List ℕ). before.held ++ t) (sym e))
          (Drops-more (before.held ++ take taken bytes) (byte ∷ []) before.dropped middle after f.drops s.drops);
      tells = s.tells;
      first = λ n less has. elim (cases_lt n taken) [
        | inl earlier ↦ f.first n earlier has
        | inr later ↦ (let same : n ≡ taken = omega (arith, less, later) in
            let Q : ℕ → Type 0 = λ k. HasFrame (before.held ++ take k bytes) in
            Drops-no_frame (before.held ++ take taken bytes) before.dropped middle f.drops f.tells (subst Q same has))
      ];
      start = λ e. absurd (no_sum taken e);
    }

-- a frame that waits is one of the cut
pub HasFrame-waits : (held : List ℕ) → Waits held → HasFrame (held ++ [])
HasFrame-waits held w = record {
  items = [];
  behind = held;
  cuts = append-nil held;
  only = tt;
  waits = w;
}

-- where no byte was taken, a frame waited or there was none
pub taken_none : (before after : Received) (bytes : List ℕ) (taken : ℕ) (waiting : Bool) → IsFed before bytes taken waiting after
    → (taken ≡ 0 → length bytes ≤ 0) ⊎ (waiting ≡ true) → taken ≡ 0 → Waits before.held ⊎ (bytes ≡ [])
taken_none before after bytes taken waiting f (inl h) e = (let short = h e in inr (nil_from_length bytes (omega (arith, short))))
taken_none before after bytes taken true f (inr h) e =
    let P : Received → Type 0 = λ r. Waits r.held in inl (subst P (f.start e) f.tells)
taken_none before after bytes taken false f (inr h) e = cc

pub none_taken : (before after : Received) (bytes : List ℕ) (taken : ℕ) (waiting : Bool) → IsFed before bytes taken waiting after
    → taken ≤ length bytes → Waits before.held ⊎ (bytes ≡ []) → taken ≡ 0
none_taken before after bytes taken waiting f h (inl w) =
    elim (cases_lt 0 taken) [
      | inl some ↦ absurd (f.first 0 some (HasFrame-waits before.held w))
      | inr none ↦ omega (arith, none)
    ]
none_taken before after bytes taken waiting f h (inr e) = omega (arith, h, ap length e)
