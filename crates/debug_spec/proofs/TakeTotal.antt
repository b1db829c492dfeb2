-- Each chunk of bytes can be taken.
use Rattle.std.proofs.Common.{◌≡◌, ℕ, zero, suc, ◌+◌, ◌<◌, ◌≤◌, ◌⊎◌, inl, inr, Bool, true, false, List, [], ◌∷◌, ◌++◌, length, map, take}
use Rattle.std.proofs.Common.{refl, sym, ◌∙◌, ap, subst, arith, append_assoc, append-nil, length-append}
use Rattle.std.proofs.lemmas.List.{take_at, take-append-le}
use Rattle.std.proofs.lemmas.Bool.{cases_lt, true≢false}
use Rattle.part_spec.specs.Chip.{Chip}
use Rattle.line_spec.specs.Frames.{Frame, IsBytes, IsPartial, IsJunk}
use Rattle.line_spec.specs.Cut.{Item, whole, junk, Cuts}
use Rattle.line_spec.proofs.Bytes.{IsBytes-left, IsBytes-right}
use Rattle.line_spec.proofs.Cuts.{no_junk_whole, no_junk_partial, has_cut, Cuts-bytes, Cuts-more, Cuts-shorter}
use Rattle.debug_spec.specs.Debugger.{Debugger, listens, dropping}
use Rattle.debug_spec.specs.Running.{launch_if_prepared}
use Rattle.debug_spec.specs.Commands.{item}
use Rattle.debug_spec.specs.Schedule.{Session}
use Rattle.debug_spec.specs.Take.{goes_on, FrameWaits, Leaves, TakesFrame, TakesNone, launched_then, AreTakes}
use Rattle.debug_spec.specs.TakeLaws.{EveryChunkIsTaken, EveryChunkEnds}
use Rattle.debug_spec.proofs.Sessions.{EitherBy}
use Rattle.debug_spec.proofs.Hearings.{each_item}
use Rattle.debug_spec.proofs.TakeLemmas.{none_waits}
use Rattle.debug_spec.proofs.TakeChunks.{launch_once, no_launch}

-- the junk at the front is dropped
abbrev Cleared : List ℕ → Type 0
Cleared x = (ahead : List ℕ) × (behind : List ℕ) × Cuts x (map junk ahead) behind × (IsJunk behind → ⊥)

cleared_by : (items : List Item) (x rest : List ℕ) → Cuts x items rest → IsPartial rest → Cleared x
cleared_by [] x rest c p = ([], x, refl, λ j. no_junk_partial x j (subst IsPartial (sym c) p))
cleared_by (whole frame ∷ items) x rest c p = ([], x, refl, λ j. no_junk_whole x c.0 frame j c.1)
cleared_by (junk byte ∷ items) x rest c p =
    let later = cleared_by items c.0 rest c.3 p in (byte ∷ later.0, later.1, (c.0, c.1, c.2, later.2), later.3)

-- a frame waits, or all is junk up to less than a frame
abbrev AllJunk : List ℕ → Type 0
AllJunk x = (ahead : List ℕ) × (behind : List ℕ) × Cuts x (map junk ahead) behind × IsPartial behind

looked_by : (items : List Item) (x rest : List ℕ) → Cuts x items rest → IsPartial rest → FrameWaits x ⊎ AllJunk x
looked_by [] x rest c p = inr ([], rest, c, p)
looked_by (whole frame ∷ items) x rest c p = inl ([], frame, c.0, (c.0, c.1, refl))
looked_by (junk byte ∷ items) x rest c p = by_later (looked_by items c.0 rest c.3 p)
  where
    by_later : FrameWaits c.0 ⊎ AllJunk c.0 → FrameWaits x ⊎ AllJunk x
    by_later (inl w) = inl (byte ∷ w.0, w.1, w.2, (c.0, c.1, c.2, w.3))
    by_later (inr n) = inr (byte ∷ n.0, n.1, (c.0, c.1, c.2, n.2), n.3)

looked : (x : List ℕ) → IsBytes x → FrameWaits x ⊎ AllJunk x
looked x valid = let cut = has_cut x valid in looked_by cut.0 x cut.1 cut.2.cuts cut.2.partial

leaves_some : (b : Bool) (behind : List ℕ) (s : Debugger) → IsBytes behind → (after : Session) × Leaves b behind s after
leaves_some true behind s valid =
    let cut = has_cut behind valid in
    let found = cleared_by cut.0 behind cut.1 cut.2.cuts cut.2.partial in
    (record { held = found.1; state = dropping (length found.0) s }, (found.0, found.2, found.3, refl))
leaves_some false behind s valid = (record { held = []; state = s }, refl)

module _ (planted : Bool) (part : Chip) (before : Session) where
  -- what a take comes to
  record Taken (chunk : List ℕ) : Type 0 where
    used : List ℕ
    left : List ℕ
    after : Session
    split : chunk ≡ used ++ left
    takes : TakesFrame planted part used before after ⊎ TakesNone used left before after

  abbrev NoSooner : List ℕ → Type 0
  NoSooner used = (k : ℕ) → k < length used → FrameWaits (before.held ++ take k used) → ⊥

  frame_taken : (used left : List ℕ) → IsBytes (before.held ++ used) → NoSooner used → FrameWaits (before.held ++ used) →
      Taken (used ++ left)
  frame_taken used left valid none w =
      let heard = each_item (whole w.1) in
      let s = item planted part heard.0 (dropping (length w.0) before.state) in
      let behind = leaves_some (goes_on s.mode) w.2 s (Cuts-bytes (before.held ++ used) w.2 (map junk w.0 ++ whole w.1 ∷ []) w.3 valid) in
      record {
        used = used;
        left = left;
        after = behind.0;
        split = refl;
        takes = inl (record {
          ahead = w.0;
          frame = w.1;
          behind = w.2;
          heard = heard.0;
          cuts = w.3;
          no_sooner = none;
          hears = heard.1;
          leaves = behind.1;
        });
      }

  -- one byte more, while no frame waits
  none_sooner : (used : List ℕ) (byte : ℕ) → NoSooner used → AllJunk (before.held ++ used) → NoSooner (used ++ byte ∷ [])
  none_sooner used byte none all k below w =
      elim (cases_lt k (length used)) [
        | inl low ↦ none k low
            (subst (λ (t : List ℕ). FrameWaits (before.held ++ t)) (take-append-le k used (byte ∷ []) (omega (arith, low))) w)
        | inr high ↦
            let same : length used ≡ k = omega (arith, high, below, length-append used (byte ∷ [])) in
            let here : FrameWaits (before.held ++ used) =
            subst (λ (t : List ℕ). FrameWaits (before.held ++ t)) (take_at used (byte ∷ []) k same) w in
            none_waits (before.held ++ used) all.1 here.2 all.0 here.0 here.1 all.2 all.3 here.3
      ]

  taken_from : (left used : List ℕ) → IsBytes (before.held ++ (used ++ left)) → NoSooner used → Taken (used ++ left)
  taken_from [] used valid none =
      let now : IsBytes (before.held ++ used) = subst (λ (t : List ℕ). IsBytes (before.held ++ t)) (append-nil used) valid in
      elim (looked (before.held ++ used) now) [
        | inl w ↦ frame_taken used [] now none w
        | inr all ↦ record {
          used = used;
          left = [];
          after = record { held = all.1; state = dropping (length all.0) before.state };
          split = refl;
          takes = inr (record { all = refl; ahead = all.0; cuts = all.2; partial = all.3; state = refl });
        }
      ]
  taken_from (byte ∷ left) used valid none =
      let now : IsBytes (before.held ++ used) =
      IsBytes-left (before.held ++ used) (byte ∷ left) (subst IsBytes (sym (append_assoc before.held used (byte ∷ left))) valid) in
      let next : (used ++ byte ∷ []) ++ left ≡ used ++ byte ∷ left = append_assoc used (byte ∷ []) left in
      elim (looked (before.held ++ used) now) [
        | inl w ↦ frame_taken used (byte ∷ left) now none w
        | inr all ↦ subst Taken next (taken_from left (used ++ byte ∷ [])
            (subst (λ (t : List ℕ). IsBytes (before.held ++ t)) (sym next) valid) (none_sooner used byte none all))
      ]

  taken : (chunk : List ℕ) → IsBytes (before.held ++ chunk) → Taken chunk
  taken chunk valid = taken_from chunk [] valid (λ k below w. absurd (omega (arith, below)))

  taken_by : (b : Bool) (chunk : List ℕ) → IsBytes (before.held ++ chunk) →
      (used : List ℕ) × (left : List ℕ) × (after : Session) × (chunk ≡ used ++ left) ×
      EitherBy b (TakesFrame planted part used before after ⊎ TakesNone used left before after) ((left ≡ []) × (after ≡ before))
  taken_by true chunk valid = let t = taken chunk valid in (t.used, t.left, t.after, t.split, t.takes)
  taken_by false chunk valid = (chunk, [], before, sym (append-nil chunk), (refl, refl))

pub every_chunk_is_taken : EveryChunkIsTaken
every_chunk_is_taken planted part chunk before valid = taken_by planted part before (listens before.state.mode) chunk valid

-- what is held behind a take is shorter
held_shorter : (b : Bool) (behind : List ℕ) (s : Debugger) (after : Session) → Leaves b behind s after → length after.held ≤ length behind
held_shorter true behind s after h = omega (arith, Cuts-shorter behind after.held (map junk h.0) h.1)
held_shorter false behind s after h = omega (arith, ap (λ (x : Session). length x.held) h)

held_bytes : (b : Bool) (behind left : List ℕ) (s : Debugger) (after : Session) → Leaves b behind s after → IsBytes (behind ++ left) →
    IsBytes (after.held ++ left)
held_bytes true behind left s after h valid =
    Cuts-bytes (behind ++ left) (after.held ++ left) (map junk h.0) (Cuts-more behind left after.held (map junk h.0) h.1) valid
held_bytes false behind left s after h valid =
    subst (λ (x : Session). IsBytes (x.held ++ left)) (sym h) (IsBytes-right behind left valid)

-- the items up to a frame are some
some_items : (ahead : List ℕ) (frame : Frame) → 0 < length (map junk ahead ++ whole frame ∷ [])
some_items [] frame = omega arith
some_items (byte ∷ ahead) frame = omega (arith, some_items ahead frame)

module _ (planted : Bool) (part : Chip) where
  abbrev Ends : List ℕ → Session → Type 0
  Ends chunk before = (pieces : List (List ℕ)) × (after : Session) × AreTakes planted part pieces chunk before after

  abbrev Later : ℕ → Type 0
  Later n = (left : List ℕ) (between : Session) → length between.held + length left < n → IsBytes (between.held ++ left) →
      Ends left (launched_then between)

  taken_within : (n : ℕ) (chunk : List ℕ) (before : Session) → length before.held + length chunk < n → IsBytes (before.held ++ chunk) →
      launch_if_prepared before.state ≡ before.state → Ends chunk before
  taken_within zero chunk before short valid still = absurd (omega (arith, short))
  taken_within (suc n) chunk before short valid still =
      by_listens (listens before.state.mode) refl (λ left between less bytes.
      taken_within n left (launched_then between) less bytes (launch_once between.state.mode between.state))
    where
      by_take : listens before.state.mode ≡ true → Later n → Taken planted part before chunk → Ends chunk before
      by_take listening later t = by_kind t.takes
        where
          together : (rest : Ends t.left (launched_then t.after)) → Ends chunk before
          together rest = (
            t.used ∷ rest.0,
            rest.1,
            (
              t.left,
              t.after,
              t.split,
              subst (λ (b : Bool). EitherBy b (TakesFrame planted part t.used before t.after ⊎ TakesNone t.used t.left before t.after)
                  ((t.left ≡ []) × (t.after ≡ before)))
                  (sym listening) t.takes,
              rest.2,
            ),
          )

          by_kind : TakesFrame planted part t.used before t.after ⊎ TakesNone t.used t.left before t.after → Ends chunk before
          by_kind (inl f) =
              let s = item planted part f.heard (dropping (length f.ahead) before.state) in
              let items = map junk f.ahead ++ whole f.frame ∷ [] in
              let all : IsBytes ((before.held ++ t.used) ++ t.left) =
              subst IsBytes (ap (λ (x : List ℕ). before.held ++ x) t.split ∙ sym (append_assoc before.held t.used t.left)) valid in
              let behind : IsBytes (f.behind ++ t.left) =
              Cuts-bytes ((before.held ++ t.used) ++ t.left) (f.behind ++ t.left) items
              (Cuts-more (before.held ++ t.used) t.left f.behind items f.cuts) all in
              let less : length t.after.held + length t.left < n =
              omega (
                arith,
                short,
                held_shorter (goes_on s.mode) f.behind s t.after f.leaves,
                Cuts-shorter (before.held ++ t.used) f.behind items f.cuts,
                some_items f.ahead f.frame,
                length-append before.held t.used,
                ap length t.split,
                length-append t.used t.left,
              ) in
              together (later t.left t.after less (held_bytes (goes_on s.mode) f.behind t.left s t.after f.leaves behind))
          by_kind (inr none) =
              together ([], launched_then t.after, (refl, λ on. (none.all, none.partial)))

      by_listens : (b : Bool) → listens before.state.mode ≡ b → Later n → Ends chunk before
      by_listens true on later = by_take on later (taken planted part before chunk valid)
      by_listens false off later = ([], before, (refl, λ on. absurd (true≢false (sym on ∙ off))))

pub every_chunk_ends : EveryChunkEnds
every_chunk_ends planted part chunk before valid none =
    taken_within planted part (suc (length before.held + length chunk)) chunk before (omega arith) valid
    (no_launch before.state.mode before.state none)
