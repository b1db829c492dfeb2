-- Takes of a replay.
use Rattle.std.proofs.Common.{◌≡◌, ℕ, zero, suc, ◌+◌, ◌-◌, ◌<◌, ◌≤◌, ◌⊎◌, inl, inr, Bool, true, false, Option, None, Some, List, [], ◌∷◌}
use Rattle.std.proofs.Common.{◌++◌, length, map, take, drop, length-append, refl, sym, ◌∙◌, ap, subst, arith, append_assoc}
use Rattle.std.proofs.lemmas.List.{take_at, take-append-le, take-append-drop}
use Rattle.std.proofs.Math.Seq.{take-append-add}
use Rattle.std.proofs.lemmas.Bool.{cases_lt}
use Rattle.part_spec.specs.Chip.{Chip}
use Rattle.line_spec.specs.Frames.{Frame, IsBytes, IsPartial}
use Rattle.line_spec.specs.Cut.{Item, whole, junk, Cuts}
use Rattle.line_spec.specs.Hearing.{Heard, HearsAll}
use Rattle.line_spec.proofs.FrameBytes.{same_begins}
use Rattle.line_spec.proofs.Cuts.{Cuts-more, Cuts-append, Cuts-bytes, has_cut}
use Rattle.debug_spec.specs.Stop.{Cause}
use Rattle.debug_spec.specs.Run.{End}
use Rattle.debug_spec.specs.Device.{Device}
use Rattle.debug_spec.specs.Debugger.{Mode, running, leaving, Debugger, opened, listens, dropping}
use Rattle.debug_spec.specs.Running.{line_end, launch_if_prepared, left, run_ended}
use Rattle.debug_spec.specs.Commands.{heard_by, item, item_launched}
use Rattle.debug_spec.specs.Replay.{IsJustThere, IsReplayCutShort, steps_for, end_now, ended_if, settled, over, IsReplay}
use Rattle.debug_spec.specs.Schedule.{Session, Keeps}
use Rattle.debug_spec.specs.Take.{goes_on, FrameWaits, Leaves, TakesFrame, TakesNone, launched_then}
use Rattle.debug_spec.specs.TakeReplays.{FrameBehind, IsReplayed, settled_then, ReplaysGoOn}
use Rattle.debug_spec.proofs.Soundness.{at}
use Rattle.debug_spec.proofs.Sessions.{EitherBy, items_settle}
use Rattle.debug_spec.proofs.Chunks.{HearsAll-append}
use Rattle.debug_spec.proofs.Hearings.{each_hearing}
use Rattle.debug_spec.proofs.TakeLemmas.{launches_drop, none_waits, waits-more, front_of_front}
use Rattle.debug_spec.proofs.TakeChunks.{listens-launched, listening_launch, drops, hears-drops, item_dropped, item_then}

-- junk is as long as its bytes
length-junk : (x y : List ℕ) (a : List ℕ) → Cuts x (map junk a) y → length x ≡ length a + length y
length-junk x y [] c = omega (arith, ap length c)
length-junk x y (byte ∷ a) c = omega (arith, ap length c.1, length-junk c.0 y a c.3)

-- a frame behind some items is a frame that waits, behind the junk among them or before
first_frame : (items : List Item) (x y b : List ℕ) (frame : Frame) → Cuts x (items ++ (map junk b ++ whole frame ∷ [])) y → FrameWaits x
first_frame [] x y b frame c = (b, frame, y, c)
first_frame (whole also ∷ items) x y b frame c = ([], also, c.0, (c.0, c.1, refl))
first_frame (junk byte ∷ items) x y b frame c =
    let later = first_frame items c.0 y b frame c.3 in (byte ∷ later.0, later.1, later.2, (c.0, c.1, c.2, later.3))

-- what is cut behind items
cuts_behind : (x y z : List ℕ) (items others : List Item) → Cuts x (items ++ others) y → Cuts x items z → Cuts z others y
cuts_behind x y z [] others c d = subst (λ (t : List ℕ). Cuts t others y) d c
cuts_behind x y z (whole frame ∷ items) others c d =
    cuts_behind c.0 y z items others c.2 (subst (λ (t : List ℕ). Cuts t items z) (same_begins x d.0 c.0 frame frame d.1 c.1).1 d.2)
cuts_behind x y z (junk byte ∷ items) others c d =
    let rests : d.0 ≡ c.0 = ap (λ (t : List ℕ). drop 1 t) (sym d.1 ∙ c.1) in
    cuts_behind c.0 y z items others c.3 (subst (λ (t : List ℕ). Cuts t items z) rests d.3)

-- and the items themselves
cuts_first : (x y : List ℕ) (items others : List Item) → Cuts x (items ++ others) y → (z : List ℕ) × Cuts x items z × Cuts z others y
cuts_first x y [] others c = (x, refl, c)
cuts_first x y (whole frame ∷ items) others c = let r = cuts_first c.0 y items others c.2 in (r.0, (c.0, c.1, r.1), r.2)
cuts_first x y (junk byte ∷ items) others c = let r = cuts_first c.0 y items others c.3 in (r.0, (c.0, c.1, c.2, r.1), r.2)

-- a frame behind items and others is one behind the items
frame_behind : (x : List ℕ) (items others : List Item) → FrameBehind x (items ++ others) → FrameBehind x items
frame_behind x items others w =
    let all : Cuts x (items ++ (others ++ (map junk w.0 ++ whole w.1 ∷ []))) w.2 =
    subst (λ (t : List Item). Cuts x t w.2) (append_assoc items others (map junk w.0 ++ whole w.1 ∷ [])) w.3 in
    let parts = cuts_first x w.2 items (others ++ (map junk w.0 ++ whole w.1 ∷ [])) all in
    let found = first_frame others parts.0 w.2 w.0 w.1 parts.2 in
    (found.0, found.1, found.2, Cuts-append x parts.0 found.2 items (map junk found.0 ++ whole found.1 ∷ []) parts.1 found.3)

-- behind the first of two lists of items, cut from the first of two chunks
sooner_by : (held first second : List ℕ) (items others : List Item) (behind : List ℕ) → Cuts (held ++ first) items behind →
    ((k : ℕ) → k < length first → FrameBehind (held ++ take k first) items → ⊥) →
    ((k : ℕ) → k < length second → FrameBehind (behind ++ take k second) others → ⊥) →
    (k : ℕ) → k < length (first ++ second) → FrameBehind (held ++ take k (first ++ second)) (items ++ others) → ⊥
sooner_by held first second items others behind c one two k below w = by_place (cases_lt k (length first))
  where
    by_place : (k < length first) ⊎ (length first ≤ k) → ⊥
    by_place (inl low) =
        one k low (frame_behind (held ++ take k first) items others
        (subst (λ (t : List ℕ). FrameBehind (held ++ t) (items ++ others)) (take-append-le k first second (omega (arith, low))) w))
    by_place (inr high) =
        let j = k - length first in
        let sum : k ≡ length first + j = omega (arith, high) in
        let front : take k (first ++ second) ≡ first ++ take j second =
        ap (λ (n : ℕ). take n (first ++ second)) sum ∙ take-append-add first second j in
        let place : held ++ take k (first ++ second) ≡ (held ++ first) ++ take j second =
        ap (λ (t : List ℕ). held ++ t) front ∙ sym (append_assoc held first (take j second)) in
        let all : Cuts ((held ++ first) ++ take j second) (items ++ (others ++ (map junk w.0 ++ whole w.1 ∷ []))) w.2 =
        subst (λ (t : List Item). Cuts ((held ++ first) ++ take j second) t w.2)
        (append_assoc items others (map junk w.0 ++ whole w.1 ∷ []))
        (subst (λ (t : List ℕ). Cuts t ((items ++ others) ++ (map junk w.0 ++ whole w.1 ∷ [])) w.2) place w.3) in
        two j (omega (arith, below, high, length-append first second)) (
          w.0,
          w.1,
          w.2,
          cuts_behind ((held ++ first) ++ take j second) w.2 (behind ++ take j second) items (others ++ (map junk w.0 ++ whole w.1 ∷ []))
              all
              (Cuts-more (held ++ first) (take j second) behind items c),
        )

module _ (planted : Bool) (part : Chip) (stops : List ℕ) where
  abbrev settle : Debugger → Debugger
  settle s = settled planted part stops s

  -- what happens between two items does not see the dropped bytes
  ended_drop : (count steps : ℕ) (cause : Cause) (m : Mode) (s : Debugger) → let e : End = record { steps = steps; cause = cause } in
      run_ended planted part e (dropping count (at m s)) ≡ dropping count (run_ended planted part e (at m s))
  ended_drop count zero cause running s = refl
  ended_drop count zero cause leaving s = refl
  ended_drop count zero cause _ s = refl
  ended_drop count (suc steps) cause running s = refl
  ended_drop count (suc steps) cause leaving s = refl
  ended_drop count (suc steps) cause _ s = refl

  ended_if_drop : (count : ℕ) (o : Option End) (m : Mode) (s : Debugger) →
      ended_if planted part o (dropping count (at m s)) ≡ dropping count (ended_if planted part o (at m s))
  ended_if_drop count None m s = refl
  ended_if_drop count (Some e) m s = ended_drop count e.steps e.cause m s

  pub settled_drop : (count : ℕ) (m : Mode) (s : Debugger) → settle (dropping count (at m s)) ≡ dropping count (settle (at m s))
  settled_drop count running s = ended_if_drop count (end_now planted part (steps_for stops s.launches) (at running s)) running s
  settled_drop count leaving s = ended_if_drop count (end_now planted part (steps_for stops s.launches) (at leaving s)) leaving s
  settled_drop count _ s = refl

  -- and the debugger listens behind it where it did before
  pub listens-settled : (m : Mode) (s : Debugger) → listens (settle (at m s)).mode ≡ listens m
  listens-settled running s = by_end (end_now planted part (steps_for stops s.launches) (at running s))
    where
      by_end : (o : Option End) → listens (ended_if planted part o (at running s)).mode ≡ true
      by_end None = refl
      by_end (Some e) = refl
  listens-settled leaving s = by_end (end_now planted part (steps_for stops s.launches) (at leaving s))
    where
      by_end : (o : Option End) → listens (ended_if planted part o (at leaving s)).mode ≡ false
      by_end None = refl
      by_end (Some e) = refl
  listens-settled _ s = refl

  pub over-append : (heard more : List Heard) (s : Debugger) →
      over planted part stops (heard ++ more) s ≡ over planted part stops more (over planted part stops heard s)
  over-append [] more s = refl
  over-append (one ∷ heard) more s = over-append heard more (settle (item_launched planted part one s))

  -- junk, where nothing is to happen
  pub over-drops : (bytes : List ℕ) (s : Debugger) → listens s.mode ≡ true → settle s ≡ s →
      over planted part stops (drops bytes) s ≡ dropping (length bytes) s
  over-drops [] s h still = ap (λ (n : ℕ). record s { dropped = n }) (omega arith)
  over-drops (byte ∷ bytes) s h still =
      let sum : s.dropped + 1 + length bytes ≡ s.dropped + suc (length bytes) = omega arith in
      let kept : settle (dropping 1 s) ≡ dropping 1 s = settled_drop 1 s.mode s ∙ ap (dropping 1) still in
      ap (λ (t : Debugger). over planted part stops (drops bytes) (settle t)) (item_dropped planted part s.mode s h) ∙
      ap (over planted part stops (drops bytes)) kept ∙ over-drops bytes (dropping 1 s) h kept ∙
      ap (λ (n : ℕ). record s { dropped = n }) sum

  pub deaf_over : (heard : List Heard) (s : Debugger) → listens s.mode ≡ false → settle s ≡ s → over planted part stops heard s ≡ s
  deaf_over [] s deaf still = refl
  deaf_over (one ∷ heard) s deaf still =
      ap (over planted part stops heard)
      (ap (λ (b : Bool). settle (elim b [ true ↦ launch_if_prepared (heard_by planted part one s) | false ↦ s ])) deaf ∙ still) ∙
      deaf_over heard s deaf still

  module _ (used : List ℕ) (before between : Session) (listening : listens before.state.mode ≡ true)
      (still : settle before.state ≡ before.state) where
    abbrev after_it : Session
    after_it = settled_then planted part stops (launched_then between)

    hears_as : (b : Bool) → listens (launch_if_prepared between.state).mode ≡ b →
        listens (settle (launch_if_prepared between.state)).mode ≡ b
    hears_as b h = let t = launch_if_prepared between.state in listens-settled t.mode t ∙ h

    none_replayed : (left : List ℕ) → TakesNone used left before between → IsReplayed planted part stops used before after_it
    none_replayed left t =
        let hears : listens between.state.mode ≡ true = ap (λ (s : Debugger). listens s.mode) t.state ∙ listening in
        let same : launch_if_prepared between.state ≡ between.state = listening_launch between.state.mode between.state hears in
        record {
          items = map junk t.ahead;
          behind = between.held;
          heard = drops t.ahead;
          cuts = t.cuts;
          hears = hears-drops t.ahead;
          state = ap settle (same ∙ t.state) ∙ settled_drop (length t.ahead) before.state.mode before.state ∙
              ap (dropping (length t.ahead)) still ∙
              sym (over-drops t.ahead before.state listening still);
          keeps = subst (λ (b : Bool). Keeps b between.held between.held)
              (sym (hears_as true (ap (λ (s : Debugger). listens s.mode) same ∙ hears))) refl;
          no_sooner = λ k below w.
              let early = first_frame (map junk t.ahead) (before.held ++ take k used) w.2 w.0 w.1 w.3 in
              let whole_of : (before.held ++ take k used) ++ drop k used ≡ before.held ++ used =
              append_assoc before.held (take k used) (drop k used) ∙ ap (λ (x : List ℕ). before.held ++ x) (take-append-drop k used) in
              let late = subst FrameWaits whole_of (waits-more (before.held ++ take k used) (drop k used) early) in
              none_waits (before.held ++ used) between.held late.2 t.ahead late.0 late.1 t.cuts t.partial late.3;
        }

    module _ (t : TakesFrame planted part used before between) where
      abbrev heard_one : Debugger
      heard_one = item planted part t.heard (dropping (length t.ahead) before.state)

      over_frame : over planted part stops (drops t.ahead ++ t.heard ∷ []) before.state ≡ settle (launch_if_prepared heard_one)
      over_frame =
          over-append (drops t.ahead) (t.heard ∷ []) before.state ∙
          ap (over planted part stops (t.heard ∷ [])) (over-drops t.ahead before.state listening still) ∙
          ap settle (item_then planted part t.heard (dropping (length t.ahead) before.state) (listens before.state.mode) listening)

      hears_one : HearsAll (map junk t.ahead ++ whole t.frame ∷ []) (drops t.ahead ++ t.heard ∷ [])
      hears_one = HearsAll-append (map junk t.ahead) (whole t.frame ∷ []) (drops t.ahead) (t.heard ∷ []) (hears-drops t.ahead) (t.hears, tt)

      soonest : (items : List Item) (k : ℕ) → k < length used →
          FrameBehind (before.held ++ take k used) ((map junk t.ahead ++ whole t.frame ∷ []) ++ items) → ⊥
      soonest items k below w =
          t.no_sooner k below (first_frame ((map junk t.ahead ++ whole t.frame ∷ []) ++ items) (before.held ++ take k used) w.2 w.0 w.1 w.3)

      frame_replayed : (b : Bool) → goes_on heard_one.mode ≡ b → Leaves b t.behind heard_one between →
          IsReplayed planted part stops used before after_it
      frame_replayed true on leaves =
          let t_launched = launch_if_prepared heard_one in
          let hears : listens t_launched.mode ≡ true = listens-launched heard_one.mode heard_one ∙ on in
          let same : launch_if_prepared between.state ≡ dropping (length leaves.0) t_launched =
          ap launch_if_prepared leaves.3 ∙ launches_drop (length leaves.0) heard_one in
          record {
            items = (map junk t.ahead ++ whole t.frame ∷ []) ++ map junk leaves.0;
            behind = between.held;
            heard = (drops t.ahead ++ t.heard ∷ []) ++ drops leaves.0;
            cuts = Cuts-append (before.held ++ used) t.behind between.held (map junk t.ahead ++ whole t.frame ∷ []) (map junk leaves.0)
                t.cuts leaves.1;
            hears = HearsAll-append (map junk t.ahead ++ whole t.frame ∷ []) (map junk leaves.0) (drops t.ahead ++ t.heard ∷ [])
                (drops leaves.0)
                hears_one (hears-drops leaves.0);
            state = ap settle same ∙ settled_drop (length leaves.0) t_launched.mode t_launched ∙
                sym (over-drops leaves.0 (settle t_launched) (listens-settled t_launched.mode t_launched ∙
                hears) (items_settle.once planted part stops t_launched)) ∙
                ap (over planted part stops (drops leaves.0)) (sym over_frame) ∙
                sym (over-append (drops t.ahead ++ t.heard ∷ []) (drops leaves.0) before.state);
            keeps = subst (λ (b : Bool). Keeps b between.held between.held)
                (sym (hears_as true (ap (λ (s : Debugger). listens s.mode) same ∙ hears))) refl;
            no_sooner = soonest (map junk leaves.0);
          }
      frame_replayed false on leaves =
          let same : launch_if_prepared between.state ≡ launch_if_prepared heard_one =
          ap (λ (x : Session). launch_if_prepared x.state) leaves in
          record {
            items = map junk t.ahead ++ whole t.frame ∷ [];
            behind = t.behind;
            heard = drops t.ahead ++ t.heard ∷ [];
            cuts = t.cuts;
            hears = hears_one;
            state = ap settle same ∙ sym over_frame;
            keeps = subst (λ (b : Bool). Keeps b t.behind between.held)
                (sym (hears_as false (ap (λ (s : Debugger). listens s.mode) same ∙ listens-launched heard_one.mode heard_one ∙ on)))
                (ap (λ (x : Session). x.held) leaves);
            no_sooner = λ k below w. t.no_sooner k below
                (first_frame (map junk t.ahead ++ whole t.frame ∷ []) (before.held ++ take k used) w.2 w.0 w.1 w.3);
          }

    replayed : (left : List ℕ) → TakesFrame planted part used before between ⊎ TakesNone used left before between →
        IsReplayed planted part stops used before after_it
    replayed left (inl t) = frame_replayed t (goes_on (heard_one t).mode) refl t.leaves
    replayed left (inr t) = none_replayed left t

  go_on : (first second : List ℕ) (before between after : Session) → listens between.state.mode ≡ true →
      IsReplayed planted part stops first before between → IsReplayed planted part stops second between after →
      IsReplayed planted part stops (first ++ second) before after
  go_on first second before between after listening one two =
      let held : between.held ≡ one.behind = subst (λ (b : Bool). Keeps b one.behind between.held) listening one.keeps in
      record {
        items = one.items ++ two.items;
        behind = two.behind;
        heard = one.heard ++ two.heard;
        cuts = subst (λ (x : List ℕ). Cuts x (one.items ++ two.items) two.behind) (append_assoc before.held first second)
            (Cuts-append ((before.held ++ first) ++ second) (one.behind ++ second) two.behind one.items two.items
            (Cuts-more (before.held ++ first) second one.behind one.items one.cuts)
            (subst (λ (x : List ℕ). Cuts (x ++ second) two.items two.behind) held two.cuts));
        hears = HearsAll-append one.items two.items one.heard two.heard one.hears two.hears;
        state = two.state ∙ ap (over planted part stops two.heard) one.state ∙ sym (over-append one.heard two.heard before.state);
        keeps = two.keeps;
        no_sooner = sooner_by before.held first second one.items two.items one.behind one.cuts one.no_sooner
            (subst (λ (x : List ℕ). (k : ℕ) → k < length second → FrameBehind (x ++ take k second) two.items → ⊥) held two.no_sooner);
      }

  -- the line ends
  pub deaf_end : (held : List ℕ) (s : Debugger) → listens s.mode ≡ false → line_end part held s ≡ s
  deaf_end held s deaf = ap (λ (b : Bool). elim b [ true ↦ left part (dropping (length held) s) | false ↦ s ]) deaf

  ends_by : (prog bytes : List ℕ) (device : Device) (after : Session) → IsBytes bytes → (b : Bool) → listens after.state.mode ≡ b →
      IsReplayed planted part stops bytes (record { held = []; state = opened part prog device }) after →
      (listens after.state.mode ≡ true → IsPartial after.held) → settle after.state ≡ after.state →
      IsReplay planted part stops prog device bytes (settle (line_end part after.held after.state))
  ends_by prog bytes device after valid true listening r partial still =
      let held : after.held ≡ r.behind = subst (λ (b : Bool). Keeps b r.behind after.held) listening r.keeps in
      record {
        items = r.items;
        rest = after.held;
        heard = r.heard;
        cut = record { cuts = subst (λ (x : List ℕ). Cuts bytes r.items x) (sym held) r.cuts; partial = partial listening };
        hears = r.hears;
        is_end = ap (λ (s : Debugger). settle (line_end part after.held s)) r.state;
      }
  ends_by prog bytes device after valid false deaf r partial still =
      let more = has_cut r.behind (Cuts-bytes bytes r.behind r.items r.cuts valid) in
      let heard = each_hearing more.0 in
      let last : over planted part stops (r.heard ++ heard.0) (opened part prog device) ≡ after.state =
      over-append r.heard heard.0 (opened part prog device) ∙ ap (over planted part stops heard.0) (sym r.state) ∙
      deaf_over heard.0 after.state deaf still in
      record {
        items = r.items ++ more.0;
        rest = more.1;
        heard = r.heard ++ heard.0;
        cut = record { cuts = Cuts-append bytes r.behind more.1 r.items more.0 r.cuts more.2.cuts; partial = more.2.partial };
        hears = HearsAll-append r.items more.0 r.heard heard.0 r.hears heard.1;
        is_end = ap settle (deaf_end after.held after.state deaf ∙ sym (deaf_end more.1 after.state deaf)) ∙
            ap (λ (s : Debugger). settle (line_end part more.1 s)) (sym last);
      }

-- the line ends behind a frame that was just taken
module _ (planted : Bool) (part : Chip) (stops prog bytes used rest : List ℕ) (device : Device) (before between : Session)
    (r : IsReplayed planted part stops bytes (record { held = []; state = opened part prog device }) before)
    (listening : listens before.state.mode ≡ true)
    (still : settled planted part stops before.state ≡ before.state) (t : TakesFrame planted part used before between) where
  abbrev at_start : Debugger
  at_start = opened part prog device

  abbrev last : List Item
  last = map junk t.ahead ++ whole t.frame ∷ []

  abbrev answer : Debugger
  answer = item planted part t.heard (dropping (length t.ahead) before.state)

  held_is : before.held ≡ r.behind
  held_is = subst (λ (b : Bool). Keeps b r.behind before.held) listening r.keeps

  -- bytes that are dropped one by one, and the others at the end
  ends_alike : (b : Bool) → goes_on answer.mode ≡ b → Leaves b t.behind answer between →
      line_end part between.held (settled planted part stops (launch_if_prepared between.state)) ≡
      line_end part t.behind (settled planted part stops (launch_if_prepared answer))
  ends_alike true on leaves =
      let l = launch_if_prepared answer in
      let q = settled planted part stops l in
      let same : settled planted part stops (launch_if_prepared between.state) ≡ dropping (length leaves.0) q =
      ap (settled planted part stops) (ap launch_if_prepared leaves.3 ∙ launches_drop (length leaves.0) answer) ∙
      settled_drop planted part stops (length leaves.0) l.mode l in
      let hears : listens q.mode ≡ true = listens-settled planted part stops l.mode l ∙ listens-launched answer.mode answer ∙ on in
      let sum : q.dropped + length leaves.0 + length between.held ≡ q.dropped + length t.behind =
      omega (arith, length-junk t.behind between.held leaves.0 leaves.1) in
      ap (line_end part between.held) same ∙
      ap (λ (b : Bool). elim b [
        | true ↦ left part (dropping (length between.held) (dropping (length leaves.0) q))
        | false ↦
            dropping (length leaves.0) q
      ]) hears ∙
      ap (λ (n : ℕ). left part (record q { dropped = n })) sum ∙
      ap (λ (b : Bool). elim b [ true ↦ left part (dropping (length t.behind) q) | false ↦ q ]) (sym hears)
  ends_alike false on leaves =
      let l = launch_if_prepared answer in
      let q = settled planted part stops l in
      let deaf : listens q.mode ≡ false = listens-settled planted part stops l.mode l ∙ listens-launched answer.mode answer ∙ on in
      ap (λ (x : Session). line_end part x.held (settled planted part stops (launch_if_prepared x.state))) leaves ∙
      deaf_end planted part stops [] q deaf ∙ sym (deaf_end planted part stops t.behind q deaf)

  all_over : over planted part stops (r.heard ++ (drops t.ahead ++ t.heard ∷ [])) at_start ≡ settled planted part stops
      (launch_if_prepared answer)
  all_over =
      over-append planted part stops r.heard (drops t.ahead ++ t.heard ∷ []) at_start ∙
      ap (over planted part stops (drops t.ahead ++ t.heard ∷ [])) (sym r.state) ∙
      over_frame planted part stops used before between listening still t

  just_there : IsJustThere (bytes ++ used) (r.items ++ last)
  just_there shorter missing behind e some c = by_place (cases_lt (length shorter) (length bytes))
    where
      -- the shorter front is a front of the bytes before, or goes on into those used
      by_place : (length shorter < length bytes) ⊎ (length bytes ≤ length shorter) → ⊥
      by_place (inl low) =
          let front : shorter ≡ take (length shorter) bytes = front_of_front shorter missing bytes used (sym e) (omega (arith, low)) in
          r.no_sooner (length shorter) low (t.ahead, t.frame, behind, subst (λ (x : List ℕ). Cuts x (r.items ++ last) behind) front c)
      by_place (inr high) =
          let j = length shorter - length bytes in
          let sum : length shorter ≡ length bytes + j = omega (arith, high) in
          let front : shorter ≡ bytes ++ take j used =
          sym (take_at shorter missing (length shorter) refl) ∙ ap (take (length shorter)) (sym e) ∙
          ap (λ (n : ℕ). take n (bytes ++ used)) sum ∙ take-append-add bytes used j in
          let low : j < length used = omega (arith, high, some, ap length e, length-append bytes used, length-append shorter missing) in
          let all : Cuts (bytes ++ take j used) (r.items ++ last) behind =
          subst (λ (x : List ℕ). Cuts x (r.items ++ last) behind) front c in
          let found : Cuts (r.behind ++ take j used) last behind =
          cuts_behind (bytes ++ take j used) behind (r.behind ++ take j used) r.items last all
          (Cuts-more bytes (take j used) r.behind r.items r.cuts) in
          t.no_sooner j low (t.ahead, t.frame, behind, subst (λ (x : List ℕ). Cuts (x ++ take j used) last behind) (sym held_is) found)

  cut_short : IsReplayCutShort planted part stops prog device ((bytes ++ used) ++ rest) (r.items ++ last)
      (settled planted part stops (line_end part between.held (settled planted part stops (launch_if_prepared between.state))))
  cut_short = record {
    taken = bytes ++ used;
    left = rest;
    held = t.behind;
    heard = r.heard ++ (drops t.ahead ++ t.heard ∷ []);
    split = refl;
    cuts = Cuts-append (bytes ++ used) (r.behind ++ used) t.behind r.items last (Cuts-more bytes used r.behind r.items r.cuts)
        (subst (λ (x : List ℕ). Cuts (x ++ used) last t.behind) held_is t.cuts);
    frame = (r.items ++ map junk t.ahead, t.frame, sym (append_assoc r.items (map junk t.ahead) (whole t.frame ∷ [])));
    just_there = just_there;
    hears = HearsAll-append r.items last r.heard (drops t.ahead ++ t.heard ∷ []) r.hears
        (hears_one planted part stops used before between listening still t);
    is_end = ap (settled planted part stops) (ends_alike (goes_on answer.mode) refl t.leaves ∙ ap (line_end part t.behind) (sym all_over));
  }

pub replays_go_on : ReplaysGoOn
unfolding cut_short
replays_go_on = record {
  by_take = λ planted part stops used left before between listening still taken.
      let takes : TakesFrame planted part used before between ⊎ TakesNone used left before between =
      subst (λ (b : Bool). EitherBy b (TakesFrame planted part used before between ⊎ TakesNone used left before between) ((left ≡ []) ×
      (between ≡ before))) listening taken in (
        replayed planted part stops used before between listening still left takes,
        items_settle.once planted part stops (launch_if_prepared between.state),
      );
  onward = λ planted part stops. go_on planted part stops;
  ends = λ planted part stops prog bytes device after valid. ends_by planted part stops prog bytes device after valid
      (listens after.state.mode) refl;
  cut_short = λ planted part stops prog bytes used left device before between r listening still t.
      (cut_short planted part stops prog bytes used left device before between r listening still t, refl);
}
