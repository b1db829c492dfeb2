-- Takes of a chunk, joined.
use Rattle.std.proofs.Common.{◌≡◌, ℕ, ◌+◌, ◌-◌, ◌<◌, ◌≤◌, ◌⊎◌, inl, inr, Bool, true, false, List, [], ◌∷◌, ◌++◌, length, map, take, drop}
use Rattle.std.proofs.Common.{length-append, refl, sym, ◌∙◌, ap, subst, arith, append-nil, append_assoc}
use Rattle.std.proofs.lemmas.List.{take_at, take-append-le, take-append-drop}
use Rattle.std.proofs.Math.Seq.{take-append-add}
use Rattle.std.proofs.lemmas.Bool.{cases_lt}
use Rattle.part_spec.specs.Chip.{Chip}
use Rattle.line_spec.specs.Frames.{Frame, IsPartial}
use Rattle.line_spec.specs.Cut.{Item, whole, junk, Cuts}
use Rattle.line_spec.specs.Hearing.{Heard, HearsAll}
use Rattle.line_spec.proofs.FrameBytes.{same_begins}
use Rattle.line_spec.proofs.Cuts.{Cuts-more, Cuts-append}
use Rattle.debug_spec.specs.Debugger.{Debugger, listens, dropping}
use Rattle.debug_spec.specs.Running.{line_end, launch_if_prepared, left}
use Rattle.debug_spec.specs.Commands.{item}
use Rattle.debug_spec.specs.Schedule.{Session, heard_all, Keeps, Holds, IsHeard, IsChunk, line_ended}
use Rattle.debug_spec.specs.CutShort.{IsJustTaken, IsChunkCutShort}
use Rattle.debug_spec.specs.Take.{goes_on, FrameWaits, Leaves, TakesFrame, TakesNone, launched_then}
use Rattle.debug_spec.specs.TakeReplays.{FrameBehind}
use Rattle.debug_spec.proofs.Sessions.{EitherBy}
use Rattle.debug_spec.proofs.Chunks.{HearsAll-append, heard_all-append}
use Rattle.debug_spec.proofs.TakeLemmas.{launches_drop, none_waits, waits-more, front_of_front}
use Rattle.debug_spec.proofs.TakeChunks.{listens-launched, listening_launch, drops, hears-drops, heard-drops, item_then}
use Rattle.ice_serve.specs.Pieces.{IsTaken, HearsFrame, HearsNone, TakesFront, IsCutShort}

-- junk is as long as its bytes
length-junk : (x y : List ℕ) (a : List ℕ) → Cuts x (map junk a) y → length x ≡ length a + length y
length-junk x y [] c = omega (arith, ap length c)
length-junk x y (byte ∷ a) c = omega (arith, ap length c.1, length-junk c.0 y a c.3)

-- a frame behind some items is a frame that waits, behind the junk among them or before
first_frame : (items : List Item) (x y b : List ℕ) (frame : Frame) → Cuts x (items ++ (map junk b ++ whole frame ∷ [])) y → FrameWaits x
first_frame [] x y b frame c = (b, frame, y, c)
first_frame (whole also ∷ items) x y b frame c = ([], also, c.0, (c.0, c.1, refl))
first_frame (junk byte ∷ items) x y b frame c =
    let later = first_frame items c.0 y b frame c.3 in (byte ∷ later.0, later.1, later.2, (c.0, c.1, c.2, later.3))

-- what is cut behind items
cuts_behind : (x y z : List ℕ) (items others : List Item) → Cuts x (items ++ others) y → Cuts x items z → Cuts z others y
cuts_behind x y z [] others c d = subst (λ (t : List ℕ). Cuts t others y) d c
cuts_behind x y z (whole frame ∷ items) others c d =
    cuts_behind c.0 y z items others c.2 (subst (λ (t : List ℕ). Cuts t items z) (same_begins x d.0 c.0 frame frame d.1 c.1).1 d.2)
cuts_behind x y z (junk byte ∷ items) others c d =
    let rests : d.0 ≡ c.0 = ap (λ (t : List ℕ). drop 1 t) (sym d.1 ∙ c.1) in
    cuts_behind c.0 y z items others c.3 (subst (λ (t : List ℕ). Cuts t items z) rests d.3)

-- and the items themselves
cuts_first : (x y : List ℕ) (items others : List Item) → Cuts x (items ++ others) y → (z : List ℕ) × Cuts x items z × Cuts z others y
cuts_first x y [] others c = (x, refl, c)
cuts_first x y (whole frame ∷ items) others c = let r = cuts_first c.0 y items others c.2 in (r.0, (c.0, c.1, r.1), r.2)
cuts_first x y (junk byte ∷ items) others c = let r = cuts_first c.0 y items others c.3 in (r.0, (c.0, c.1, c.2, r.1), r.2)

-- a frame behind items and others is one behind the items
frame_behind : (x : List ℕ) (items others : List Item) → FrameBehind x (items ++ others) → FrameBehind x items
frame_behind x items others w =
    let all : Cuts x (items ++ (others ++ (map junk w.0 ++ whole w.1 ∷ []))) w.2 =
    subst (λ (t : List Item). Cuts x t w.2) (append_assoc items others (map junk w.0 ++ whole w.1 ∷ [])) w.3 in
    let parts = cuts_first x w.2 items (others ++ (map junk w.0 ++ whole w.1 ∷ [])) all in
    let found = first_frame others parts.0 w.2 w.0 w.1 parts.2 in
    (found.0, found.1, found.2, Cuts-append x parts.0 found.2 items (map junk found.0 ++ whole found.1 ∷ []) parts.1 found.3)

-- behind the first of two lists of items, cut from the first of two chunks
sooner_by : (held first second : List ℕ) (items others : List Item) (behind : List ℕ) → Cuts (held ++ first) items behind →
    ((k : ℕ) → k < length first → FrameBehind (held ++ take k first) items → ⊥) →
    ((k : ℕ) → k < length second → FrameBehind (behind ++ take k second) others → ⊥) →
    (k : ℕ) → k < length (first ++ second) → FrameBehind (held ++ take k (first ++ second)) (items ++ others) → ⊥
sooner_by held first second items others behind c one two k below w = by_place (cases_lt k (length first))
  where
    by_place : (k < length first) ⊎ (length first ≤ k) → ⊥
    by_place (inl low) =
        one k low (frame_behind (held ++ take k first) items others
        (subst (λ (t : List ℕ). FrameBehind (held ++ t) (items ++ others)) (take-append-le k first second (omega (arith, low))) w))
    by_place (inr high) =
        let j = k - length first in
        let sum : k ≡ length first + j = omega (arith, high) in
        let front : take k (first ++ second) ≡ first ++ take j second =
        ap (λ (n : ℕ). take n (first ++ second)) sum ∙ take-append-add first second j in
        let place : held ++ take k (first ++ second) ≡ (held ++ first) ++ take j second =
        ap (λ (t : List ℕ). held ++ t) front ∙ sym (append_assoc held first (take j second)) in
        let all : Cuts ((held ++ first) ++ take j second) (items ++ (others ++ (map junk w.0 ++ whole w.1 ∷ []))) w.2 =
        subst (λ (t : List Item). Cuts ((held ++ first) ++ take j second) t w.2)
        (append_assoc items others (map junk w.0 ++ whole w.1 ∷ []))
        (subst (λ (t : List ℕ). Cuts t ((items ++ others) ++ (map junk w.0 ++ whole w.1 ∷ [])) w.2) place w.3) in
        two j (omega (arith, below, high, length-append first second)) (
          w.0,
          w.1,
          w.2,
          cuts_behind ((held ++ first) ++ take j second) w.2 (behind ++ take j second) items (others ++ (map junk w.0 ++ whole w.1 ∷ []))
              all
              (Cuts-more (held ++ first) (take j second) behind items c),
        )

module _ (part : Chip) where
  module _ (used : List ℕ) (before between : Session) (listening : listens before.state.mode ≡ true) where
    none_taken : (left : List ℕ) → TakesNone used left before between → IsTaken part used before (launched_then between)
    none_taken left t =
        let hears : listens between.state.mode ≡ true = ap (λ (s : Debugger). listens s.mode) t.state ∙ listening in
        let same : launch_if_prepared between.state ≡ between.state = listening_launch between.state.mode between.state hears in
        record {
          items = map junk t.ahead;
          behind = between.held;
          heard = drops t.ahead;
          cuts = t.cuts;
          hears = hears-drops t.ahead;
          state = same ∙ t.state ∙ sym (heard-drops true part t.ahead before.state listening);
          keeps = subst (λ (b : Bool). Keeps b between.held between.held) (sym (ap (λ (s : Debugger). listens s.mode) same ∙ hears)) refl;
          no_sooner = λ k below w.
              let early = first_frame (map junk t.ahead) (before.held ++ take k used) w.2 w.0 w.1 w.3 in
              let whole_of : (before.held ++ take k used) ++ drop k used ≡ before.held ++ used =
              append_assoc before.held (take k used) (drop k used) ∙ ap (λ (x : List ℕ). before.held ++ x) (take-append-drop k used) in
              let late = subst FrameWaits whole_of (waits-more (before.held ++ take k used) (drop k used) early) in
              none_waits (before.held ++ used) between.held late.2 t.ahead late.0 late.1 t.cuts t.partial late.3;
        }

    module _ (t : TakesFrame true part used before between) where
      abbrev heard_one : Debugger
      heard_one = item true part t.heard (dropping (length t.ahead) before.state)

      abbrev its_items : List Item
      its_items = map junk t.ahead ++ whole t.frame ∷ []

      abbrev its_heard : List Heard
      its_heard = drops t.ahead ++ t.heard ∷ []

      pub up_to_frame : heard_all true part its_heard before.state ≡ launch_if_prepared heard_one
      up_to_frame =
          heard_all-append true part (drops t.ahead) (t.heard ∷ []) before.state ∙
          ap (heard_all true part (t.heard ∷ [])) (heard-drops true part t.ahead before.state listening) ∙
          item_then true part t.heard (dropping (length t.ahead) before.state) (listens before.state.mode) listening

      pub hears_one : HearsAll its_items its_heard
      hears_one = HearsAll-append (map junk t.ahead) (whole t.frame ∷ []) (drops t.ahead) (t.heard ∷ []) (hears-drops t.ahead) (t.hears, tt)

      soonest : (items : List Item) (k : ℕ) → k < length used → FrameBehind (before.held ++ take k used) (its_items ++ items) → ⊥
      soonest items k below w =
          t.no_sooner k below (first_frame (its_items ++ items) (before.held ++ take k used) w.2 w.0 w.1 w.3)

      frame_taken : (b : Bool) → goes_on heard_one.mode ≡ b → Leaves b t.behind heard_one between →
          IsTaken part used before (launched_then between)
      frame_taken true on leaves =
          let t_launched = launch_if_prepared heard_one in
          let hears : listens t_launched.mode ≡ true = listens-launched heard_one.mode heard_one ∙ on in
          let same : launch_if_prepared between.state ≡ dropping (length leaves.0) t_launched =
          ap launch_if_prepared leaves.3 ∙ launches_drop (length leaves.0) heard_one in
          record {
            items = its_items ++ map junk leaves.0;
            behind = between.held;
            heard = its_heard ++ drops leaves.0;
            cuts = Cuts-append (before.held ++ used) t.behind between.held its_items (map junk leaves.0) t.cuts leaves.1;
            hears = HearsAll-append its_items (map junk leaves.0) its_heard (drops leaves.0) hears_one (hears-drops leaves.0);
            state = same ∙ sym (heard-drops true part leaves.0 t_launched hears) ∙
                ap (heard_all true part (drops leaves.0)) (sym up_to_frame) ∙
                sym (heard_all-append true part its_heard (drops leaves.0) before.state);
            keeps = subst (λ (b : Bool). Keeps b between.held between.held) (sym (ap (λ (s : Debugger). listens s.mode) same ∙ hears)) refl;
            no_sooner = soonest (map junk leaves.0);
          }
      frame_taken false on leaves =
          let same : launch_if_prepared between.state ≡ launch_if_prepared heard_one =
          ap (λ (x : Session). launch_if_prepared x.state) leaves in
          record {
            items = its_items;
            behind = t.behind;
            heard = its_heard;
            cuts = t.cuts;
            hears = hears_one;
            state = same ∙ sym up_to_frame;
            keeps = subst (λ (b : Bool). Keeps b t.behind between.held)
                (sym (ap (λ (s : Debugger). listens s.mode) same ∙ listens-launched heard_one.mode heard_one ∙ on))
                (ap (λ (x : Session). x.held) leaves);
            no_sooner = λ k below w. t.no_sooner k below (first_frame its_items (before.held ++ take k used) w.2 w.0 w.1 w.3);
          }

    -- one take with its launch
    pub step_taken : (left : List ℕ) → TakesFrame true part used before between ⊎ TakesNone used left before between →
        IsTaken part used before (launched_then between)
    step_taken left (inl t) = frame_taken t (goes_on (heard_one t).mode) refl t.leaves
    step_taken left (inr t) = none_taken left t

  -- of no bytes nothing is heard
  pub no_bytes : (s : Session) → listens s.state.mode ≡ true → IsTaken part [] s s
  no_bytes s on = record {
    items = [];
    behind = s.held;
    heard = [];
    cuts = append-nil s.held;
    hears = tt;
    state = refl;
    keeps = subst (λ (b : Bool). Keeps b s.held s.held) (sym on) refl;
    no_sooner = λ k less h. omega (arith, less);
  }

  -- takes, and then others
  pub taken_onward : (first second : List ℕ) (before between after : Session) → listens between.state.mode ≡ true →
      IsTaken part first before between → IsTaken part second between after → IsTaken part (first ++ second) before after
  taken_onward first second before between after listening one two =
      let held : between.held ≡ one.behind = subst (λ (b : Bool). Keeps b one.behind between.held) listening one.keeps in
      record {
        items = one.items ++ two.items;
        behind = two.behind;
        heard = one.heard ++ two.heard;
        cuts = subst (λ (x : List ℕ). Cuts x (one.items ++ two.items) two.behind) (append_assoc before.held first second)
            (Cuts-append ((before.held ++ first) ++ second) (one.behind ++ second) two.behind one.items two.items
            (Cuts-more (before.held ++ first) second one.behind one.items one.cuts)
            (subst (λ (x : List ℕ). Cuts (x ++ second) two.items two.behind) held two.cuts));
        hears = HearsAll-append one.items two.items one.heard two.heard one.hears two.hears;
        state = two.state ∙ ap (heard_all true part two.heard) one.state ∙ sym (heard_all-append true part one.heard two.heard before.state);
        keeps = two.keeps;
        no_sooner = sooner_by before.held first second one.items two.items one.behind one.cuts one.no_sooner
            (subst (λ (x : List ℕ). (k : ℕ) → k < length second → FrameBehind (x ++ take k second) two.items → ⊥) held two.no_sooner);
      }

  -- all bytes of a chunk are taken, or the session is over before: that is the chunk
  pub taken_heard : (bytes more : List ℕ) (before after : Session) → IsTaken part bytes before after →
      (listens after.state.mode ≡ true → (more ≡ []) × IsPartial after.held) → IsHeard true part (bytes ++ more) before after
  taken_heard bytes more before after t all = by_mode (listens after.state.mode) refl
    where
      whole_cuts : Cuts (before.held ++ (bytes ++ more)) t.items (t.behind ++ more)
      whole_cuts = subst (λ (x : List ℕ). Cuts x t.items (t.behind ++ more)) (append_assoc before.held bytes more)
          (Cuts-more (before.held ++ bytes) more t.behind t.items t.cuts)

      by_mode : (b : Bool) → listens after.state.mode ≡ b → IsHeard true part (bytes ++ more) before after
      by_mode true on =
          let held : after.held ≡ t.behind = subst (λ (b : Bool). Keeps b t.behind after.held) on t.keeps in
          let none : t.behind ++ more ≡ t.behind = ap (λ (x : List ℕ). t.behind ++ x) (all on).0 ∙ append-nil t.behind in
          let same : after.held ≡ t.behind ++ more = held ∙ sym none in
          record {
            items = t.items;
            behind = t.behind ++ more;
            heard = t.heard;
            cuts = whole_cuts;
            hears = t.hears;
            state = t.state;
            holds = subst (λ (b : Bool). Holds b (t.behind ++ more) after.held) (sym on)
                (subst IsPartial same (all on).1, same);
          }
      by_mode false off = record {
        items = t.items;
        behind = t.behind ++ more;
        heard = t.heard;
        cuts = whole_cuts;
        hears = t.hears;
        state = t.state;
        holds = subst (λ (b : Bool). Holds b (t.behind ++ more) after.held) (sym off)
            (subst (λ (b : Bool). Keeps b t.behind after.held) off t.keeps);
      }

  -- a session that does not listen stays as it is at the end of the line
  pub deaf_end : (held : List ℕ) (s : Debugger) → listens s.mode ≡ false → line_end part held s ≡ s
  deaf_end held s deaf = ap (λ (b : Bool). elim b [ true ↦ left part (dropping (length held) s) | false ↦ s ]) deaf

  -- the line ends behind a frame that was just taken
  module _ (first used more : List ℕ) (before middle between : Session) (on_before : listens before.state.mode ≡ true)
      (r : IsTaken part first before middle) (listening : listens middle.state.mode ≡ true)
      (t : TakesFrame true part used middle between) where
    abbrev last : List Item
    last = map junk t.ahead ++ whole t.frame ∷ []

    abbrev last_heard : List Heard
    last_heard = drops t.ahead ++ t.heard ∷ []

    abbrev answer : Debugger
    answer = item true part t.heard (dropping (length t.ahead) middle.state)

    held_is : middle.held ≡ r.behind
    held_is = subst (λ (b : Bool). Keeps b r.behind middle.held) listening r.keeps

    all_heard : launch_if_prepared answer ≡ heard_all true part (r.heard ++ last_heard) before.state
    all_heard =
        sym (up_to_frame used middle between listening t) ∙ ap (heard_all true part last_heard) r.state ∙
        sym (heard_all-append true part r.heard last_heard before.state)

    just_taken : IsJustTaken before.held (first ++ used) (r.items ++ last)
    just_taken shorter missing behind e some c = by_place (cases_lt (length shorter) (length first))
      where
        by_place : (length shorter < length first) ⊎ (length first ≤ length shorter) → ⊥
        by_place (inl low) =
            let front : shorter ≡ take (length shorter) first = front_of_front shorter missing first used (sym e) (omega (arith, low)) in
            r.no_sooner (length shorter) low
            (t.ahead, t.frame, behind, subst (λ (x : List ℕ). Cuts (before.held ++ x) (r.items ++ last) behind) front c)
        by_place (inr high) =
            let j = length shorter - length first in
            let sum : length shorter ≡ length first + j = omega (arith, high) in
            let front : shorter ≡ first ++ take j used =
            sym (take_at shorter missing (length shorter) refl) ∙ ap (take (length shorter)) (sym e) ∙
            ap (λ (n : ℕ). take n (first ++ used)) sum ∙ take-append-add first used j in
            let low : j < length used = omega (arith, high, some, ap length e, length-append first used, length-append shorter missing) in
            let place : before.held ++ (first ++ take j used) ≡ (before.held ++ first) ++ take j used =
            sym (append_assoc before.held first (take j used)) in
            let all : Cuts ((before.held ++ first) ++ take j used) (r.items ++ last) behind =
            subst (λ (x : List ℕ). Cuts x (r.items ++ last) behind) place
            (subst (λ (x : List ℕ). Cuts (before.held ++ x) (r.items ++ last) behind) front c) in
            let found : Cuts (r.behind ++ take j used) last behind =
            cuts_behind ((before.held ++ first) ++ take j used) behind (r.behind ++ take j used) r.items last all
            (Cuts-more (before.held ++ first) (take j used) r.behind r.items r.cuts) in
            t.no_sooner j low (t.ahead, t.frame, behind, subst (λ (x : List ℕ). Cuts (x ++ take j used) last behind) (sym held_is) found)

    all_cuts : Cuts (before.held ++ (first ++ used)) (r.items ++ last) t.behind
    all_cuts = subst (λ (x : List ℕ). Cuts x (r.items ++ last) t.behind) (append_assoc before.held first used)
        (Cuts-append ((before.held ++ first) ++ used) (r.behind ++ used) t.behind r.items last
        (Cuts-more (before.held ++ first) used r.behind r.items r.cuts)
        (subst (λ (x : List ℕ). Cuts (x ++ used) last t.behind) held_is t.cuts))

    cut_at : (held : List ℕ) → Keeps (listens (launch_if_prepared answer).mode) t.behind held →
        IsChunkCutShort true part ((first ++ used) ++ more) (r.items ++ last) before
        (record { held = held; state = launch_if_prepared answer })
    cut_at held keeps = record {
      taken = first ++ used;
      left = more;
      behind = t.behind;
      heard = r.heard ++ last_heard;
      listening = on_before;
      split = refl;
      cuts = all_cuts;
      frame = (r.items ++ map junk t.ahead, t.frame, sym (append_assoc r.items (map junk t.ahead) (whole t.frame ∷ [])));
      just_taken = just_taken;
      hears = HearsAll-append r.items last r.heard last_heard r.hears (hears_one used middle between listening t);
      state = all_heard;
      keeps = keeps;
    }

    abbrev CutsHere : Type 0
    CutsHere = (cut : Session) × IsChunkCutShort true part ((first ++ used) ++ more) (r.items ++ last) before cut ×
        (line_ended part (launched_then between) ≡ line_ended part cut)

    -- bytes that are dropped one by one, and the others at the end
    cut_by : (b : Bool) → goes_on answer.mode ≡ b → Leaves b t.behind answer between → CutsHere
    cut_by true on leaves =
        let l = launch_if_prepared answer in
        let same : launch_if_prepared between.state ≡ dropping (length leaves.0) l =
        ap launch_if_prepared leaves.3 ∙ launches_drop (length leaves.0) answer in
        let hears : listens l.mode ≡ true = listens-launched answer.mode answer ∙ on in
        let sum : l.dropped + length leaves.0 + length between.held ≡ l.dropped + length t.behind =
        omega (arith, length-junk t.behind between.held leaves.0 leaves.1) in
        let ends : line_end part between.held (launch_if_prepared between.state) ≡ line_end part t.behind l =
        ap (line_end part between.held) same ∙
        ap (λ (b : Bool). elim b [
          | true ↦ left part (dropping (length between.held) (dropping (length leaves.0) l))
          | false ↦
              dropping (length leaves.0) l
        ]) hears ∙
        ap (λ (n : ℕ). left part (record l { dropped = n })) sum ∙
        ap (λ (b : Bool). elim b [ true ↦ left part (dropping (length t.behind) l) | false ↦ l ]) (sym hears) in (
          record { held = t.behind; state = l },
          cut_at t.behind (subst (λ (b : Bool). Keeps b t.behind t.behind) (sym hears) refl),
          ap (λ (d : Debugger). record { held = []; state = d }) ends,
        )
    cut_by false off leaves =
        let l = launch_if_prepared answer in
        let deaf : listens l.mode ≡ false = listens-launched answer.mode answer ∙ off in (
          record { held = []; state = l },
          cut_at [] (subst (λ (b : Bool). Keeps b t.behind []) (sym deaf) refl),
          ap (λ (x : Session). line_ended part (launched_then x)) leaves,
        )

    pub cut_here : CutsHere
    cut_here = cut_by (goes_on answer.mode) refl t.leaves

  never : (b : Bool) → b ≡ true → b ≡ false → ⊥
  never true on off = cc
  never false on off = cc

  -- one frame more is taken
  pub front_more : (first used : List ℕ) (s m between t : Session) → TakesFront part first s m → HearsFrame part used m between →
      t ≡ launched_then between → TakesFront part (first ++ used) s t
  front_more first used s m between t front hears is = by_mode (listens s.state.mode) refl front
    where
      by_mode : (b : Bool) → listens s.state.mode ≡ b → EitherBy b (IsTaken part first s m) (m ≡ s) → TakesFront part (first ++ used) s t
      by_mode true on taken =
          subst (λ (b : Bool). EitherBy b (IsTaken part (first ++ used) s t) (t ≡ s)) (sym on)
          (taken_onward first used s m t hears.0 taken
          (subst (λ (x : Session). IsTaken part used m x) (sym is) (step_taken used m between hears.0 [] (inl hears.1))))
      by_mode false off same = absurd (never (listens m.state.mode) hears.0 (ap (λ (x : Session). listens x.state.mode) same ∙ off))

  -- no frame came to wait: the chunk is taken
  pub front_whole : (first used : List ℕ) (s m between t : Session) → TakesFront part first s m → HearsNone used [] m between →
      t ≡ launched_then between → launch_if_prepared m.state ≡ m.state → IsChunk true part (first ++ used) s t
  front_whole first used s m between t front none is still = by_mode (listens s.state.mode) refl front
    where
      stays : listens m.state.mode ≡ false → t ≡ m
      stays off =
          let same : ([] ≡ []) × (between ≡ m) =
          subst (λ (b : Bool). EitherBy b (TakesNone used [] m between) (◌≡◌ {A = List ℕ} [] [] × (between ≡ m))) off none in
          is ∙ ap launched_then same.1 ∙ ap (λ (d : Debugger). record { held = m.held; state = d }) still

      with_none : IsTaken part first s m → (b : Bool) → listens m.state.mode ≡ b → IsHeard true part (first ++ used) s t
      with_none taken true on =
          let n : TakesNone used [] m between =
          subst (λ (b : Bool). EitherBy b (TakesNone used [] m between) (◌≡◌ {A = List ℕ} [] [] × (between ≡ m))) on none in
          let all : IsTaken part (first ++ used) s t = taken_onward first used s m t on taken
          (subst (λ (x : Session). IsTaken part used m x) (sym is) (step_taken used m between on [] (inr n))) in
          subst (λ (l : List ℕ). IsHeard true part l s t) (append-nil (first ++ used))
          (taken_heard (first ++ used) [] s t all (λ hears. (refl, subst IsPartial (sym (ap (λ (x : Session). x.held) is)) n.partial)))
      with_none taken false off =
          subst (λ (x : Session). IsHeard true part (first ++ used) s x) (sym (stays off))
          (taken_heard first used s m taken (λ hears. absurd (never (listens m.state.mode) hears off)))

      by_mode : (b : Bool) → listens s.state.mode ≡ b → EitherBy b (IsTaken part first s m) (m ≡ s) → IsChunk true part (first ++ used) s t
      by_mode true on taken =
          subst (λ (b : Bool). EitherBy b (IsHeard true part (first ++ used) s t) (t ≡ s)) (sym on)
          (with_none taken (listens m.state.mode) refl)
      by_mode false off same =
          subst (λ (b : Bool). EitherBy b (IsHeard true part (first ++ used) s t) (t ≡ s)) (sym off)
          (stays (ap (λ (x : Session). listens x.state.mode) same ∙ off) ∙ same)

  -- the session is over within the chunk
  pub front_over : (bytes more : List ℕ) (s t : Session) → TakesFront part bytes s t → listens t.state.mode ≡ false →
      IsChunk true part (bytes ++ more) s t
  front_over bytes more s t front off = by_mode (listens s.state.mode) refl front
    where
      by_mode : (b : Bool) → listens s.state.mode ≡ b → EitherBy b (IsTaken part bytes s t) (t ≡ s) → IsChunk true part (bytes ++ more) s t
      by_mode true on taken =
          subst (λ (b : Bool). EitherBy b (IsHeard true part (bytes ++ more) s t) (t ≡ s)) (sym on)
          (taken_heard bytes more s t taken (λ hears. absurd (never (listens t.state.mode) hears off)))
      by_mode false deaf same = subst (λ (b : Bool). EitherBy b (IsHeard true part (bytes ++ more) s t) (t ≡ s)) (sym deaf) same

  -- it is cut short behind a frame
  pub front_cut : (first used more : List ℕ) (s m between t : Session) → TakesFront part first s m → HearsFrame part used m between →
      t ≡ launched_then between → IsCutShort part ((first ++ used) ++ more) s t
  front_cut first used more s m between t front hears is = by_mode (listens s.state.mode) refl front
    where
      by_mode : (b : Bool) → listens s.state.mode ≡ b → EitherBy b (IsTaken part first s m) (m ≡ s) →
          IsCutShort part ((first ++ used) ++ more) s t
      by_mode true on taken =
          let cut = cut_here first used more s m between on taken hears.0 hears.1 in (
            taken.items ++ (map junk hears.1.ahead ++ whole hears.1.frame ∷ []),
            cut.0,
            cut.1,
            ap (line_ended part) is ∙ cut.2,
          )
      by_mode false off same = absurd (never (listens m.state.mode) hears.0 (ap (λ (x : Session). listens x.state.mode) same ∙ off))

  -- before any byte
  pub front_none : (s : Session) → TakesFront part [] s s
  front_none s = by_mode (listens s.state.mode) refl
    where
      by_mode : (b : Bool) → listens s.state.mode ≡ b → TakesFront part [] s s
      by_mode true on = subst (λ (b : Bool). EitherBy b (IsTaken part [] s s) (s ≡ s)) (sym on) (no_bytes s on)
      by_mode false off = subst (λ (b : Bool). EitherBy b (IsTaken part [] s s) (s ≡ s)) (sym off) refl
