-- Takes of a chunk are together the chunk.
use Rattle.std.proofs.Common.{◌≡◌, ℕ, suc, ◌+◌, ◌⊎◌, inl, inr, Bool, true, false, List, [], ◌∷◌, ◌++◌, length, map, refl, sym, ◌∙◌, ap}
use Rattle.std.proofs.Common.{subst, arith, append-nil, append_assoc}
use Rattle.std.proofs.lemmas.Bool.{true≢false}
use Rattle.part_spec.specs.Chip.{Chip}
use Rattle.line_spec.specs.Frames.{IsPartial}
use Rattle.line_spec.specs.Cut.{whole, junk, Cuts}
use Rattle.line_spec.specs.Hearing.{Heard, dropped, HearsAll}
use Rattle.line_spec.proofs.Cuts.{Cuts-more, Cuts-append}
use Rattle.debug_spec.specs.Device.{launched}
use Rattle.debug_spec.specs.Debugger.{Mode, launching, leaving, closed, Debugger, listens, dropping}
use Rattle.debug_spec.specs.Running.{launch_if_prepared}
use Rattle.debug_spec.specs.Commands.{heard_by, item, item_launched}
use Rattle.debug_spec.specs.Schedule.{Session, heard_all, Keeps, IsPiece, IsHeard}
use Rattle.debug_spec.specs.Take.{goes_on, Leaves, TakesFrame, TakesNone, launched_then, AreTakes}
use Rattle.debug_spec.specs.TakeLaws.{TakesMakeChunks}
use Rattle.debug_spec.proofs.Soundness.{at}
use Rattle.debug_spec.proofs.Sessions.{EitherBy}
use Rattle.debug_spec.proofs.Chunks.{HearsAll-append, heard_all-append, parts_make_chunks}
use Rattle.debug_spec.proofs.TakeLemmas.{launch_told, launches_drop}

-- behind a launch the debugger listens, where the session goes on
pub listens-launched : (m : Mode) (s : Debugger) → listens (launch_if_prepared (at m s)).mode ≡ goes_on m
listens-launched (launching number) s = by_ok (launched s.device).ok
  where
    by_ok : (b : Bool) → listens (launch_told b number (at (launching number) s)).mode ≡ true
    by_ok true = refl
    by_ok false = refl
listens-launched _ s = refl

-- a launch that was answered is not answered again
pub launch_once : (m : Mode) (s : Debugger) → launch_if_prepared (launch_if_prepared (at m s)) ≡ launch_if_prepared (at m s)
launch_once (launching number) s = by_ok (launched s.device).ok
  where
    by_ok : (b : Bool) → launch_if_prepared (launch_told b number (at (launching number) s)) ≡ launch_told b number
        (at (launching number) s)
    by_ok true = refl
    by_ok false = refl
launch_once _ s = refl

-- where none is prepared, nothing is launched
pub no_launch : (m : Mode) (s : Debugger) → ((number : ℕ) → m ≡ launching number → ⊥) → launch_if_prepared (at m s) ≡ at m s
no_launch (launching number) s none = absurd (none number refl)
no_launch _ s none = refl

pub listening_launch : (m : Mode) (s : Debugger) → listens m ≡ true → launch_if_prepared (at m s) ≡ at m s
listening_launch (launching number) s h = absurd (true≢false (sym h))
listening_launch _ s h = refl

-- junk is heard as so many dropped bytes
abbrev pub drops : List ℕ → List Heard
drops [] = []
drops (byte ∷ bytes) = dropped 1 ∷ drops bytes

pub hears-drops : (bytes : List ℕ) → HearsAll (map junk bytes) (drops bytes)
hears-drops [] = tt
hears-drops (byte ∷ bytes) = (refl, hears-drops bytes)

module _ (planted : Bool) (part : Chip) where
  pub item_dropped : (m : Mode) (s : Debugger) → listens m ≡ true → item_launched planted part (dropped 1) (at m s) ≡ dropping 1 (at m s)
  item_dropped (launching number) s h = absurd (true≢false (sym h))
  item_dropped leaving s h = absurd (true≢false (sym h))
  item_dropped (closed restored) s h = absurd (true≢false (sym h))
  item_dropped _ s h = refl

  pub heard-drops : (bytes : List ℕ) (s : Debugger) → listens s.mode ≡ true →
      heard_all planted part (drops bytes) s ≡ dropping (length bytes) s
  heard-drops [] s h = ap (λ (n : ℕ). record s { dropped = n }) (omega arith)
  heard-drops (byte ∷ bytes) s h =
      let sum : s.dropped + 1 + length bytes ≡ s.dropped + suc (length bytes) = omega arith in
      ap (heard_all planted part (drops bytes)) (item_dropped s.mode s h) ∙ heard-drops bytes (dropping 1 s) h ∙
      ap (λ (n : ℕ). record s { dropped = n }) sum

  pub item_then : (heard : Heard) (s : Debugger) → (b : Bool) → b ≡ true →
      elim b [ true ↦ launch_if_prepared (heard_by planted part heard s) | false ↦ s ] ≡
      launch_if_prepared (elim b [ true ↦ heard_by planted part heard s | false ↦ s ])
  item_then heard s true h = refl
  item_then heard s false h = absurd (true≢false (sym h))

  module _ (used : List ℕ) (before between : Session) (listening : listens before.state.mode ≡ true) where
    none_part : (left : List ℕ) → TakesNone used left before between → IsPiece planted part used before (launched_then between)
    none_part left t =
        let hears : listens between.state.mode ≡ true = ap (λ (s : Debugger). listens s.mode) t.state ∙ listening in
        let still : launch_if_prepared between.state ≡ between.state = listening_launch between.state.mode between.state hears in
        record {
          items = map junk t.ahead;
          behind = between.held;
          heard = drops t.ahead;
          cuts = t.cuts;
          hears = hears-drops t.ahead;
          state = still ∙ t.state ∙ sym (heard-drops t.ahead before.state listening);
          keeps = subst (λ (b : Bool). Keeps b between.held between.held) (sym (ap (λ (s : Debugger). listens s.mode) still ∙ hears)) refl;
        }

    module _ (t : TakesFrame planted part used before between) where
      -- the debugger once it has heard the frame
      abbrev answered_one : Debugger
      answered_one = item planted part t.heard (dropping (length t.ahead) before.state)

      up_to_frame : heard_all planted part (drops t.ahead ++ t.heard ∷ []) before.state ≡ launch_if_prepared answered_one
      up_to_frame =
          heard_all-append planted part (drops t.ahead) (t.heard ∷ []) before.state ∙
          ap (heard_all planted part (t.heard ∷ [])) (heard-drops t.ahead before.state listening) ∙
          item_then t.heard (dropping (length t.ahead) before.state) (listens before.state.mode) listening

      hears_frame : HearsAll (map junk t.ahead ++ whole t.frame ∷ []) (drops t.ahead ++ t.heard ∷ [])
      hears_frame = HearsAll-append (map junk t.ahead) (whole t.frame ∷ []) (drops t.ahead) (t.heard ∷ []) (hears-drops t.ahead) (
        t.hears,
        tt,
      )

      frame_part : (b : Bool) → goes_on answered_one.mode ≡ b → Leaves b t.behind answered_one between →
          IsPiece planted part used before (launched_then between)
      frame_part true on leaves =
          let hears : listens (launch_if_prepared answered_one).mode ≡ true = listens-launched answered_one.mode answered_one ∙ on in
          let state : launch_if_prepared between.state ≡ dropping (length leaves.0) (launch_if_prepared answered_one) =
          ap launch_if_prepared leaves.3 ∙ launches_drop (length leaves.0) answered_one in
          record {
            items = (map junk t.ahead ++ whole t.frame ∷ []) ++ map junk leaves.0;
            behind = between.held;
            heard = (drops t.ahead ++ t.heard ∷ []) ++ drops leaves.0;
            cuts = Cuts-append (before.held ++ used) t.behind between.held (map junk t.ahead ++ whole t.frame ∷ []) (map junk leaves.0)
                t.cuts leaves.1;
            hears = HearsAll-append (map junk t.ahead ++ whole t.frame ∷ []) (map junk leaves.0) (drops t.ahead ++ t.heard ∷ [])
                (drops leaves.0)
                hears_frame (hears-drops leaves.0);
            state = state ∙ sym (heard-drops leaves.0 (launch_if_prepared answered_one) hears) ∙
                ap (heard_all planted part (drops leaves.0)) (sym up_to_frame) ∙
                sym (heard_all-append planted part (drops t.ahead ++ t.heard ∷ []) (drops leaves.0) before.state);
            keeps = subst (λ (b : Bool). Keeps b between.held between.held) (sym (ap (λ (s : Debugger). listens s.mode) state ∙ hears))
                refl;
          }
      frame_part false on leaves =
          let state : launch_if_prepared between.state ≡ launch_if_prepared answered_one =
          ap (λ (x : Session). launch_if_prepared x.state) leaves in
          record {
            items = map junk t.ahead ++ whole t.frame ∷ [];
            behind = t.behind;
            heard = drops t.ahead ++ t.heard ∷ [];
            cuts = t.cuts;
            hears = hears_frame;
            state = state ∙ sym up_to_frame;
            keeps = subst (λ (b : Bool). Keeps b t.behind between.held)
                (sym (ap (λ (s : Debugger). listens s.mode) state ∙ listens-launched answered_one.mode answered_one ∙ on))
                (ap (λ (x : Session). x.held) leaves);
          }

    take_part : (left : List ℕ) → TakesFrame planted part used before between ⊎ TakesNone used left before between →
        IsPiece planted part used before (launched_then between)
    take_part left (inl t) = frame_part t (goes_on (answered_one t).mode) refl t.leaves
    take_part left (inr t) = none_part left t

  -- behind the session's end nothing is heard
  part_more : (first second : List ℕ) (before after : Session) → IsPiece planted part first before after →
      listens after.state.mode ≡ false →
      IsPiece planted part (first ++ second) before after
  part_more first second before after one deaf = record {
    items = one.items;
    behind = one.behind ++ second;
    heard = one.heard;
    cuts = subst (λ (x : List ℕ). Cuts x one.items (one.behind ++ second)) (append_assoc before.held first second)
        (Cuts-more (before.held ++ first) second one.behind one.items one.cuts);
    hears = one.hears;
    state = one.state;
    keeps = subst (λ (b : Bool). Keeps b (one.behind ++ second) after.held) (sym deaf)
        (subst (λ (b : Bool). Keeps b one.behind after.held) deaf one.keeps);
  }

  deaf_takes : (pieces : List (List ℕ)) (chunk : List ℕ) (before after : Session) → listens before.state.mode ≡ false →
      launch_if_prepared before.state ≡ before.state → AreTakes planted part pieces chunk before after → after ≡ before
  deaf_takes [] chunk before after deaf still h = h.0
  deaf_takes (used ∷ more) chunk before after deaf still h =
      let left = h.0 in
      let between = h.1 in
      let same : (left ≡ []) × (between ≡ before) =
      subst (λ (b : Bool). EitherBy b (TakesFrame planted part used before between ⊎ TakesNone used left before between) ((left ≡ []) ×
      (between ≡ before))) deaf h.3 in
      let then_same : launched_then between ≡ before =
      ap launched_then same.1 ∙ ap (λ (s : Debugger). record { held = before.held; state = s }) still in
      deaf_takes more left before after deaf still (subst (λ (x : Session). AreTakes planted part more left x after) then_same h.4)

  abbrev IsWhole : List ℕ → Session → Session → Type 0
  IsWhole chunk before after = IsPiece planted part chunk before after × (listens after.state.mode ≡ true → IsPartial after.held)

  takes_part : (pieces : List (List ℕ)) (chunk : List ℕ) (before after : Session) → listens before.state.mode ≡ true →
      AreTakes planted part pieces chunk before after → IsWhole chunk before after
  takes_part [] chunk before after listening h =
      let nothing : chunk ≡ [] = (h.1 listening).0 in
      let held : after.held ≡ before.held ++ chunk =
      ap (λ (x : Session). x.held) h.0 ∙ sym (append-nil before.held) ∙ ap (λ (t : List ℕ). before.held ++ t) (sym nothing) in (
        record {
          items = [];
          behind = before.held ++ chunk;
          heard = [];
          cuts = refl;
          hears = tt;
          state = ap (λ (x : Session). x.state) h.0;
          keeps = subst (λ (b : Bool). Keeps b (before.held ++ chunk) after.held)
              (sym (ap (λ (x : Session). listens x.state.mode) h.0 ∙ listening)) held;
        },
        λ more. subst IsPartial (sym (ap (λ (x : Session). x.held) h.0)) (h.1 listening).1,
      )
  takes_part (used ∷ more) chunk before after listening h =
      by_listens (listens (launched_then h.1).state.mode) refl (λ on. takes_part more h.0 (launched_then h.1) after on h.4)
    where
      first : IsPiece planted part used before (launched_then h.1)
      first = take_part used before h.1 listening h.0
          (subst (λ (b : Bool). EitherBy b (TakesFrame planted part used before h.1 ⊎ TakesNone used h.0 before h.1) ((h.0 ≡ []) ×
          (h.1 ≡ before))) listening h.3)

      by_listens : (b : Bool) → listens (launched_then h.1).state.mode ≡ b →
          (listens (launched_then h.1).state.mode ≡ true → IsWhole h.0 (launched_then h.1) after) → IsWhole chunk before after
      by_listens true on later =
          let rest = later on in (
            subst (λ (x : List ℕ). IsPiece planted part x before after) (sym h.2)
                (parts_make_chunks.onward planted part used h.0 before (launched_then h.1) after first on rest.0),
            rest.1,
          )
      by_listens false off later =
          let same : after ≡ launched_then h.1 =
          deaf_takes more h.0 (launched_then h.1) after off (launch_once h.1.state.mode h.1.state) h.4 in (
            subst (λ (x : List ℕ). IsPiece planted part x before after) (sym h.2)
                (subst (λ (x : Session). IsPiece planted part (used ++ h.0) before x) (sym same)
                (part_more used h.0 before (launched_then h.1) first off)),
            λ on. absurd (true≢false (sym on ∙ ap (λ (x : Session). listens x.state.mode) same ∙ off)),
          )

  takes_chunk : (b : Bool) (pieces : List (List ℕ)) (chunk : List ℕ) (before after : Session) → listens before.state.mode ≡ b →
      ((number : ℕ) → before.state.mode ≡ launching number → ⊥) → AreTakes planted part pieces chunk before after →
      EitherBy b (IsHeard planted part chunk before after) (after ≡ before)
  takes_chunk true pieces chunk before after listening none h =
      let found = takes_part pieces chunk before after listening h in
      subst (λ (b : Bool). EitherBy b (IsHeard planted part chunk before after) (after ≡ before)) listening
      (parts_make_chunks.whole planted part chunk before after listening found.0 found.1)
  takes_chunk false pieces chunk before after listening none h =
      deaf_takes pieces chunk before after listening (no_launch before.state.mode before.state none) h

pub takes_make_chunks : TakesMakeChunks
takes_make_chunks planted part pieces chunk before after none h =
    takes_chunk planted part (listens before.state.mode) pieces chunk before after refl none h
