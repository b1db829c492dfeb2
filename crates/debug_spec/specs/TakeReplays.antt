-- A replay as it goes on: takes, each followed by its launch and by what happens between two items.
use Rattle.std.specs.Prelude.{◌≡◌, ℕ, ◌<◌, Bool, true, List, [], ◌∷◌, ◌++◌, length, take, map}
use Rattle.part_spec.specs.Chip.{Chip}
use Rattle.line_spec.specs.Frames.{Frame, IsBytes, IsPartial}
use Rattle.line_spec.specs.Cut.{Item, whole, junk, Cuts}
use Rattle.line_spec.specs.Hearing.{Heard, HearsAll}
use Rattle.debug_spec.specs.Device.{Device}
use Rattle.debug_spec.specs.Debugger.{opened, listens}
use Rattle.debug_spec.specs.Running.{line_end}
use Rattle.debug_spec.specs.Replay.{settled, over, IsReplay, IsReplayCutShort}
use Rattle.debug_spec.specs.Schedule.{Session, Keeps}
use Rattle.debug_spec.specs.Take.{TakesFrame, IsTake, launched_then}

-- behind these items a frame waits
abbrev pub FrameBehind : List ℕ → List Item → Type 0
FrameBehind bytes items =
    (ahead : List ℕ) × (frame : Frame) × (behind : List ℕ) × Cuts bytes (items ++ (map junk ahead ++ whole frame ∷ [])) behind

-- of the bytes held and these some items are heard, with what happens between them; and no more is taken than was
-- needed: behind a shorter front of these bytes no further frame waited
pub record IsReplayed (planted : Bool) (part : Chip) (stops bytes : List ℕ) (before after : Session) : Type 0 where
  pub items : List Item
  pub behind : List ℕ
  pub heard : List Heard
  pub cuts : Cuts (before.held ++ bytes) items behind
  pub hears : HearsAll items heard
  pub state : after.state ≡ over planted part stops heard before.state
  pub keeps : Keeps (listens after.state.mode) behind after.held
  pub no_sooner : (k : ℕ) → k < length bytes → FrameBehind (before.held ++ take k bytes) items → ⊥

-- what happens between two items
abbrev pub settled_then : Bool → Chip → List ℕ → Session → Session
settled_then planted part stops s = record { held = s.held; state = settled planted part stops s.state }

-- a take with its launch, and what happens then, goes on with the replay, and so do two one after the other; where no frame waits,
-- the end of the line makes the replay whole
pub record ReplaysGoOn : Type 0 where
  pub by_take : (planted : Bool) (part : Chip) (stops used left : List ℕ) (before between : Session) → listens before.state.mode ≡ true →
      settled planted part stops before.state ≡ before.state → IsTake planted part used left before between →
      let after = settled_then planted part stops (launched_then between) in
      IsReplayed planted part stops used before after × (settled planted part stops after.state ≡ after.state)
  pub onward : (planted : Bool) (part : Chip) (stops first second : List ℕ) (before between after : Session) →
      listens between.state.mode ≡ true →
      IsReplayed planted part stops first before between → IsReplayed planted part stops second between after →
      IsReplayed planted part stops (first ++ second) before after
  pub ends : (planted : Bool) (part : Chip) (stops prog bytes : List ℕ) (device : Device) (after : Session) → IsBytes bytes →
      IsReplayed planted part stops bytes (record { held = []; state = opened part prog device }) after →
      (listens after.state.mode ≡ true → IsPartial after.held) → settled planted part stops after.state ≡ after.state →
      IsReplay planted part stops prog device bytes (settled planted part stops (line_end part after.held after.state))
  pub cut_short : (planted : Bool) (part : Chip) (stops prog bytes used left : List ℕ) (device : Device) (before between : Session) →
      (r : IsReplayed planted part stops bytes (record { held = []; state = opened part prog device }) before) →
      listens before.state.mode ≡ true →
      settled planted part stops before.state ≡ before.state → (t : TakesFrame planted part used before between) →
      let after = settled_then planted part stops (launched_then between) in
      (cut : IsReplayCutShort planted part stops prog device ((bytes ++ used) ++ left)
      (r.items ++ (map junk t.ahead ++ whole t.frame ∷ [])) (settled planted part stops (line_end part after.held after.state))) ×
      (cut.left ≡ left)
