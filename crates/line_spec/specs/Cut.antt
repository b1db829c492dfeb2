-- How a stream of bytes is cut: a frame where one begins, else one junk byte, up to a rest that may still become a frame.
use Rattle.std.specs.Prelude.{◌≡◌, ℕ, List, [], ◌∷◌}
use Rattle.line_spec.specs.Frames.{Frame, Begins, IsPartial, IsJunk}

-- what a stream is cut into
pub data Item : Type 0 where
  whole : Frame → Item
  junk : ℕ → Item

-- the bytes are these items, and then what is behind them
abbrev pub Cuts : List ℕ → List Item → List ℕ → Type 0
Cuts bytes [] behind = bytes ≡ behind
Cuts bytes (whole frame ∷ items) behind = (after : List ℕ) × Begins frame bytes after × Cuts after items behind
Cuts bytes (junk byte ∷ items) behind = (after : List ℕ) × (bytes ≡ byte ∷ after) × IsJunk bytes × Cuts after items behind

-- the bytes are cut into these items, and the rest is less than a frame
pub record IsCut (bytes : List ℕ) (items : List Item) (rest : List ℕ) : Type 0 where
  pub cuts : Cuts bytes items rest
  pub partial : IsPartial rest
