-- What a receiver holds: junk bytes are dropped, up to a whole frame or to less than one.
use Rattle.std.specs.Prelude.{◌≡◌, ℕ, ◌+◌, ◌-◌, ◌%◌, ◌^◌, ◌≤◌, Bool, List, [], ◌∷◌, length, drop, ◌⊎◌, MatchBool, Option, None, Some}
use Rattle.line_spec.specs.declared.limits.TheConstants.{FRAME_LIMIT}
use Rattle.line_spec.specs.Frames.{Frame, Begins, IsPartial}
use Rattle.line_spec.specs.Cut.{Item, whole, junk, Cuts}
use Rattle.ice_frame.specs.Scans.{Kept, scan_of}
use Rattle.ice_recv.specs.Received.{Received}

-- the most bytes of a frame
abbrev pub frame_limit : ℕ
frame_limit = FRAME_LIMIT

-- the most bytes that one feed considers
abbrev pub feed_limit : ℕ
feed_limit = 65536

-- a whole frame stands at the front
abbrev pub Waits : List ℕ → Type 0
Waits held = (frame : Frame) × (behind : List ℕ) × Begins frame held behind

-- a whole frame stands at the front, or the bytes are less than one
abbrev pub IsSettled : List ℕ → Type 0
IsSettled held = Waits held ⊎ IsPartial held

-- which of these it is
abbrev pub Tells : Bool → List ℕ → Type 0
Tells waits held = MatchBool waits (Waits held) (IsPartial held)

-- a frame of so many bytes stands at the front
abbrev pub StandsAt : ℕ → List ℕ → Type 0
StandsAt size held = (frame : Frame) × Begins frame held (drop size held) × (size ≤ length held)

-- the size of the frame that waits; where none waits, the scan stands for what is held
abbrev pub Stands : Option ℕ → Kept → List ℕ → Type 0
Stands (Some size) scan held = StandsAt size held
Stands None scan held = IsPartial held × (scan ≡ scan_of held)

-- no item is a frame
abbrev pub OnlyJunk : List Item → Type 0
OnlyJunk [] = Unit {0}
OnlyJunk (whole frame ∷ items) = ⊥
OnlyJunk (junk byte ∷ items) = OnlyJunk items

-- the cut of the bytes has a frame
pub record HasFrame (bytes : List ℕ) : Type 0 where
  pub items : List Item
  pub behind : List ℕ
  pub cuts : Cuts bytes items behind
  pub only : OnlyJunk items
  pub waits : Waits behind

-- a count of dropped bytes with so many more
abbrev pub counted : ℕ → ℕ → ℕ
counted dropped more = (dropped + more) % 2 ^ 64

-- of the bytes the junk ahead of the first frame, or of the rest, is dropped and counted, and what is behind is held
pub record Drops (bytes : List ℕ) (dropped : ℕ) (after : Received) : Type 0 where
  pub items : List Item
  pub cuts : Cuts bytes items after.held
  pub only : OnlyJunk items
  pub settled : IsSettled after.held
  pub count : after.dropped ≡ counted dropped (length items)

-- by how much a count of dropped bytes rose, modulo 2^64
abbrev pub risen : ℕ → ℕ → ℕ
risen before after = (after + (2 ^ 64 - before)) % 2 ^ 64
