-- Frames of the debug line: 1B, number, size, 0E, body, check, each number low byte first (AVR067, 'Message format').
use Rattle.std.specs.Prelude.{◌≡◌, ℕ, ◌<◌, ◌≤◌, ◌^◌, List, ◌∷◌, ◌++◌, length, slice_index}
use Rattle.std.specs.Int.{w16, w32, to_le_bytes}
use Rattle.line_spec.specs.Check.{check}
use Rattle.line_spec.specs.declared.limits.TheConstants.{BODY_LIMIT}

-- the most bytes that a body has
abbrev pub body_limit : ℕ
body_limit = BODY_LIMIT

-- each is a byte
abbrev pub IsBytes : List ℕ → Type 0
IsBytes bytes = (i : ℕ) → slice_index bytes i < 256

-- a frame: its sequence number and its body
pub record Frame : Type 0 where
  pub number : ℕ
  pub body : List ℕ

-- the number has two bytes, and the body is within the limit
pub record IsFrame (frame : Frame) : Type 0 where
  pub number : frame.number < 2 ^ 16
  pub body : length frame.body ≤ body_limit
  pub bytes : IsBytes frame.body

-- the bytes of a frame but for its check
unfoldable pub unchecked : Frame → List ℕ
unchecked frame = 0x1B ∷ to_le_bytes w16 frame.number ++ to_le_bytes w32 (length frame.body) ++ 0x0E ∷ frame.body

-- the bytes of a frame
unfoldable pub bytes_of : Frame → List ℕ
bytes_of frame = unchecked frame ++ to_le_bytes w16 (check (unchecked frame))

-- the bytes begin with the frame, and are followed by others
pub record Begins (frame : Frame) (bytes behind : List ℕ) : Type 0 where
  pub valid : IsFrame frame
  pub split : bytes ≡ bytes_of frame ++ behind

-- the bytes are less than the whole of some frame; so is the empty list
pub record IsPartial (bytes : List ℕ) : Type 0 where
  pub frame : Frame
  pub missing : List ℕ
  pub valid : IsFrame frame
  pub some_missing : 0 < length missing
  pub split : bytes_of frame ≡ bytes ++ missing

-- however the bytes go on, no frame stands at their front
abbrev pub IsJunk : List ℕ → Type 0
IsJunk bytes = (frame : Frame) (more behind : List ℕ) → IsFrame frame → bytes ++ more ≡ bytes_of frame ++ behind → ⊥
