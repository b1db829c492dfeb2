-- What a scan answers.
use Rattle.std.specs.Prelude.{◌≡◌, ℕ, ◌≤◌, Bool, true, false, List}
use Rattle.std.specs.Int.{byte_at}
use Rattle.line_spec.specs.Frames.{Frame, IsFrame, IsPartial, IsJunk, body_limit, bytes_of}
use Rattle.ice_frame.specs.Scans.{header_byte}
use Rattle.ice_frame.specs.declared.scan.Scanned.{Scanned}
use Rattle.ice_frame.specs.declared.scan.Scanned.TheVariants.{More, Whole, Junk}

-- the bytes are a frame
abbrev pub IsWhole : List ℕ → Type 0
IsWhole bytes = (frame : Frame) × IsFrame frame × (bytes ≡ bytes_of frame)

-- the answer says what the bytes are
abbrev pub IsScanned : List ℕ → Scanned → Type 0
IsScanned bytes More = IsPartial bytes
IsScanned bytes Whole = IsWhole bytes
IsScanned bytes Junk = IsJunk bytes

-- the byte at that place of the header, and the size so far, are those of a frame
abbrev pub FitsHeader : ℕ → ℕ → ℕ → Type 0
FitsHeader place size byte = (byte ≡ header_byte place byte) × (size ≤ body_limit)

-- a byte of the header goes on, or is wrong
abbrev pub TellsHeader : ℕ → ℕ → ℕ → Scanned → Type 0
TellsHeader place size byte More = FitsHeader place size byte
TellsHeader place size byte Whole = ⊥
TellsHeader place size byte Junk = FitsHeader place size byte → ⊥

-- the first byte of the check goes on, the second ends the frame, or it is wrong
abbrev pub TellsCheck : ℕ → Bool → ℕ → Scanned → Type 0
TellsCheck register true byte More = byte ≡ byte_at 0 register
TellsCheck register true byte Whole = ⊥
TellsCheck register true byte Junk = byte ≡ byte_at 0 register → ⊥
TellsCheck register false byte More = ⊥
TellsCheck register false byte Whole = byte ≡ byte_at 1 register
TellsCheck register false byte Junk = byte ≡ byte_at 1 register → ⊥
