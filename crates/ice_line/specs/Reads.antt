-- What is read of a source.
use Rattle.std.specs.Prelude.{◌≡◌, ◌<◌, ◌≤◌, ℕ, List, [], ◌++◌, Option, length, take}
use Rattle.std.specs.Io.KnownBytes.{Consumes, IsAtEnd}
use Rattle.line_spec.specs.Frames.{IsBytes}
use Rattle.ice_base.specs.Counts.{Rose}
use Rattle.ice_line.specs.Lines.{Line}
use Rattle.ice_line.specs.declared.reading.Coming.{Coming}
use Rattle.ice_line.specs.declared.reading.Coming.TheVariants.{Bytes, End as Over, Fault as Fails}
use Rattle.ice_line.specs.declared.reading.TheConstants.{CHUNK, INPUT_LIMIT}

-- the most bytes of the line that one session takes
abbrev pub input_limit : ℕ
input_limit = INPUT_LIMIT

-- some bytes are taken, at most so many, and stand at the front of the buffer; or none is, at the end or at a fault with its cause
abbrev pub TakesNext : Option (List ℕ) → Option (List ℕ) → ℕ → ℕ → ℕ → List ℕ → Coming → Type 0
TakesNext before after faults faults_after most buffer (Bytes count) =
    (0 < count) × (count ≤ most) × Consumes before after (take count buffer) × (faults_after ≡ faults)
TakesNext before after faults faults_after most buffer Over = Consumes before after [] × IsAtEnd after × (faults_after ≡ faults)
TakesNext before after faults faults_after most buffer Fails = Consumes before after [] × Rose faults faults_after

-- so many bytes were read; those that were read behind them are not looked at, less than one read brings
pub record IsRead (before after : Line) (bytes extra : List ℕ) : Type 0 where
  pub consumed : Consumes before.left after.left (bytes ++ extra)
  pub most : length bytes ≤ input_limit
  pub few : length extra < CHUNK
  pub valid : IsBytes bytes
