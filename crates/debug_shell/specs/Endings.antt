-- How a script ends.
use Rattle.std.specs.Prelude.{◌≡◌, ◌≤◌, ◌<◌, ◌⊎◌, ℕ, List, [], ◌∷◌, ◌++◌, length, All, Option, Some}
use Rattle.std.specs.Io.KnownBytes.{Consumes, IsAtEnd}
use Rattle.ice_base.specs.Counts.{Rose}
use Rattle.host_session.specs.Standing.{Hosted}
use Rattle.host_session.specs.Words.{Words}
use Rattle.shell_spec.specs.Text.{IsCut, IsEnded, IsOpen, joined, with_last}
use Rattle.debug_shell.specs.Printing.{Gains, Outside, Prints}
use Rattle.debug_shell.specs.Transcript.{Runs, RunsAll}
use Rattle.debug_shell.specs.declared.script_end.After.{After}
use Rattle.debug_shell.specs.declared.script_end.ScriptEnd.{ScriptEnd}
use Rattle.debug_shell.specs.declared.script_end.ScriptEnd.TheVariants.{Done, Read, Write, Link, TooLong}

-- the most bytes of a script
abbrev pub input_limit : ℕ
input_limit = 67108864

-- the most bytes of one read
abbrev pub chunk_limit : ℕ
chunk_limit = 512

-- a host, the source of its script and the sink of its texts
pub record Scene (L : Type 0) : Type 0 where
  pub host : Hosted L
  pub source : Outside
  pub sink : Outside

abbrev pub scene : {L : Type 0} → Hosted L → Option (List ℕ) → ℕ → Option (List ℕ) → ℕ → Scene L
scene host left source_faults written sink_faults = record {
  host = host;
  source = record { bytes = left; faults = source_faults };
  sink = record { bytes = written; faults = sink_faults };
}

-- of the bytes read, these lines were run, and none ended the script
pub record RunsLines {L : Type 0} (words : Words L) (before after : Scene L) (lines : List (List ℕ)) : Type 0 where
  pub text : List ℕ
  pub runs : RunsAll words lines before.host text after.host
  pub gains : Gains before.sink after.sink text

-- these bytes were read, and the lines that ended in them were run
pub record RunsRead {L : Type 0} (words : Words L) (before after : Scene L) (read : List ℕ) : Type 0 where
  pub lines : List (List ℕ)
  pub behind : List ℕ
  pub cut : IsCut read lines behind
  pub runs : RunsLines words before after lines

-- the source gave its end, and every line was run, a last one with no end too
pub record Finishes {L : Type 0} (words : Words L) (before after : Scene L) : Type 0 where
  pub read : List ℕ
  pub lines : List (List ℕ)
  pub behind : List ℕ
  pub takes : Consumes before.source.bytes after.source.bytes read
  pub limit : length read ≤ input_limit
  pub end : IsAtEnd after.source.bytes
  pub still : after.source.faults ≡ before.source.faults
  pub cut : IsCut read lines behind
  pub runs : RunsLines words before after (with_last lines behind)

-- the line has its end; or it is the last of the source, and has none
abbrev pub IsLine : Outside → (line behind : List ℕ) → Type 0
IsLine source line behind = IsEnded line ⊎ (IsOpen line × (behind ≡ []) × IsAtEnd source.bytes)

-- the script ended at a line, behind others whose texts were put; what one read brought behind it was not looked at
pub record Stops {L : Type 0} (words : Words L) (before after : Scene L) (end : ScriptEnd) : Type 0 where
  pub lines : List (List ℕ)
  pub line : List ℕ
  pub behind : List ℕ
  pub takes : Consumes before.source.bytes after.source.bytes (joined lines ++ line ++ behind)
  pub limit : length (joined lines ++ line ++ behind) ≤ input_limit
  pub short : length behind < chunk_limit
  pub still : after.source.faults ≡ before.source.faults
  pub ended : All IsEnded lines
  pub is_line : IsLine after.source line behind
  pub middle : Hosted L
  pub first : List ℕ
  pub text : List ℕ
  pub way : After
  pub runs_before : RunsAll words lines before.host first middle
  pub runs : Runs words line middle text after.host way
  pub at : Outside
  pub gains : Gains before.sink at first
  pub prints : Prints way (Some end) at after.sink text

-- the source failed
pub record CannotRead {L : Type 0} (words : Words L) (before after : Scene L) : Type 0 where
  pub read : List ℕ
  pub takes : Consumes before.source.bytes after.source.bytes read
  pub limit : length read ≤ input_limit
  pub rose : Rose before.source.faults after.source.faults
  pub runs : RunsRead words before after read

-- the source gave one byte more than it may
pub record IsTooLong {L : Type 0} (words : Words L) (before after : Scene L) : Type 0 where
  pub read : List ℕ
  pub byte : ℕ
  pub takes : Consumes before.source.bytes after.source.bytes (read ++ byte ∷ [])
  pub limit : length read ≡ input_limit
  pub still : after.source.faults ≡ before.source.faults
  pub runs : RunsRead words before after read

-- the script ended so
abbrev pub EndsBy : {L : Type 0} → Words L → Scene L → Scene L → ScriptEnd → Type 0
EndsBy words before after Done = Finishes words before after ⊎ Stops words before after Done
EndsBy words before after Read = CannotRead words before after
EndsBy words before after Write = Stops words before after Write
EndsBy words before after Link = Stops words before after Link
EndsBy words before after TooLong = IsTooLong words before after
