-- How a script ends: what was read of its source, which lines were run, and what was put.
use Rattle.std.specs.Prelude.{◌≡◌, ◌≤◌, ◌<◌, ◌⊎◌, ℕ, List, [], ◌∷◌, ◌++◌, length, All}
use Rattle.std.specs.Io.KnownBytes.{Consumes, IsAtEnd}
use Rattle.ice_base.specs.Counts.{Rose}
use Rattle.ice_line.specs.Lines.{Line, IsStill, WritesAll}
use Rattle.ice_replay.specs.Lines.{WritesPast}
use Rattle.shell_spec.specs.Text.{IsCut, IsEnded, IsOpen, joined, with_last}
use Rattle.shell_spec.specs.Script.{Ending, goes_on, has_quit, has_failed}
use Rattle.debug_shell.specs.Endings.{chunk_limit, input_limit}
use Rattle.debug_shell.specs.declared.script_end.ScriptEnd.{ScriptEnd}
use Rattle.debug_shell.specs.declared.script_end.ScriptEnd.TheVariants.{Done, Read, Write, Link, TooLong}

-- the source gave its end: the lines are all of its text, a last one with no end too
pub record ReadsAll (before after : Line) (lines : List (List ℕ)) : Type 0 where
  pub read : List ℕ
  pub ended : List (List ℕ)
  pub behind : List ℕ
  pub taken : Consumes before.left after.left read
  pub most : length read ≤ input_limit
  pub at_end : IsAtEnd after.left
  pub cut : IsCut read ended behind
  pub are : lines ≡ with_last ended behind

-- the lines are those up to one at which the script ended; what one read brought behind it was not looked at
pub record ReadsTo (before after : Line) (lines earlier : List (List ℕ)) : Type 0 where
  pub line : List ℕ
  pub behind : List ℕ
  pub are : lines ≡ earlier ++ line ∷ []
  pub taken : Consumes before.left after.left (joined earlier ++ line ++ behind)
  pub most : length (joined earlier ++ line ++ behind) ≤ input_limit
  pub short : length behind < chunk_limit
  pub ended : All IsEnded earlier
  pub is_line : IsEnded line ⊎ (IsOpen line × (behind ≡ []) × IsAtEnd after.left)

-- the lines are those that ended in the bytes read; and one byte more was read, or none
pub record ReadsSome (before after : Line) (lines : List (List ℕ)) (extra : List ℕ) : Type 0 where
  pub read : List ℕ
  pub behind : List ℕ
  pub taken : Consumes before.left after.left (read ++ extra)
  pub most : length read ≤ input_limit
  pub cut : IsCut read lines behind

-- all of the text was put, and no put failed
abbrev pub PutsAll : (before after : Line) → (text : List ℕ) → Type 0
PutsAll before after text = WritesAll before.written after.written before.sink_faults after.sink_faults text

-- the texts of the earlier lines were put, and a front of the last, whose put failed
abbrev pub PutsFront : (before after : Line) → (text first : List ℕ) → Type 0
PutsFront before after text first = (later : List ℕ) × (text ≡ first ++ later) ×
    WritesPast before.written after.written before.sink_faults after.sink_faults first later

-- no read failed
abbrev pub ReadsStill : (before after : Line) → Type 0
ReadsStill before after = IsStill before.source_faults after.source_faults

-- how it ended: at its end or with the answer to `quit`; at a failed read; at a failed put; with no answer, whatever became of the put;
-- or with a byte more than a script has
abbrev pub EndsScript : ScriptEnd → (before after : Line) → (lines earlier : List (List ℕ)) → (text first : List ℕ) → Ending → Type 0
EndsScript Done before after lines earlier text first ending =
    ((ReadsAll before after lines × (ending ≡ goes_on)) ⊎ (ReadsTo before after lines earlier × (ending ≡ has_quit))) ×
    PutsAll before after text × ReadsStill before after
EndsScript Read before after lines earlier text first ending =
    ReadsSome before after lines [] × (ending ≡ goes_on) × PutsAll before after text × Rose before.source_faults after.source_faults
EndsScript Write before after lines earlier text first ending =
    ReadsTo before after lines earlier × ((ending ≡ goes_on) ⊎ (ending ≡ has_quit)) × PutsFront before after text first ×
    ReadsStill before after
EndsScript Link before after lines earlier text first ending =
    ReadsTo before after lines earlier × (ending ≡ has_failed) × (PutsAll before after text ⊎ PutsFront before after text first) ×
    ReadsStill before after
EndsScript TooLong before after lines earlier text first ending =
    ((byte : ℕ) × (some : ReadsSome before after lines (byte ∷ [])) × (length some.read ≡ input_limit)) × (ending ≡ goes_on) ×
    PutsAll before after text × ReadsStill before after
