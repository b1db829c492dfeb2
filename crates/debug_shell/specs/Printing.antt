-- What becomes of a text that is printed.
use Rattle.std.specs.Prelude.{◌≡◌, ℕ, ◌⊎◌, List, Option, None, Some, take}
use Rattle.std.specs.Io.KnownBytes.{Appends}
use Rattle.ice_base.specs.Counts.{Rose}
use Rattle.debug_shell.specs.declared.script_end.After.{After}
use Rattle.debug_shell.specs.declared.script_end.After.TheVariants.{Goes, Quits, Fails}
use Rattle.debug_shell.specs.declared.script_end.ScriptEnd.{ScriptEnd}
use Rattle.debug_shell.specs.declared.script_end.ScriptEnd.TheVariants.{Done, Link, Write}

-- what an outside object tells of its bytes, where it tells them, and its count of faults
pub record Outside : Type 0 where
  pub bytes : Option (List ℕ)
  pub faults : ℕ

-- the sink gained the text, and no put failed
pub record Gains (before after : Outside) (text : List ℕ) : Type 0 where
  pub gains : Appends before.bytes after.bytes text
  pub still : after.faults ≡ before.faults

-- the sink failed, and gained some front of the text
pub record GainsFront (before after : Outside) (text : List ℕ) : Type 0 where
  pub count : ℕ
  pub gains : Appends before.bytes after.bytes (take count text)
  pub rose : Rose before.faults after.faults

-- whether the script ends behind a line whose text is put: a put that fails ends it, unless the host failed before
abbrev pub Prints : After → Option ScriptEnd → Outside → Outside → (text : List ℕ) → Type 0
Prints Goes None before after text = Gains before after text
Prints Goes (Some Write) before after text = GainsFront before after text
Prints Goes (Some _) before after text = ⊥
Prints Quits (Some Done) before after text = Gains before after text
Prints Quits (Some Write) before after text = GainsFront before after text
Prints Quits _ before after text = ⊥
Prints Fails (Some Link) before after text = Gains before after text ⊎ GainsFront before after text
Prints Fails _ before after text = ⊥
