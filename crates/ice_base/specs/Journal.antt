-- The journal of a flash: its page writes that were made, in order, where they are told.
use Rattle.std.specs.Prelude.{◌≡◌, List, ◌++◌, Option, None, Some, ⊤}
use Rattle.part_spec.specs.Pages.{PageWrite}

-- a journal, where it is told, gains these page writes at its end
abbrev pub Logs : Option (List PageWrite) → Option (List PageWrite) → List PageWrite → Type 0
Logs None now writes = ⊤
Logs (Some before) None writes = ⊥
Logs (Some before) (Some now) writes = now ≡ before ++ writes
