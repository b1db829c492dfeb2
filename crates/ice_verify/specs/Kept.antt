-- What the code keeps of the words that the target runs.
use Rattle.std.specs.Prelude.{ℕ, List}
use Rattle.part_spec.specs.declared.part.Part.{Part}

pub record WordsState : Type 0 where
  pub part : Part
  pub words : List ℕ
