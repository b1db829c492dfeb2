-- What the ends of a stop word are to their callers.
use Rattle.std.specs.Prelude.{ℕ, Bool, List, ◌==◌, if◌then◌else◌}
use Rattle.atomic_table.specs.Seated.{TableId}
use Rattle.ice_inbox.specs.declared.stop_word.Asked.{Asked}
use Rattle.ice_inbox.specs.declared.stop_word.Asked.TheVariants.{Nothing, One, Several}

-- the raiser: which word it is, the numbers raised, in order, and whether a looker is out
pub record Raising : Type 0 where
  pub word : TableId
  pub raised : List ℕ
  pub is_out : Bool

-- a looker: which word it is, the number seen last (0 before the first look), how many loads it made, modulo 2^64,
-- and which numbers it asked for
pub record Looking : Type 0 where
  pub word : TableId
  pub seen : ℕ
  pub loads : ℕ
  pub asked : Asked

-- this number was asked for, too
abbrev pub asked_also : Asked → ℕ → Asked
asked_also Nothing number = One number
asked_also (One other) number = (if other == number then One other else Several)
asked_also Several number = Several
