-- What the code keeps of a statement, and its table of other names.
use Rattle.std.specs.Prelude.{◌≡◌, ℕ, ◌≤◌, List, [], ◌∷◌, ◌++◌, length}
use Rattle.asm_spec.specs.Reading.{Alias}
use Rattle.avr_asm.specs.declared.statements.Few.{Few}
use Rattle.avr_asm.specs.declared.statements.Few.TheVariants.{None, One, Two, More}
use Rattle.avr_asm.specs.declared.statements.How.{How}
use Rattle.avr_asm.specs.declared.statements.How.TheVariants.{Behind, Twice}
use Rattle.avr_asm.specs.declared.statements.Alias.{Alias as Held}

-- what stands for operands
abbrev pub AreFew : Few → (operands : List (List ℕ)) → Type 0
AreFew None operands = operands ≡ []
AreFew (One first) operands = operands ≡ first.now ∷ []
AreFew (Two first second) operands = operands ≡ first.now ∷ second.now ∷ []
AreFew More operands = 3 ≤ length operands

-- operands as an alias has them
abbrev pub written_told : How → (operands : List (List ℕ)) → List (List ℕ)
written_told (Behind bit) operands = bit.now ∷ operands
written_told Twice operands = operands ++ operands

-- an alias of the code's table
abbrev pub alias_told : Held → Alias
alias_told alias = record { name = alias.name.now; of = alias.of.now; written = written_told alias.written }
