-- What the code's forms and meanings stand for.
use Rattle.std.specs.Prelude.{ℕ, not, List, [], ◌∷◌}
use Rattle.std.specs.List.{take_while}
use Rattle.asm_spec.specs.Tokens.{is_blank}
use Rattle.asm_spec.specs.Forms.{Operand, register, byte, bit, exact, displacement, distance, address, target, any, even, upper, double}
use Rattle.asm_spec.specs.Reading.{Meaning, value, outside, label}
use Rattle.avr_asm.specs.declared.forms.Named.{Named}
use Rattle.avr_asm.specs.declared.forms.Named.TheVariants.{Any, Even, Upper, Double}
use Rattle.avr_asm.specs.declared.forms.Operand.{Operand as HeldOperand}
use Rattle.avr_asm.specs.declared.forms.Operand.TheVariants.{Register, Byte, Bit, Exact, Displacement, Distance, Address, Target}
use Rattle.avr_asm.specs.declared.forms.Operands.{Operands}
use Rattle.avr_asm.specs.declared.forms.Operands.TheVariants.{None as NoOperand, One as OneOperand, Two as TwoOperands}
use Rattle.avr_asm.specs.declared.meanings.Meaning.{Meaning as HeldMeaning}
use Rattle.avr_asm.specs.declared.meanings.Meaning.TheVariants.{Value, Outside, Label}

-- the registers that a field names
abbrev pub named_told : Named → ℕ → ℕ
named_told Any = any
named_told Even = even
named_told Upper = upper
named_told Double = double

-- a text of the code's table, which has blanks behind it
abbrev pub ahead_of_blanks : List ℕ → List ℕ
ahead_of_blanks bytes = take_while (λ byte. not (is_blank byte)) bytes

-- an operand of the code's table
abbrev pub operand_told : HeldOperand → Operand
operand_told (Register named letter) = register (named_told named) letter
operand_told (Byte letter) = byte letter
operand_told (Bit letter) = bit letter
operand_told (Exact shown) = exact (ahead_of_blanks shown)
operand_told (Displacement pointer letter) = displacement (pointer ∷ []) letter
operand_told (Distance values letter) = distance values letter
operand_told Address = address
operand_told (Target letter) = target letter

abbrev pub operands_told : Operands → List Operand
operands_told NoOperand = []
operands_told (OneOperand operand) = operand_told operand ∷ []
operands_told (TwoOperands left right) = operand_told left ∷ operand_told right ∷ []

-- what an operand means
abbrev pub meaning_told : HeldMeaning → Meaning
meaning_told (Value n) = value n
meaning_told Outside = outside
meaning_told (Label name) = label name.now
