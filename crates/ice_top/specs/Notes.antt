-- The one line that a call writes to the notes.
use Rattle.std.specs.Prelude.{ℕ, List, [], ◌∷◌, ◌++◌, codes}
use Rattle.std.specs.Fmt.{decimal}
use Rattle.asm_spec.specs.declared.kind.AsmKind.{AsmKind}
use Rattle.asm_spec.specs.declared.kind.AsmKind.TheVariants.{Text, Value, Twice, Place, Overlap as Again, Name, Far}
use Rattle.avr_asm.specs.declared.error.AsmError.{AsmError}
use Rattle.avr_asm.specs.declared.error.AsmError.TheVariants.{Large, At, Memory as NoMemory}
use Rattle.image_hex.specs.declared.error.ImageError.{ImageError}
use Rattle.image_hex.specs.declared.error.ImageError.TheVariants.{BadRecord, BadSum, TooLarge, Odd, Overlap, Memory}

-- a text as a line
abbrev pub line : List ℕ → List ℕ
line text = text ++ 10 ∷ []

-- the totals of a session: cycles, steps, output writes and dropped bytes
abbrev pub totals : ℕ → ℕ → ℕ → ℕ → List ℕ
totals cycles steps writes dropped =
    line (codes "cycles " ++ decimal cycles ++ codes " steps " ++ decimal steps ++ codes " writes " ++ decimal writes ++
    codes " dropped " ++ decimal dropped)

-- what is wrong with an image: a record or a sum by its line, a byte that is given twice by its address; want of memory is nothing
-- wrong with it
abbrev pub refusal_text : ImageError → List ℕ
refusal_text (BadRecord number) = codes "image: record " ++ decimal number
refusal_text (BadSum number) = codes "image: sum " ++ decimal number
refusal_text TooLarge = codes "image: large"
refusal_text Odd = codes "image: odd"
refusal_text (Overlap address) = codes "image: overlap " ++ decimal address
refusal_text Memory = codes "memory"

-- what is wrong with a line of a text, as a word
abbrev pub kind_text : AsmKind → List ℕ
kind_text Text = codes "text"
kind_text Value = codes "value"
kind_text Twice = codes "twice"
kind_text Place = codes "place"
kind_text Again = codes "overlap"
kind_text Name = codes "name"
kind_text Far = codes "far"

-- why a text is not assembled: it is too large, or its first wrong line; want of memory is nothing wrong with it
abbrev pub fault_text : AsmError → List ℕ
fault_text Large = codes "asm: large"
fault_text (At number kind) = codes "asm: line " ++ decimal number ++ codes " " ++ kind_text kind
fault_text NoMemory = codes "memory"
