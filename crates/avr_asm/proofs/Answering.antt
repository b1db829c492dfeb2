-- The answers of the assembler.
use Rattle.std.proofs.Common.{◌≡◌, ℕ, ◌≤◌, List, ◌∷◌, length, sym, ap, ◌∙◌, subst}
use Rattle.std.specs.Prelude.{Result, Ok, Err}
use Rattle.part_spec.specs.Chip.{Chip}
use Rattle.asm_spec.specs.Words.{Fault, Laid, assembly, laid_on, lines_of, settled, start}
use Rattle.avr_asm.specs.declared.assembler.Assembled.{Assembled}
use Rattle.avr_asm.specs.declared.error.AsmError.{AsmError}
use Rattle.avr_asm.specs.declared.error.AsmError.TheVariants.{Large, At, Memory}
use Rattle.avr_asm.specs.declared.sheet.Sheet.{Sheet}
use Rattle.avr_asm.specs.declared.sheet.Stop.{Stop}
use Rattle.avr_asm.specs.declared.sheet.Stop.TheVariants.{Wrong, Memory as OutOfMemory}
use Rattle.avr_asm.specs.Answers.{Answers, Gives, LaysOut, error_of, most_bytes}
use Rattle.avr_asm.specs.Sheets.{Follows, said_by}
use Rattle.avr_asm.proofs.Laying.{lines_wrong}

-- a line is refused, and with it the text
pub lays_wrong : (part : Chip) (number : ℕ) (line : List ℕ) (lines : List (List ℕ)) (laid : Laid) (stop : Stop) (sheet : Sheet) (error : AsmError)
    (all : Result Laid Fault) → error ≡ error_of number stop → Follows part (Err stop) sheet (said_by part number line laid) →
    all ≡ laid_on part number laid (line ∷ lines) → LaysOut part (Err error) all
lays_wrong part number line lines laid (Wrong kind) sheet error all is wrong so_far =
    subst (λ (e : AsmError). LaysOut part (Err e) all) (sym is) (so_far ∙ lines_wrong part number laid line lines kind wrong)
lays_wrong part number line lines laid OutOfMemory sheet error all is wrong so_far =
    subst (λ (e : AsmError). LaysOut part (Err e) all) (sym is) tt

-- what a text gives, by what its lines lay out
pub gives_is : (part : Chip) (text : List ℕ) (said : Result Laid Fault) → laid_on part 1 start (lines_of text) ≡ said →
    assembly part text ≡ settled part said
unfolding assembly
gives_is part text said is = ap (settled part) is

pub answers_words : (part : Chip) (text : List ℕ) (laid : Laid) (result : Result Assembled AsmError) → length text ≤ most_bytes →
    laid_on part 1 start (lines_of text) ≡ Ok laid → Gives result (settled part (Ok laid)) → Answers part text result
answers_words part text laid (Ok made) small is gives = (small, gives_is part text (Ok laid) is ∙ gives)
answers_words part text laid (Err Large) small is gives = absurd gives
answers_words part text laid (Err (At line kind)) small is gives = (small, gives_is part text (Ok laid) is ∙ gives)
answers_words part text laid (Err Memory) small is gives = small

pub answers_error : (part : Chip) (text : List ℕ) (error : AsmError) → length text ≤ most_bytes →
    LaysOut part (Err error) (laid_on part 1 start (lines_of text)) → Answers part text (Err error)
answers_error part text Large small lays = absurd lays
answers_error part text (At line kind) small lays =
    (small, gives_is part text (Err (record { line = line; kind = kind })) lays)
answers_error part text Memory small lays = small
