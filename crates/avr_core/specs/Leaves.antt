-- What an effect leaves in a core before the ticks of its cycles, and how many cycles those are, or that it does not run. The book
-- says both at once, over the state before the step; here the step has begun: pc is behind the first word already.
use Rattle.std.specs.Prelude.{◌≡◌, ℕ, ◌+◌, Bool, if◌then◌else◌, List, []}
use Rattle.part_spec.specs.Chip.{Chip}
use Rattle.avr_spec.specs.declared.instruction.Instr.{Instr}
use Rattle.avr_spec.specs.declared.instruction.Instr.TheVariants.{Lds, Sts, Jmp, Call}
use Rattle.avr_spec.specs.Machine.{Machine}
use Rattle.avr_spec.specs.Kept.{Kept, kept}
use Rattle.avr_spec.specs.Effect.{Effect, Acts, Skips, Reads_flash, At_break, At_undefined, effect}
use Rattle.avr_spec.specs.Step.{word_at, words_at, flash_byte, behind}
use Rattle.avr_core.specs.declared.outcome.Outcome.{Outcome}
use Rattle.avr_core.specs.declared.outcome.Outcome.TheVariants.{Took, Break, Undefined}

-- the words passed over where the instruction at pc is skipped or not
abbrev pub passed : List ℕ → Machine → Bool → ℕ
passed flash p over = if over then words_at flash p.pc else 0

-- the state once so many words more are passed
abbrev pub past : Chip → ℕ → Machine → Machine
past part n p = record p { pc = behind part p.pc n }

-- the state that an effect on p leaves before its ticks
abbrev pub after_effect : Chip → List ℕ → Machine → Effect → Machine
after_effect part flash p (Acts cycles after) = after
after_effect part flash p (Skips over) = past part (passed flash p over) p
after_effect part flash p (Reads_flash cycles address after) = after (flash_byte flash address)
after_effect part flash p At_break = p
after_effect part flash p At_undefined = p

-- what comes of an effect on p: it takes so many cycles, or does not run
abbrev pub outcome_of : List ℕ → Machine → Effect → Outcome
outcome_of flash p (Acts cycles after) = Took cycles
outcome_of flash p (Skips over) = Took (1 + passed flash p over)
outcome_of flash p (Reads_flash cycles address after) = Took cycles
outcome_of flash p At_break = Break
outcome_of flash p At_undefined = Undefined

-- a core stands for what an effect on p leaves, and this is what comes of it
abbrev pub IsLeft : Chip → List ℕ → Machine → Effect → Kept → Outcome → Type 0
IsLeft part flash p effect core outcome = (core ≡ kept part (after_effect part flash p effect)) × (outcome ≡ outcome_of flash p effect)

-- a call moves each state that the core stands for by an effect on it that runs, and tells its cycles
abbrev pub Leaves : Kept → Kept → ℕ → List ℕ → (Chip → Machine → Effect) → Type 0
Leaves before after cycles flash f = (part : Chip) (p : Machine) → before ≡ kept part p → IsLeft part flash p (f part p) after (Took cycles)

-- the same of an instruction that does not look at the flash
abbrev pub Executes : Kept → Kept → ℕ → Instr → Type 0
Executes before after cycles instr = Leaves before after cycles [] (λ part p. effect part instr p)

-- the effect of an instruction of which the first word is known, with the second word at pc
abbrev pub effect_at : Chip → List ℕ → Machine → Instr → Effect
effect_at part flash p (Lds d address) = effect part (Lds d (word_at flash p.pc)) (past part 1 p)
effect_at part flash p (Sts r address) = effect part (Sts r (word_at flash p.pc)) (past part 1 p)
effect_at part flash p (Jmp k) = effect part (Jmp (k + word_at flash p.pc)) (past part 1 p)
effect_at part flash p (Call k) = effect part (Call (k + word_at flash p.pc)) (past part 1 p)
effect_at part flash p instr = effect part instr p

-- an instruction that has this first word runs, and the call tells its cycles
abbrev pub Runs : Kept → Kept → ℕ → List ℕ → Instr → Type 0
Runs before after cycles flash instr = Leaves before after cycles flash (λ part p. effect_at part flash p instr)

-- the same of an instruction that may not run: the call tells what comes of it
abbrev pub Does : Kept → Kept → Outcome → List ℕ → Instr → Type 0
Does before after outcome flash instr =
    (part : Chip) (p : Machine) → before ≡ kept part p → IsLeft part flash p (effect_at part flash p instr) after outcome
