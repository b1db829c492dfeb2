-- The laws of clean steps and clean runs, as facts: each says when one is clean, and when it is not, in the words of the instruction
-- table and of the states of a run. Each is proved as the contract of a function of `src/clean_laws.rt`.
use Rattle.std.specs.Prelude.{◌≡◌, ◌≢◌, ◌↔◌, ℕ, ◌+◌, ◌/◌, ◌%◌, ◌<◌, Bool, true, false, List, Option, None, Contains}
use Rattle.part_spec.specs.Chip.{Chip, words_of, flash_bytes}
use Rattle.avr_spec.specs.declared.instruction.Instr.{Instr}
use Rattle.avr_spec.specs.declared.instruction.Instr.TheVariants.{Lds, Sts, Jmp, Call, LpmR0, LpmZ, LpmZInc}
use Rattle.avr_spec.specs.Machine.{Machine}
use Rattle.avr_spec.specs.Memory.{pair, pointer_z}
use Rattle.avr_spec.specs.Step.{due, instr_at}
use Rattle.debug_spec.specs.Patch.{has, without}
use Rattle.debug_spec.specs.Run.{after, end_by, run_of}
use Rattle.debug_spec.specs.Clean.{clean_step, clean_for, clean_run}

-- the word behind pc is in a set; behind the last word of the flash stands the first
abbrev pub SecondWordIn : Chip → Machine → List ℕ → Type 0
SecondWordIn part p set = Contains set ((p.pc + 1) % words_of part)

-- the word of which Z names a byte is in a set; behind the last byte of the flash stands the first
abbrev pub WordAtZIn : Chip → Machine → List ℕ → Type 0
WordAtZIn part p set = Contains set ((pair p pointer_z % flash_bytes part) / 2)

-- an instruction that stands at pc takes a word of a set as its second word, or a byte of one as data: of two words are LDS, STS, JMP
-- and CALL, and a byte of the flash is read by the three forms of LPM
abbrev pub TakesWordOf : List ℕ → Chip → Machine → Instr → Type 0
TakesWordOf set part p (Lds d address) = SecondWordIn part p set
TakesWordOf set part p (Sts r address) = SecondWordIn part p set
TakesWordOf set part p (Jmp k) = SecondWordIn part p set
TakesWordOf set part p (Call k) = SecondWordIn part p set
TakesWordOf set part p LpmR0 = WordAtZIn part p set
TakesWordOf set part p (LpmZ d) = WordAtZIn part p set
TakesWordOf set part p (LpmZInc d) = WordAtZIn part p set
TakesWordOf set part p _ = ⊥

-- a step of a program is not clean with a set planted exactly where no interrupt is due and the instruction at pc takes such a word
abbrev pub UncleanStepsTakePlanted : Type 0
UncleanStepsTakePlanted = (part : Chip) (p : Machine) (prog set : List ℕ) →
    (clean_step part p prog set ≡ false) ↔ ((due part p ≡ None) × TakesWordOf set part p (instr_at part prog p.pc))

-- each of the first n steps of a run of a program is clean: the first with all breakpoints planted but for one at the start, and the
-- later ones with all of them
pub record StepsAreClean (part : Chip) (prog : List ℕ) (p : Machine) (set : List ℕ) (comparators : List (Option ℕ)) (n : ℕ) : Type 0 where
  pub first : 0 < n → clean_step part p prog (without p.pc set) ≡ true
  pub later : (k : ℕ) → 0 < k → k < n → clean_step part (after part (run_of false prog p set comparators) k) prog set ≡ true

-- a run is clean for n steps exactly where each of them is
abbrev pub CleanForEachStep : Type 0
CleanForEachStep = (part : Chip) (prog : List ℕ) (p : Machine) (set : List ℕ) (comparators : List (Option ℕ)) (n : ℕ) →
    (clean_for part (run_of false prog p set comparators) n ≡ true) ↔ StepsAreClean part prog p set comparators n

-- and it is clean to its end exactly where each step before that is
abbrev pub CleanToItsEnd : Type 0
CleanToItsEnd = (part : Chip) (prog : List ℕ) (p : Machine) (set : List ℕ) (comparators : List (Option ℕ)) (failed : Bool) (n : ℕ) →
    let r = run_of false prog p set comparators in
    (clean_run part r failed n ≡ true) ↔ StepsAreClean part prog p set comparators (end_by part r failed n).steps

-- a set has the addresses of its list, and without one of them it has the others
pub record SetsHaveElements : Type 0 where
  pub has : (set : List ℕ) (address : ℕ) → (has set address ≡ true) ↔ Contains set address
  pub without : (set : List ℕ) (address other : ℕ) → Contains (without address set) other ↔ (Contains set other × (other ≢ address))
