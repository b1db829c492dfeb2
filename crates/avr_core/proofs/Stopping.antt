-- What comes of an instruction tells what it is to one who looks ahead, and one that does not run changes nothing.
use Rattle.std.proofs.Common.{◌≡◌, ◌≢◌, List, ℕ, refl}
use Rattle.part_spec.specs.Chip.{Chip}
use Rattle.avr_spec.specs.declared.instruction.Instr.{Instr}
use Rattle.avr_spec.specs.declared.instruction.Instr.TheVariants.{Break, Spm, Undefined}
use Rattle.avr_spec.specs.declared.target.Ahead.{Ahead}
use Rattle.avr_spec.specs.declared.target.Ahead.TheVariants.{Ready, Break as BreakAhead, Undefined as UndefinedAhead}
use Rattle.avr_spec.specs.Machine.{Machine}
use Rattle.avr_spec.specs.Step.{seen}
use Rattle.avr_core.specs.declared.outcome.Outcome.{Outcome}
use Rattle.avr_core.specs.declared.outcome.Outcome.TheVariants.{Took, Break as TheBreak, Undefined as TheUndefined}
use Rattle.avr_core.specs.Leaves.{after_effect, outcome_of, effect_at}

-- what an outcome shows of its instruction
abbrev pub shown : Outcome → Ahead
shown (Took cycles) = Ready
shown TheBreak = BreakAhead
shown TheUndefined = UndefinedAhead

module _ (part : Chip) where
  pub shown-is : (flash : List ℕ) (p : Machine) (instr : Instr) → shown (outcome_of flash p (effect_at part flash p instr)) ≡ seen instr
  shown-is flash p Break = refl
  shown-is flash p Spm = refl
  shown-is flash p (Undefined w) = refl
  shown-is flash p _ = refl

  pub leaves_all : (flash : List ℕ) (p : Machine) (instr : Instr) → seen instr ≢ Ready →
      after_effect part flash p (effect_at part flash p instr) ≡ p
  leaves_all flash p Break h = refl
  leaves_all flash p Spm h = refl
  leaves_all flash p (Undefined w) h = refl
  leaves_all flash p _ h = absurd (h refl)
