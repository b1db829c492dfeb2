-- What the instruction at pc does, begun behind its first word and ended by its ticks, is what the book executes.
use Rattle.std.proofs.Common.{◌≡◌, ℕ, ◌+◌, ◌%◌, ◌^◌, Bool, false, List, refl, sym, ap, ◌∙◌, arith}
use Rattle.std.proofs.Math.Nat.{mod-add-mod}
use Rattle.part_spec.specs.Chip.{Chip, words_of}
use Rattle.avr_spec.specs.declared.instruction.Instr.{Instr}
use Rattle.avr_spec.specs.declared.instruction.Instr.TheVariants.{Lds, Sts, Jmp, Call, Cpse, Sbic, Sbis, Sbrc, Sbrs, Break, Spm, Undefined}
use Rattle.avr_spec.specs.declared.target.Ahead.TheVariants.{Ready}
use Rattle.avr_spec.specs.Decode.{decode}
use Rattle.avr_spec.specs.Timers.{ticks}
use Rattle.avr_spec.specs.Machine.{Machine}
use Rattle.avr_spec.specs.Memory.{reg, with_loaded, store}
use Rattle.avr_spec.specs.Effect.{Effect, Skips, called}
use Rattle.avr_spec.specs.Step.{word_at, behind, instr_at, advanced, ended, skipped, finished, effect_here, executed, seen}
use Rattle.avr_spec.proofs.RowLemmas.{first_word_tells}
use Rattle.avr_core.specs.declared.outcome.Outcome.{Outcome}
use Rattle.avr_core.specs.declared.outcome.Outcome.TheVariants.{Took, Break as TheBreak, Undefined as TheUndefined}
use Rattle.avr_core.specs.Leaves.{passed, after_effect, outcome_of, effect_at}
use Rattle.avr_core.proofs.Completed.{completed, decode-completed}

-- the cycles that an outcome tells, where it tells any
abbrev pub cycles_told : Outcome → ℕ
cycles_told (Took cycles) = cycles
cycles_told TheBreak = 0
cycles_told TheUndefined = 0

module _ (part : Chip) where
  -- the state once the ticks of an effect on p are over, and one step more is counted
  abbrev pub over : List ℕ → Machine → Effect → Machine
  over flash p e =
      let s = after_effect part flash p e in record s { io = ticks (cycles_told (outcome_of flash p e)) s.io; steps = (s.steps + 1) % 2 ^ 64 }

  -- one word on, and then more
  further : (pc k : ℕ) → (behind part pc 1 + k) % words_of part ≡ behind part pc (1 + k)
  further pc k =
      let same : pc + 1 + k ≡ pc + (1 + k) = omega arith in
      mod-add-mod (pc + 1) (words_of part) k ∙ ap (λ (n : ℕ). n % words_of part) same

  skip_over : (p : Machine) (flash : List ℕ) (skips : Bool) → over flash (advanced part 1 p) (Skips skips) ≡ skipped part p flash skips
  skip_over p flash skips =
      let k = passed flash (advanced part 1 p) skips in
      ap (λ (n : ℕ). record p { pc = n; hold = false; io = ticks (1 + k) p.io; steps = (p.steps + 1) % 2 ^ 64 }) (further p.pc k)

  -- an instruction that runs
  runs : (p : Machine) (flash : List ℕ) (instr : Instr) → seen instr ≡ Ready →
      over flash (advanced part 1 p) (effect_at part flash (advanced part 1 p) instr)
      ≡ finished part p flash (effect_here part p (completed instr (word_at flash (behind part p.pc 1))))
  runs p flash (Lds d address) e =
      ap (λ (n : ℕ). ended 2 p (with_loaded part d (word_at flash (behind part p.pc 1)) (record p { pc = n; hold = false }))) (further p.pc 1)
  runs p flash (Sts r address) e =
      ap (λ (n : ℕ). ended 2 p (store part (word_at flash (behind part p.pc 1)) (reg p r) (record p { pc = n; hold = false }))) (further p.pc 1)
  runs p flash (Jmp k) e = refl
  runs p flash (Call k) e =
      ap (λ (n : ℕ). ended 4 p (called part ((k + word_at flash (behind part p.pc 1)) % words_of part) (record p { pc = n; hold = false }))) (further p.pc 1)
  runs p flash (Cpse d r) e = skip_over p flash _
  runs p flash (Sbic a b) e = skip_over p flash _
  runs p flash (Sbis a b) e = skip_over p flash _
  runs p flash (Sbrc r b) e = skip_over p flash _
  runs p flash (Sbrs r b) e = skip_over p flash _
  runs p flash Break e = cc
  runs p flash Spm e = cc
  runs p flash (Undefined w) e = cc
  runs p flash _ e = refl

  pub ran : (p : Machine) (flash : List ℕ) (instr : Instr) → instr ≡ decode (word_at flash p.pc) 0 → seen instr ≡ Ready →
      over flash (advanced part 1 p) (effect_at part flash (advanced part 1 p) instr) ≡ executed part p flash
  ran p flash instr is ready =
      let second = word_at flash (behind part p.pc 1) in
      runs p flash instr ready ∙
      ap (λ (i : Instr). finished part p flash (effect_here part p i))
      (ap (λ (i : Instr). completed i second) is ∙ sym (decode-completed (word_at flash p.pc) second))

  -- an instruction that does not run
  stays : (p : Machine) (flash : List ℕ) (instr : Instr) → (seen instr ≡ Ready → ⊥) → finished part p flash (effect_here part p instr) ≡ p
  stays p flash Break h = refl
  stays p flash Spm h = refl
  stays p flash (Undefined w) h = refl
  stays p flash _ h = absurd (h refl)

  pub stayed : (p : Machine) (flash : List ℕ) → (seen (decode (word_at flash p.pc) 0) ≡ Ready → ⊥) → executed part p flash ≡ p
  stayed p flash h =
      stays p flash (instr_at part flash p.pc)
      (λ e. h (sym (first_word_tells (word_at flash p.pc) (word_at flash (behind part p.pc 1))).2 ∙ e))
