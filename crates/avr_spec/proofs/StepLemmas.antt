-- Steps are counted, and see little of the flash.
use Rattle.std.proofs.Common.{◌≡◌, ℕ, ◌+◌, cond, List, Option, Some, None, refl, sym, ap, ◌∙◌, subst}
use Rattle.part_spec.specs.Chip.{Chip}
use Rattle.avr_spec.specs.declared.instruction.Instr.{Instr}
use Rattle.avr_spec.specs.declared.instruction.Instr.TheVariants.{Break, Spm, Undefined}
use Rattle.avr_spec.specs.declared.target.Vector.{Vector}
use Rattle.avr_spec.specs.declared.target.Ahead.{Ahead}
use Rattle.avr_spec.specs.declared.target.Ahead.TheVariants.{Interrupt, Ready, Break as BreakAhead, Undefined as UndefinedAhead}
use Rattle.avr_spec.specs.Decode.{decode, words}
use Rattle.avr_spec.specs.Machine.{Machine}
use Rattle.avr_spec.specs.Effect.{Effect, Acts, Skips, Reads_flash, At_break, At_undefined}
use Rattle.avr_spec.specs.Step.{word_at, behind, instr_at, advanced, ended, due, taken, finished, effect_here, executed, step, seen, ahead}
use Rattle.avr_spec.specs.Step.{go_by, go_on}
use Rattle.avr_spec.specs.Laws.{StepsBy, StepRaisesSteps, GoesBy, GoRaisesSteps, SameByteRead, LookTheSame, StepSeesLittle}
use Rattle.avr_spec.specs.Laws.{AheadSeesOneWord}
use Rattle.avr_spec.proofs.RowLemmas.{first_word_tells}

-- a step, told what is due
abbrev pub step_by : Chip → Machine → List ℕ → Option Vector → Machine
step_by part p flash o = elim o [ Some v ↦ taken part v p | None ↦ executed part p flash ]

pub step-is : (part : Chip) (p : Machine) (flash : List ℕ) → step part p flash ≡ step_by part p flash (due part p)
unfolding step
step-is part p flash = refl

-- a look ahead, told what is due
abbrev pub ahead_by : Machine → List ℕ → Option Vector → Ahead
ahead_by p flash o = elim o [ Some v ↦ Interrupt | None ↦ seen (decode (word_at flash p.pc) 0) ]

pub ahead-is : (part : Chip) (p : Machine) (flash : List ℕ) → ahead part p flash ≡ ahead_by p flash (due part p)
unfolding ahead
ahead-is part p flash = refl

pub go-is : (part : Chip) (p : Machine) (flash : List ℕ) → go_on part p flash ≡ go_by part p flash (ahead part p flash)
unfolding go_on
go-is part p flash = refl

-- an instruction that runs is one step, and one that does not run leaves the state
instr_counts : (part : Chip) (p : Machine) (flash : List ℕ) (instr : Instr) →
    StepsBy (seen instr) p (finished part p flash (effect_here part p instr))
instr_counts part p flash Break = refl
instr_counts part p flash Spm = refl
instr_counts part p flash (Undefined w) = refl
instr_counts part p flash _ = refl

counts_by : (part : Chip) (p : Machine) (flash : List ℕ) (o : Option Vector) → StepsBy (ahead_by p flash o) p (step_by part p flash o)
counts_by part p flash (Some v) = refl
counts_by part p flash None =
    let second = word_at flash (behind part p.pc 1) in
    subst (λ (a : Ahead). StepsBy a p (executed part p flash)) (first_word_tells (word_at flash p.pc) second).2
    (instr_counts part p flash (instr_at part flash p.pc))

pub step_raises_steps : StepRaisesSteps
step_raises_steps part p flash =
    subst (λ (a : Ahead). StepsBy a p (step part p flash)) (sym (ahead-is part p flash))
    (subst (λ (q : Machine). StepsBy (ahead_by p flash (due part p)) p q) (sym (step-is part p flash))
    (counts_by part p flash (due part p)))

goes_by : (part : Chip) (p : Machine) (flash : List ℕ) (a : Ahead) → StepsBy a p (step part p flash) → GoesBy a p (go_by part p flash a)
goes_by part p flash Interrupt h = h
goes_by part p flash Ready h = h
goes_by part p flash BreakAhead h = refl
goes_by part p flash UndefinedAhead h = h

pub go_raises_steps : GoRaisesSteps
go_raises_steps part p flash =
    subst (λ (q : Machine). GoesBy (ahead part p flash) p q) (sym (go-is part p flash))
    (goes_by part p flash (ahead part p flash) (step_raises_steps part p flash))

-- an effect sees the word behind pc, where it skips, and the byte that it reads
same_finish : (part : Chip) (p : Machine) (flash other : List ℕ) (e : Effect) →
    word_at flash (behind part p.pc 1) ≡ word_at other (behind part p.pc 1) → SameByteRead e flash other →
    finished part p flash e ≡ finished part p other e
same_finish part p flash other (Acts cycles after) next byte = refl
same_finish part p flash other (Skips over) next byte =
    ap (λ (w : ℕ). let n = cond over (words (decode w 0)) 0 in ended (1 + n) p (advanced part (1 + n) p)) next
same_finish part p flash other (Reads_flash cycles address after) next byte = ap (λ (b : ℕ). ended cycles p (after b)) byte
same_finish part p flash other At_break next byte = refl
same_finish part p flash other At_undefined next byte = refl

same_by : (part : Chip) (p : Machine) (flash other : List ℕ) (o : Option Vector) → LookTheSame part p flash other →
    step_by part p flash o ≡ step_by part p other o
same_by part p flash other (Some v) same = refl
same_by part p flash other None same =
    let same_instr : instr_at part flash p.pc ≡ instr_at part other p.pc =
    ap (λ (w : ℕ). decode w (word_at flash (behind part p.pc 1))) same.here ∙ ap (decode (word_at other p.pc)) same.next in
    same_finish part p flash other (effect_here part p (instr_at part flash p.pc)) same.next same.byte ∙
    ap (λ (i : Instr). finished part p other (effect_here part p i)) same_instr

pub step_sees_little : StepSeesLittle
step_sees_little part p flash other same =
    step-is part p flash ∙ same_by part p flash other (due part p) same ∙ sym (step-is part p other)

pub ahead_sees_one_word : AheadSeesOneWord
ahead_sees_one_word part p flash other same = ahead-is part p flash ∙ by_due (due part p) ∙ sym (ahead-is part p other)
  where
    by_due : (o : Option Vector) → ahead_by p flash o ≡ ahead_by p other o
    by_due (Some v) = refl
    by_due None = ap (λ (w : ℕ). seen (decode w 0)) same
