-- How a step begins, and that what it then executes does not depend on the hold.
use Rattle.std.proofs.Common.{◌≡◌, ◌≢◌, ℕ, Bool, true, false, ◌||◌, if◌then◌else◌, List, Option, Some, None, is_some, refl}
use Rattle.part_spec.specs.Chip.{Chip}
use Rattle.avr_spec.specs.declared.instruction.Instr.{Instr}
use Rattle.avr_spec.specs.declared.instruction.Instr.TheVariants.{Break, Spm, Undefined}
use Rattle.avr_spec.specs.declared.target.Vector.{Vector}
use Rattle.avr_spec.specs.declared.target.Ahead.{Ahead}
use Rattle.avr_spec.specs.declared.target.Ahead.TheVariants.{Interrupt, Ready, Break as BreakAhead, Undefined as UndefinedAhead}
use Rattle.avr_spec.specs.Decode.{decode}
use Rattle.avr_spec.specs.Machine.{Machine}
use Rattle.avr_spec.specs.Step.{word_at, behind, instr_at, finished, effect_here, executed, seen}
use Rattle.avr_spec.proofs.RowLemmas.{first_word_tells}
use Rattle.avr_spec.proofs.StepLemmas.{step_by, ahead_by}
use Rattle.avr_core.specs.Begins.{held_by, unheld, begun_by}

-- of two tests that together fail, each fails
pub both_off : (a b : Bool) → (a || b) ≡ false → (a ≡ false) × (b ≡ false)
both_off false false e = (refl, refl)
both_off false true e = cc
both_off true b e = cc

-- where none is pending, none is due
pub none_due : (lets_in : Bool) (found : Option Vector) → None ≡ found → None ≡ (if lets_in then found else None)
none_due true found none = none
none_due false found none = refl

-- a hold that is off stays off
pub held_by-off : (ahead : Ahead) → false ≡ held_by false ahead
held_by-off Interrupt = refl
held_by-off Ready = refl
held_by-off BreakAhead = refl
held_by-off UndefinedAhead = refl

-- a hold that is still on: what is ahead does not run
pub held_by-on : (hold : Bool) (ahead : Ahead) → held_by hold ahead ≡ true → ahead ≢ Ready
held_by-on hold Interrupt on e = cc
held_by-on hold Ready on e = cc
held_by-on hold BreakAhead on e = cc
held_by-on hold UndefinedAhead on e = cc

-- where what is ahead does not run, the hold stays
pub held_by-stays : (hold : Bool) (ahead : Ahead) → ahead ≢ Ready → held_by hold ahead ≡ hold
held_by-stays hold Interrupt stops = refl
held_by-stays hold Ready stops = absurd (stops refl)
held_by-stays hold BreakAhead stops = refl
held_by-stays hold UndefinedAhead stops = refl

-- a step in which an interrupt is taken, and one in which none is
pub taken-begun : (part : Chip) (flash : List ℕ) (p : Machine) (d : Option Vector) → is_some d ≡ true →
    begun_by part flash p d ≡ step_by part p flash d
taken-begun part flash p (Some v) e = refl
taken-begun part flash p None e = cc

pub unheld-begun : (part : Chip) (flash : List ℕ) (p : Machine) (d : Option Vector) → is_some d ≡ false →
    begun_by part flash p d ≡ unheld flash p
unheld-begun part flash p (Some v) e = cc
unheld-begun part flash p None e = refl

pub executed-stepped : (part : Chip) (flash : List ℕ) (p : Machine) (d : Option Vector) → is_some d ≡ false →
    executed part p flash ≡ step_by part p flash d
executed-stepped part flash p (Some v) e = cc
executed-stepped part flash p None e = refl

pub taken-ahead : (flash : List ℕ) (p : Machine) (d : Option Vector) → is_some d ≡ true → Interrupt ≡ ahead_by p flash d
taken-ahead flash p (Some v) e = refl
taken-ahead flash p None e = cc

pub seen-ahead : (flash : List ℕ) (p : Machine) (d : Option Vector) → is_some d ≡ false →
    seen (decode (word_at flash p.pc) 0) ≡ ahead_by p flash d
seen-ahead flash p (Some v) e = cc
seen-ahead flash p None e = refl

module _ (part : Chip) where
  -- an instruction that runs, with any hold before it
  runs_unheld : (p : Machine) (flash : List ℕ) (hold : Bool) (instr : Instr) → seen instr ≡ Ready →
      finished part (record p { hold = hold }) flash (effect_here part (record p { hold = hold }) instr)
      ≡ finished part p flash (effect_here part p instr)
  runs_unheld p flash hold Break e = cc
  runs_unheld p flash hold Spm e = cc
  runs_unheld p flash hold (Undefined w) e = cc
  runs_unheld p flash hold _ e = refl

  by_ahead : (p : Machine) (flash : List ℕ) (ahead : Ahead) → seen (instr_at part flash p.pc) ≡ ahead →
      executed part (record p { hold = held_by p.hold ahead }) flash ≡ executed part p flash
  by_ahead p flash Ready e = runs_unheld p flash false (instr_at part flash p.pc) e
  by_ahead p flash Interrupt e = refl
  by_ahead p flash BreakAhead e = refl
  by_ahead p flash UndefinedAhead e = refl

  pub executed-unheld : (p : Machine) (flash : List ℕ) → executed part (unheld flash p) flash ≡ executed part p flash
  executed-unheld p flash =
      by_ahead p flash (seen (decode (word_at flash p.pc) 0)) (first_word_tells (word_at flash p.pc) (word_at flash (behind part p.pc 1))).2
