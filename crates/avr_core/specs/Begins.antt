-- How a step begins: an interrupt that is due is taken, and else the hold ends where an instruction runs.
use Rattle.std.specs.Prelude.{ℕ, Bool, false, List, Option, Some, None}
use Rattle.part_spec.specs.Chip.{Chip}
use Rattle.avr_spec.specs.declared.target.Vector.{Vector}
use Rattle.avr_spec.specs.declared.target.Ahead.{Ahead}
use Rattle.avr_spec.specs.declared.target.Ahead.TheVariants.{Interrupt, Ready, Break, Undefined}
use Rattle.avr_spec.specs.Decode.{decode}
use Rattle.avr_spec.specs.Machine.{Machine}
use Rattle.avr_spec.specs.Step.{word_at, due, taken, seen}

-- the hold, by what the instruction at pc is to one who looks ahead
abbrev pub held_by : Bool → Ahead → Bool
held_by hold Ready = false
held_by hold Interrupt = hold
held_by hold Break = hold
held_by hold Undefined = hold

-- the state with the hold ended, where the instruction at pc runs
abbrev pub unheld : List ℕ → Machine → Machine
unheld flash p = record p { hold = held_by p.hold (seen (decode (word_at flash p.pc) 0)) }

-- the state once a step has begun, told which interrupt is due
abbrev pub begun_by : Chip → List ℕ → Machine → Option Vector → Machine
begun_by part flash p (Some v) = taken part v p
begun_by part flash p None = unheld flash p

-- the state once a step has begun
abbrev pub begun : Chip → List ℕ → Machine → Machine
begun part flash p = begun_by part flash p (due part p)
