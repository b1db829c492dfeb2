-- Where a running target stops, and what for.
use Rattle.std.specs.Prelude.{ℕ, Bool, false, ◌||◌, ◌==◌, if◌then◌else◌, List, [], ◌∷◌, Option, Some, None}
use Rattle.part_spec.specs.Chip.{Chip}
use Rattle.avr_spec.specs.declared.target.Ahead.{Ahead}
use Rattle.avr_spec.specs.declared.target.Ahead.TheVariants.{Interrupt, Ready, Break as BreakAhead, Undefined as UndefinedAhead}
use Rattle.avr_spec.specs.Machine.{Machine}
use Rattle.avr_spec.specs.Step.{ahead}
use Rattle.debug_spec.specs.Patch.{has}

-- why the target stopped: at a breakpoint, as it was asked to, after a single step or a reset, at a BREAK of the program's own, at
-- a word that it does not run, or as a page could not be written
pub data Cause : Type 0 where
  breakpoint : Cause
  forced : Cause
  by_step : Cause
  by_reset : Cause
  own_break : Cause
  undefined : Cause
  failed_write : Cause

-- the byte that stands for a cause on the line
abbrev pub cause_code : Cause → ℕ
cause_code breakpoint = 0x01
cause_code forced = 0x02
cause_code by_step = 0x03
cause_code by_reset = 0x04
cause_code own_break = 0x05
cause_code undefined = 0x06
cause_code failed_write = 0x07

-- a comparator that is set holds an address
abbrev pub compared : List (Option ℕ) → ℕ → Bool
compared [] address = false
compared (None ∷ comparators) address = compared comparators address
compared (Some other ∷ comparators) address = (address == other) || compared comparators address

-- what a word stops for
abbrev pub word_stop : Ahead → Option Cause
word_stop BreakAhead = Some own_break
word_stop UndefinedAhead = Some undefined
word_stop Ready = None
word_stop Interrupt = None

-- what the target stops for, told what is ahead: nothing where an interrupt is due; else an address comes before a word
abbrev pub stop_by : ℕ → List ℕ → List (Option ℕ) → Ahead → Option Cause
stop_by pc stops comparators Interrupt = None
stop_by pc stops comparators seen = if has stops pc || compared comparators pc then Some breakpoint else word_stop seen

-- what the target stops for under these words
abbrev pub stop : Chip → Machine → List ℕ → List ℕ → List (Option ℕ) → Option Cause
stop part p flash stops comparators = stop_by p.pc stops comparators (ahead part p flash)
