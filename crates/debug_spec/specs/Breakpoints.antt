-- Breakpoints that the host sets and clears: number 0 is a software breakpoint, and the others are the comparators.
use Rattle.std.specs.Prelude.{ℕ, zero, suc, Bool, false, ◌&&◌, ◌||◌, ◌==◌, nat_lt, nat_le, if◌then◌else◌, List, [], ◌∷◌, length, Option}
use Rattle.std.specs.Prelude.{Some, None, is_some, slice_get, slice_set}
use Rattle.part_spec.specs.Chip.{Chip, words_of}
use Rattle.line_spec.specs.declared.refusal.Refusal.TheVariants.{IllegalBreakpoint}
use Rattle.line_spec.specs.Messages.{okay, refused}
use Rattle.debug_spec.specs.Patch.{has, without, plantable}
use Rattle.debug_spec.specs.Debugger.{Debugger, comparator_count, replied}

-- the most software breakpoints
abbrev pub soft_limit : ℕ
soft_limit = 64

-- the type of a breakpoint on the program, the only one that there is (AVR067, 'Set Break')
abbrev pub program_break : ℕ
program_break = 0x01

-- a set in rising order with one address more; the same set where it has that address
abbrev pub inserted : ℕ → List ℕ → List ℕ
inserted address [] = address ∷ []
inserted address (other ∷ set) =
    if nat_lt address other then address ∷ other ∷ set else
    if address == other then other ∷ set else
    other ∷ inserted address set

-- a software breakpoint may be set at an address
abbrev pub may_set : Chip → Debugger → ℕ → Bool
may_set part s address = plantable part s.prog address && (has s.soft address || nat_lt (length s.soft) soft_limit)

-- the frame is answered that there is no such breakpoint
abbrev pub no_breakpoint : ℕ → Debugger → Debugger
no_breakpoint frame s = replied frame (refused IllegalBreakpoint) s

-- the breakpoint with a number is set at an address of the flash
abbrev pub set_numbered : Chip → ℕ → ℕ → ℕ → Debugger → Debugger
set_numbered part frame zero address s =
    if may_set part s address then replied frame okay (record s { soft = inserted address s.soft }) else no_breakpoint frame s
set_numbered part frame (suc number) address s =
    replied frame okay (record s { comparators = slice_set s.comparators number (Some address) })

-- a breakpoint is set, where its type, number and address are known
abbrev pub break_set : Chip → (frame kind number address : ℕ) → Debugger → Debugger
break_set part frame kind number address s =
    if (kind == program_break) && nat_le number comparator_count && nat_lt address (words_of part)
    then set_numbered part frame number address s else no_breakpoint frame s

-- a comparator is set
abbrev pub is_set : Option (Option ℕ) → Bool
is_set None = false
is_set (Some comparator) = is_some comparator

-- the breakpoint with a number is cleared, where it is set; a comparator at whatever address
abbrev pub break_cleared : (frame number address : ℕ) → Debugger → Debugger
break_cleared frame zero address s =
    if has s.soft address then replied frame okay (record s { soft = without address s.soft }) else no_breakpoint frame s
break_cleared frame (suc number) address s =
    if is_set (slice_get s.comparators number)
    then replied frame okay (record s { comparators = slice_set s.comparators number None }) else no_breakpoint frame s
