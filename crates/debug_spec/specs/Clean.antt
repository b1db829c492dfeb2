-- Clean steps and clean runs: the program takes no planted word as an operand or as data.
use Rattle.std.specs.Prelude.{ℕ, zero, suc, ◌/◌, Bool, true, false, not, ◌&&◌, ◌==◌, if◌then◌else◌, List, Some, None}
use Rattle.part_spec.specs.Chip.{Chip}
use Rattle.avr_spec.specs.declared.instruction.Instr.{Instr}
use Rattle.avr_spec.specs.Decode.{words}
use Rattle.avr_spec.specs.Effect.{Effect, Acts, Skips, Reads_flash, At_break, At_undefined}
use Rattle.avr_spec.specs.Machine.{Machine}
use Rattle.avr_spec.specs.Step.{behind, instr_at, due, effect_here}
use Rattle.debug_spec.specs.Patch.{has, without}
use Rattle.debug_spec.specs.Run.{Run, onward, end_by}

-- an effect reads a byte of a planted word
abbrev pub reads_planted : List ℕ → Effect → Bool
reads_planted set (Acts cycles after) = false
reads_planted set (Skips over) = false
reads_planted set (Reads_flash cycles address after) = has set (address / 2)
reads_planted set At_break = false
reads_planted set At_undefined = false

-- an instruction that stands at pc has no planted word as its second word, and reads none
abbrev pub is_clean : Chip → Machine → List ℕ → Instr → Bool
is_clean part p set instr =
    not ((words instr == 2) && has set (behind part p.pc 1)) && not (reads_planted set (effect_here part p instr))

-- the step of a program is clean with a set planted
abbrev pub clean_step : Chip → Machine → List ℕ → List ℕ → Bool
clean_step part p prog set = elim (due part p) [ Some v ↦ true | None ↦ is_clean part p set (instr_at part prog p.pc) ]

-- the addresses that are planted in a run's next step: in its first step all but its start
abbrev pub planted_now : Run → List ℕ
planted_now r = if r.fresh then without r.start.pc r.stops else r.stops

-- the first n steps of a run of the program are clean
abbrev pub clean_for : Chip → Run → ℕ → Bool
clean_for part r zero = true
clean_for part r (suc n) = clean_step part r.start r.first (planted_now r) && clean_for part (onward part r) n

-- a run of the program is clean to its end, or for n steps where it has not ended within them
abbrev pub clean_run : Chip → Run → Bool → ℕ → Bool
clean_run part r write_failed n = clean_for part r (end_by part r write_failed n).steps
