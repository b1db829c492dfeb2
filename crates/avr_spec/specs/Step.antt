-- A step of the target: a due interrupt, or the instruction at pc. Source: AVR Instruction Set Manual and ATmega16 datasheet,
-- "Reset and Interrupt Handling": after SEI and RETI one more instruction runs before any interrupt.
use Rattle.std.specs.Prelude.{ℕ, ◌+◌, ◌/◌, ◌%◌, ◌^◌, Bool, false, not, ◌&&◌, ◌==◌, if◌then◌else◌, List, Option, Some, None, slice_index}
use Rattle.part_spec.specs.Chip.{Chip, words_of}
use Rattle.avr_spec.specs.declared.instruction.Instr.{Instr}
use Rattle.avr_spec.specs.declared.instruction.Instr.TheVariants.{Break, Spm, Undefined}
use Rattle.avr_spec.specs.declared.target.Vector.{Vector}
use Rattle.avr_spec.specs.declared.target.Ahead.{Ahead}
use Rattle.avr_spec.specs.declared.target.Ahead.TheVariants.{Interrupt, Ready, Break as BreakAhead, Undefined as UndefinedAhead}
use Rattle.avr_spec.specs.Bytes.{low, high}
use Rattle.avr_spec.specs.Decode.{decode, words}
use Rattle.avr_spec.specs.Timers.{ticks}
use Rattle.avr_spec.specs.Interrupts.{pending, take_flag, address_of}
use Rattle.avr_spec.specs.Machine.{Machine}
use Rattle.avr_spec.specs.Memory.{has_flag, with_flag, pushed_pc}
use Rattle.avr_spec.specs.Effect.{Effect, Acts, Skips, Reads_flash, At_break, At_undefined, effect}

-- the word of a flash at a word address
abbrev pub word_at : List ℕ → ℕ → ℕ
word_at flash address = slice_index flash address

-- the byte of a flash at a byte address: the low byte of a word stands at the even address
abbrev pub flash_byte : List ℕ → ℕ → ℕ
flash_byte flash address = if address % 2 == 0 then low (word_at flash (address / 2)) else high (word_at flash (address / 2))

-- the word address so many words behind another, modulo the flash
abbrev pub behind : Chip → ℕ → ℕ → ℕ
behind part address n = (address + n) % words_of part

-- the instruction at a word address
abbrev pub instr_at : Chip → List ℕ → ℕ → Instr
instr_at part flash address = decode (word_at flash address) (word_at flash (behind part address 1))

-- the words of the instruction at a word address, by its first word
abbrev pub words_at : List ℕ → ℕ → ℕ
words_at flash address = words (decode (word_at flash address) 0)

-- the state with pc so many words on, and the hold off
abbrev pub advanced : Chip → ℕ → Machine → Machine
advanced part n p = record p { pc = behind part p.pc n; hold = false }

-- the end of a step that began at p: the ticks of its cycles, and one step more, modulo 2^64
abbrev pub ended : ℕ → Machine → Machine → Machine
ended cycles p after = record after { io = ticks cycles after.io; steps = (p.steps + 1) % 2 ^ 64 }

-- the interrupt that is due: I is set, the hold is off, and it is pending
abbrev pub due : Chip → Machine → Option Vector
due part p = if has_flag p 7 && not p.hold then pending part p.io else None

-- the state after the entry of an interrupt, before its ticks: pc is pushed, then I and the flag are cleared
abbrev pub entered : Chip → Vector → Machine → Machine
entered part v p = let pushed = with_flag 7 false (pushed_pc part p) in
    record pushed { pc = address_of part v; io = take_flag v pushed.io; hold = false }

-- the state after an interrupt is taken, in 4 cycles
abbrev pub taken : Chip → Vector → Machine → Machine
taken part v p = ended 4 p (entered part v p)

-- a skip of the next instruction, where it is skipped: 1 cycle, and 1 for each word skipped
abbrev pub skipped : Chip → Machine → List ℕ → Bool → Machine
skipped part p flash skips =
    let over = if skips then words_at flash (behind part p.pc 1) else 0 in ended (1 + over) p (advanced part (1 + over) p)

-- the state after an effect that began at p; of the flash it sees what is skipped and the byte read
abbrev pub finished : Chip → Machine → List ℕ → Effect → Machine
finished part p flash (Acts cycles after) = ended cycles p after
finished part p flash (Skips skips) = skipped part p flash skips
finished part p flash (Reads_flash cycles address after) = ended cycles p (after (flash_byte flash address))
finished part p flash At_break = p
finished part p flash At_undefined = p

-- the effect of an instruction that stands at pc
abbrev pub effect_here : Chip → Machine → Instr → Effect
effect_here part p instr = effect part instr (advanced part (words instr) p)

-- the state after the instruction at pc; the state itself where it does not run
abbrev pub executed : Chip → Machine → List ℕ → Machine
executed part p flash = finished part p flash (effect_here part p (instr_at part flash p.pc))

-- the state after a step: the due interrupt taken, or with none due the instruction at pc executed
unfoldable pub step : Chip → Machine → List ℕ → Machine
step part p flash = elim (due part p) [ Some v ↦ taken part v p | None ↦ executed part p flash ]

-- what an instruction is to one who looks ahead
abbrev pub seen : Instr → Ahead
seen Break = BreakAhead
seen Spm = UndefinedAhead
seen (Undefined w) = UndefinedAhead
seen _ = Ready

-- what the next step meets, by the first word at pc alone
unfoldable pub ahead : Chip → Machine → List ℕ → Ahead
ahead part p flash = elim (due part p) [ Some v ↦ Interrupt | None ↦ seen (decode (word_at flash p.pc) 0) ]

-- the state after a BREAK ran as a NOP of one cycle
abbrev pub break_skipped : Chip → Machine → Machine
break_skipped part p = ended 1 p (advanced part 1 p)

-- the state after a step, told what it meets
abbrev pub go_by : Chip → Machine → List ℕ → Ahead → Machine
go_by part p flash BreakAhead = break_skipped part p
go_by part p flash _ = step part p flash

-- the state after a step that runs a BREAK as a NOP
unfoldable pub go_on : Chip → Machine → List ℕ → Machine
go_on part p flash = go_by part p flash (ahead part p flash)
