-- The laws of the definitions, as facts. Each is proved as the contract of a function of `src/laws.rt`.
use Rattle.std.specs.Prelude.{◌≡◌, ℕ, ◌+◌, ◌%◌, ◌^◌, ◌<◌, ◌≤◌, ◌⊎◌, Bool, true, false, IsTrue, List, Option, Some, None, slice_get}
use Rattle.std.specs.Prelude.{MatchOption, ⊤}
use Rattle.part_spec.specs.Chip.{Chip, words_of}
use Rattle.avr_spec.specs.declared.instruction.Instr.TheVariants.{Undefined}
use Rattle.avr_spec.specs.declared.target.OutWrite.{OutWrite}
use Rattle.avr_spec.specs.declared.target.Ahead.{Ahead}
use Rattle.avr_spec.specs.declared.target.Ahead.TheVariants.{Interrupt, Ready, Break as BreakAhead, Undefined as UndefinedAhead}
use Rattle.avr_spec.specs.Table.{Row, table}
use Rattle.avr_spec.specs.Fields.{FieldsFit}
use Rattle.avr_spec.specs.Decode.{bits, fits, field_of, decode, words, skips}
use Rattle.avr_spec.specs.declared.target.Vector.{Vector}
use Rattle.avr_spec.specs.Sreg.{Flags, flags_of, byte_of}
use Rattle.avr_spec.specs.IoSpace.{IoState}
use Rattle.avr_spec.specs.Timers.{timer0, timer2, divisor, ticks}
use Rattle.avr_spec.specs.Interrupts.{address_of, is_pending, pending}
use Rattle.avr_spec.specs.Machine.{Machine, IsShaped, sram_start}
use Rattle.avr_spec.specs.Kept.{IsRing, ring_of, total_of}
use Rattle.avr_spec.specs.Effect.{Effect, Reads_flash}
use Rattle.avr_spec.specs.Step.{word_at, flash_byte, behind, effect_here, instr_at, seen, step, go_on, ahead}

-- these bits have the fixed bits of a row, if there is one
abbrev pub has_row : Option Row → List ℕ → Bool
has_row None bits = false
has_row (Some row) bits = fits row.letters bits

-- no word has two rows
abbrev pub RowsExclude : Type 0
RowsExclude = (word i j : ℕ) →
    IsTrue (has_row (slice_get table i) (bits word)) → IsTrue (has_row (slice_get table j) (bits word)) → i ≡ j

-- a first word has a row, and with any second word is the instruction that the row says
pub record HasRow (first : ℕ) : Type 0 where
  pub row : Row
  pub index : ℕ
  pub there : slice_get table index ≡ Some row
  pub fixed : fits row.letters (bits first) ≡ true
  pub says : (second : ℕ) → decode first second ≡ row.instr (field_of row.letters first) second

-- a first word has no row, and is undefined
pub record HasNone (first : ℕ) : Type 0 where
  pub none : (i : ℕ) → has_row (slice_get table i) (bits first) ≡ false
  pub undefined : (second : ℕ) → decode first second ≡ Undefined first

-- each first word has a row or is undefined
abbrev pub EachWordDecodes : Type 0
EachWordDecodes = (first : ℕ) → HasRow first ⊎ HasNone first

-- a first word alone tells how many words its instruction has, whether it may skip, and what a look ahead sees
abbrev pub FirstWordTells : Type 0
FirstWordTells = (first second : ℕ) →
    (words (decode first second) ≡ words (decode first 0)) × (skips (decode first second) ≡ skips (decode first 0)) ×
    (seen (decode first second) ≡ seen (decode first 0))

-- the fields of a decoded instruction fit their bits
abbrev pub DecodedFieldsFit : Type 0
DecodedFieldsFit = (first second : ℕ) → first < 65536 → second < 65536 → FieldsFit (decode first second)

-- n ticks and then m ticks are n + m ticks
abbrev pub TicksAdd : Type 0
TicksAdd = (n m : ℕ) (io : IoState) → ticks (n + m) io ≡ ticks m (ticks n io)

-- with both timers still, ticks change the count of cycles alone
abbrev pub StillTimersOnlyCount : Type 0
StillTimersOnlyCount = (n : ℕ) (io : IoState) → divisor timer0 io ≡ 0 → divisor timer2 io ≡ 0 → io.cycles < 2 ^ 64 →
    ticks n io ≡ record io { cycles = (io.cycles + n) % 2 ^ 64 }

-- an interrupt is pending, and no pending one has a lower address
pub record IsFirst (part : Chip) (io : IoState) (v : Vector) : Type 0 where
  pub pending : is_pending io v ≡ true
  pub least : (w : Vector) → is_pending io w ≡ true → address_of part v ≤ address_of part w

-- of the pending interrupts the one with the lowest address goes first, and none goes where none is pending
abbrev pub PendingIsLowest : Type 0
PendingIsLowest = (part : Chip) (io : IoState) →
    MatchOption (pending part io) ((w : Vector) → is_pending io w ≡ false) (IsFirst part io)

-- a part whose numbers make sense: it has flash, its vectors lie in it, and its SRAM begins behind the I/O space
pub record IsChip (part : Chip) : Type 0 where
  pub has_flash : 0 < words_of part
  pub vectors_in_flash : (v : Vector) → address_of part v < words_of part
  pub sram_behind_io : sram_start ≤ part.sram_end

-- a step keeps the shape of the state, under any words
abbrev pub StepKeepsShape : Type 0
StepKeepsShape = (part : Chip) (p : Machine) (flash : List ℕ) → IsChip part → IsShaped part p → IsShaped part (step part p flash)

-- the same for a step that runs a BREAK
abbrev pub GoKeepsShape : Type 0
GoKeepsShape = (part : Chip) (p : Machine) (flash : List ℕ) → IsChip part → IsShaped part p → IsShaped part (go_on part p flash)

-- the count of steps after one step more
abbrev pub one_more : Machine → ℕ
one_more p = (p.steps + 1) % 2 ^ 64

-- what a step leaves, by what it meets: one step more, or the state itself
abbrev pub StepsBy : Ahead → Machine → Machine → Type 0
StepsBy Interrupt p after = after.steps ≡ one_more p
StepsBy Ready p after = after.steps ≡ one_more p
StepsBy BreakAhead p after = after ≡ p
StepsBy UndefinedAhead p after = after ≡ p

-- a step raises the count of steps by 1; before a BREAK or an undefined word it leaves the state as it is
abbrev pub StepRaisesSteps : Type 0
StepRaisesSteps = (part : Chip) (p : Machine) (flash : List ℕ) → StepsBy (ahead part p flash) p (step part p flash)

-- the same of a step that runs a BREAK
abbrev pub GoesBy : Ahead → Machine → Machine → Type 0
GoesBy UndefinedAhead p after = after ≡ p
GoesBy _ p after = after.steps ≡ one_more p

abbrev pub GoRaisesSteps : Type 0
GoRaisesSteps = (part : Chip) (p : Machine) (flash : List ℕ) → GoesBy (ahead part p flash) p (go_on part p flash)

-- two flashes have the same byte where an effect reads one
abbrev pub SameByteRead : Effect → List ℕ → List ℕ → Type 0
SameByteRead (Reads_flash cycles address after) flash other = flash_byte flash address ≡ flash_byte other address
SameByteRead _ flash other = ⊤

-- two flashes look the same to the step at p: at pc, behind it, and at the byte that the instruction reads
pub record LookTheSame (part : Chip) (p : Machine) (flash other : List ℕ) : Type 0 where
  pub here : word_at flash p.pc ≡ word_at other p.pc
  pub next : word_at flash (behind part p.pc 1) ≡ word_at other (behind part p.pc 1)
  pub byte : SameByteRead (effect_here part p (instr_at part flash p.pc)) flash other

-- a step sees no more of the flash than that
abbrev pub StepSeesLittle : Type 0
StepSeesLittle = (part : Chip) (p : Machine) (flash other : List ℕ) → LookTheSame part p flash other →
    step part p flash ≡ step part p other

-- a look ahead sees the word at pc alone
abbrev pub AheadSeesOneWord : Type 0
AheadSeesOneWord = (part : Chip) (p : Machine) (flash other : List ℕ) → word_at flash p.pc ≡ word_at other p.pc →
    ahead part p flash ≡ ahead part p other

-- some list of output writes has this ring and this total
pub record HasOutputs (ring : List OutWrite) (total : ℕ) : Type 0 where
  pub outputs : List OutWrite
  pub is_ring : ring_of outputs ≡ ring
  pub is_total : total_of outputs ≡ total

-- what is kept of output writes is a ring, and behind each ring stands some list of output writes
abbrev pub KeptIsRing : Type 0
KeptIsRing = (outputs : List OutWrite) → IsRing (ring_of outputs) (total_of outputs)

abbrev pub RingHasOutputs : Type 0
RingHasOutputs = (ring : List OutWrite) (total : ℕ) → IsRing ring total → HasOutputs ring total

-- SREG as a byte and as flags are the same thing
abbrev pub FlagsOfByte : Type 0
FlagsOfByte = (f : Flags) → flags_of (byte_of f) ≡ f

abbrev pub ByteOfFlags : Type 0
ByteOfFlags = (byte : ℕ) → byte < 256 → byte_of (flags_of byte) ≡ byte
