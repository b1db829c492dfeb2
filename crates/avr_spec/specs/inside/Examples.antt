-- How the examples of `src/values.rt` are set up and read.
use Rattle.std.specs.Prelude.{ℕ, zero, suc, List, [], ◌∷◌, ◌++◌, map, replicate}
use Rattle.part_spec.specs.Chip.{Chip, m16}
use Rattle.avr_spec.specs.Machine.{Machine, machine_start}
use Rattle.avr_spec.specs.Memory.{load, store}
use Rattle.avr_spec.specs.Step.{step}

-- a state with these bytes stored at these data addresses, the first pair last
abbrev pub with_bytes : Chip → List (ℕ × ℕ) → Machine → Machine
with_bytes part [] p = p
with_bytes part (b ∷ bytes) p = store part b.0 b.1 (with_bytes part bytes p)

-- the start state of a part with these bytes at these data addresses
abbrev pub given_on : Chip → List (ℕ × ℕ) → Machine
given_on part bytes = with_bytes part bytes (machine_start part)

-- the same of an ATmega16
abbrev pub given : List (ℕ × ℕ) → Machine
given bytes = given_on m16 bytes

-- the bytes at these data addresses
abbrev pub data_on : Chip → Machine → List ℕ → List ℕ
data_on part p addresses = map (λ address. load part address p) addresses

-- the same of an ATmega16
abbrev pub data_at : Machine → List ℕ → List ℕ
data_at p addresses = data_on m16 p addresses

-- the state of an ATmega16 after n steps
abbrev pub after_steps : ℕ → Machine → List ℕ → Machine
after_steps zero p flash = p
after_steps (suc n) p flash = after_steps n (step m16 p flash) flash

-- pc, cycles and steps
abbrev pub progress : Machine → List ℕ
progress p = p.pc ∷ p.io.cycles ∷ p.steps ∷ []

-- the start of a C program as a compiler makes it: it clears r1 and SREG, sets SP to 045F, copies the four bytes at flash byte 30
-- to SRAM and calls `main` at word 10; erased words stand between the code and those bytes
abbrev pub start_code : List ℕ
start_code =
    (0x2411 ∷ 0xbe1f ∷ 0xe5cf ∷ 0xe0d4 ∷ 0xbfde ∷ 0xbfcd ∷ 0xe3e0 ∷ 0xe0f0 ∷ 0xe6a0 ∷ 0xe0b0 ∷ 0x9105 ∷ 0x930d ∷ 0x36a4 ∷
    0xf7e1 ∷ 0xd001 ∷ 0xcfff ∷ 0xe001 ∷ 0xbb08 ∷ 0x9508 ∷ []) ++ replicate 5 0xffff ++ (0x2211 ∷ 0x4433 ∷ [])
