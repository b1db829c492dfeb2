-- Behind what a core keeps stands a state of the machine.
use Rattle.std.proofs.Common.{◌≡◌, ℕ, ◌<◌, ◌^◌, Bool, List, take, refl, sym, arith}
use Rattle.std.proofs.lemmas.List.{length-take-le}
use Rattle.std.proofs.lemmas.List.Elements.{All-take}
use Rattle.part_spec.specs.declared.part.Part.{Part}
use Rattle.part_spec.specs.Chip.{Chip, chip_of}
use Rattle.avr_spec.specs.IoSpace.{IoState}
use Rattle.avr_spec.specs.Machine.{Machine, IsByte, sram_bytes}
use Rattle.avr_spec.specs.Kept.{Kept, KeptIo, kept, kept_io}
use Rattle.avr_spec.proofs.RingLemmas.{ring_has_outputs}
use Rattle.avr_spec.proofs.ShapeLemmas.{io_outputs}
use Rattle.avr_io.specs.Keeps.{io_of, IsKeptIo}
use Rattle.avr_core.specs.Stands.{IsShapedCore, StandsForSome}
use Rattle.avr_core.proofs.Sram.{sram-fits}

-- what a core keeps that has these fields
abbrev pub kept_as : Part → ℕ → List ℕ → KeptIo → List ℕ → ℕ → Bool → Kept
kept_as q pc registers io sram steps hold = record {
  part = chip_of q;
  pc = pc;
  registers = registers;
  io = io;
  sram = take (sram_bytes (chip_of q)) sram;
  steps = steps;
  hold = hold;
}

pub stands : (q : Part) (pc : ℕ) (registers : List ℕ) (io : KeptIo) (sram : List ℕ) (steps : ℕ) (hold : Bool) (mask sram_end : ℕ) →
    IsShapedCore (chip_of q) pc registers io sram mask sram_end → IsKeptIo io → steps < 2 ^ 64 →
    StandsForSome (kept_as q pc registers io sram steps hold)
stands q pc registers io sram steps hold mask sram_end shape is_kept fits =
    let has = ring_has_outputs io.ring io.total is_kept.ring in
    let state_io : IoState = record { bytes = io.bytes; cycles = io.cycles; outputs = has.outputs } in
    let same_io : io ≡ kept_io (chip_of q) state_io =
    λ i. record { part = shape.same_part i; bytes = io.bytes; cycles = io.cycles; ring = sym has.is_ring i; total = sym has.is_total i } in
    let front = take (sram_bytes (chip_of q)) sram in
    record {
      state = record { pc = pc; registers = registers; io = state_io; sram = front; steps = steps; hold = hold };
      is = λ i. record {
        part = chip_of q;
        pc = pc;
        registers = registers;
        io = same_io i;
        sram = front;
        steps = steps;
        hold = hold;
      };
      shape = record {
        pc_in_flash = shape.pc_in_flash;
        registers_length = shape.registers_length;
        registers_bytes = shape.registers_bytes;
        io = io_outputs (io_of io) state_io is_kept.shape refl refl;
        sram_length = length-take-le (sram_bytes (chip_of q)) sram (omega (arith, shape.sram_length, sram-fits q));
        sram_all_bytes = All-take IsByte (sram_bytes (chip_of q)) sram shape.sram_all_bytes;
        steps_fit = fits;
      };
    }

-- an I/O space moved within a core
pub moved_io : (core : Kept) (io : KeptIo) (part : Chip) (p : Machine) (after : IoState) → core ≡ kept part p → io ≡ kept_io part after →
    record core { io = io } ≡ kept part (record p { io = after })
moved_io core io part p after h e = λ i. record (h i) { io = e i }
