-- The SRAM of a part is the front of what a core holds.
use Rattle.std.proofs.Common.{◌≡◌, ◌≤◌, ℕ, take, replicate, arith}
use Rattle.std.proofs.lemmas.List.{take-replicate}
use Rattle.part_spec.specs.declared.part.Part.{Part}
use Rattle.part_spec.specs.declared.part.Part.TheVariants.{M16, M32}
use Rattle.part_spec.specs.Chip.{chip_of}
use Rattle.avr_spec.specs.Machine.{sram_bytes}
use Rattle.avr_core.specs.Stands.{most_sram}

pub sram-fits : (q : Part) → sram_bytes (chip_of q) ≤ most_sram
sram-fits M16 = omega arith
sram-fits M32 = omega arith

-- at the start all of it is 0
pub sram-start : (q : Part) → take {A = ℕ} (sram_bytes (chip_of q)) (replicate most_sram 0) ≡ replicate (sram_bytes (chip_of q)) 0
sram-start q = take-replicate (sram_bytes (chip_of q)) 2048 0 (sram-fits q)
