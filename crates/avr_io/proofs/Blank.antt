-- The I/O space of a start, and the 64 bytes of a reset, have their shape.
use Rattle.std.proofs.Common.{◌≡◌, ℕ, ◌<◌, ◌^◌, List, [], replicate, refl, sym, subst, arith}
use Rattle.std.proofs.lemmas.List.Elements.{All-replicate}
use Rattle.part_spec.specs.Chip.{Chip}
use Rattle.avr_spec.specs.declared.target.OutWrite.{OutWrite}
use Rattle.avr_spec.specs.Machine.{IsByte, IsShapedIo, io_start}
use Rattle.avr_spec.specs.Kept.{kept_io}
use Rattle.avr_io.specs.Keeps.{IsKeptIo}

pub blank_bytes : (cycles : ℕ) (outputs : List OutWrite) → cycles < 2 ^ 64 →
    IsShapedIo (record { bytes = replicate 64 0; cycles = cycles; outputs = outputs })
blank_bytes cycles outputs fits = record { io_length = refl; io_bytes = All-replicate IsByte 64 0 (omega arith); cycles_fit = fits }

start_is_kept : (part : Chip) → IsKeptIo (kept_io part io_start)
start_is_kept part = record {
  shape = blank_bytes 0 [] (omega arith);
  ring = record { ring_fits = omega arith; all_there = λ _. refl; total_fits = omega arith };
}

pub start_with_ring : (part : Chip) (ring : List OutWrite) → ring ≡ [] →
    IsKeptIo (record { part = part; bytes = replicate 64 0; cycles = 0; ring = ring; total = 0 })
start_with_ring part ring none =
    subst (λ (r : List OutWrite). IsKeptIo (record { part = part; bytes = replicate 64 0; cycles = 0; ring = r; total = 0 })) (sym none) (start_is_kept part)
