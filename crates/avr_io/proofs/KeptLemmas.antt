-- How what is kept follows an I/O space through a store, an output write and a cycle.
use Rattle.std.proofs.Common.{◌≡◌, ℕ, ◌+◌, ◌%◌, ◌^◌, Bool, true, if◌then◌else◌, List, ◌∷◌, take, slice_set, sym, ap, ◌∙◌}
use Rattle.part_spec.specs.Chip.{Chip}
use Rattle.avr_spec.specs.declared.target.OutWrite.{OutWrite}
use Rattle.avr_spec.specs.IoSpace.{IoState, is_output, stored_byte, store_io}
use Rattle.avr_spec.specs.Timers.{one_cycle}
use Rattle.avr_spec.specs.Kept.{KeptIo, kept_io, ring_size, ring_of, total_of}
use Rattle.avr_spec.proofs.RingLemmas.{ring_of-more, total_of-more}

-- what is kept, by its fields
abbrev pub kept_of : Chip → List ℕ → ℕ → List OutWrite → ℕ → KeptIo
kept_of part bytes cycles ring total = record { part = part; bytes = bytes; cycles = cycles; ring = ring; total = total }

-- the byte at an I/O address becomes the one that a store leaves there
abbrev pub with_stored : ℕ → ℕ → IoState → IoState
with_stored a v io = record io { bytes = slice_set io.bytes a (stored_byte a v io) }

-- an output write more
pub kept-noted : (part : Chip) (k : KeptIo) (size : ℕ) (w : OutWrite) (io : IoState) → k ≡ kept_io part io → size ≡ ring_size →
    record k { ring = take size (w ∷ k.ring); total = (k.total + 1) % 2 ^ 64 } ≡ kept_io part (record io { outputs = w ∷ io.outputs })
kept-noted part k size w io e full =
    ap (λ (n : ℕ). record k { ring = take n (w ∷ k.ring); total = (k.total + 1) % 2 ^ 64 }) full ∙
    ap (λ (k : KeptIo). record k { ring = take ring_size (w ∷ k.ring); total = (k.total + 1) % 2 ^ 64 }) e ∙
    ap (λ (r : List OutWrite). record (kept_io part io) { ring = r; total = (total_of io.outputs + 1) % 2 ^ 64 }) (sym (ring_of-more w io.outputs)) ∙
    ap (λ (n : ℕ). record (kept_io part io) { ring = ring_of (w ∷ io.outputs); total = n }) (sym (total_of-more w io.outputs))

-- a store that is an output write
pub store-output : (part : Chip) (a v cycle : ℕ) (io : IoState) → is_output a ≡ true → cycle ≡ io.cycles →
    kept_io part (record (with_stored a v io) { outputs = record { cycle = cycle; a = a; byte = v } ∷ io.outputs }) ≡ kept_io part (store_io a v io)
store-output part a v cycle io out at =
    ap (λ (n : ℕ). kept_io part (record (with_stored a v io) { outputs = record { cycle = n; a = a; byte = v } ∷ io.outputs })) at ∙
    ap (λ (b : Bool). kept_io part (record (with_stored a v io) {
      outputs = if b then record { cycle = io.cycles; a = a; byte = v } ∷ io.outputs else io.outputs;
    })) (sym out)

-- a cycle more
pub kept-cycle : (part : Chip) (k : KeptIo) (io : IoState) → k ≡ kept_io part io →
    record k { cycles = (k.cycles + 1) % 2 ^ 64 } ≡ kept_io part (one_cycle io)
kept-cycle part k io e = ap (λ (k : KeptIo). record k { cycles = (k.cycles + 1) % 2 ^ 64 }) e
