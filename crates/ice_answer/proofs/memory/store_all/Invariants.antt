use Rattle.std.proofs.Common.{◌≡◌, take}
use Rattle.avr_core.specs.Stands.{Moves}
use Rattle.avr_spec.specs.Memory.{store}
use Rattle.debug_spec.specs.MemoryTypes.{stored_from}
use Rattle.ice_answer.proofs.memory.store_all.Given as goal

abbrev pub invariant-loop-place : goal.invariant-loop-place
invariant-loop-place l = record {
  moves : Moves l.fn.core l.core (λ part p. stored_from (store part) l.address (take l.place l.bytes) p);
  part : l.core.part ≡ l.fn.core.part;
}
