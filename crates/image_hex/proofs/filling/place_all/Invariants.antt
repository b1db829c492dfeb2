use Rattle.std.proofs.Common.{◌≡◌, ◌+◌, drop}
use Rattle.image_hex.specs.Hex.{all_placed}
use Rattle.image_hex.proofs.filling.place_all.Given as goal

abbrev pub invariant-loop-byte : goal.invariant-loop-byte
invariant-loop-byte l = record {
  place : l.address ≡ l.start + l.byte-index;
  rest : all_placed (drop l.byte-index l.content) l.address l.flash ≡ all_placed l.content l.start l.initial.flash;
}
