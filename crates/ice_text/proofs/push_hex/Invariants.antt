use Rattle.std.proofs.Common.{◌≡◌, ◌+◌, ◌-◌, ◌*◌, ◌≤◌, ◌++◌, length, take}
use Rattle.hex.specs.Hex.{encode_lower}
use Rattle.ice_text.proofs.push_hex.Given as goal

abbrev pub invariant-pieces : goal.invariant-pieces
invariant-pieces g l = record {
  within : l.used ≤ length l.bytes;
  items : l.line.items ≡ l.fn.line.items ++ encode_lower (take l.used l.bytes);
  size : length l.line.items ≡ length l.fn.line.items + 2 * l.used;
}

abbrev pub decreases-pieces : goal.decreases-pieces
decreases-pieces g l = length l.bytes - l.used
