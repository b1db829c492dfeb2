use Rattle.std.proofs.Common.{◌≡◌, ◌+◌, ◌*◌, ◌++◌, length, take}
use Rattle.hex.specs.Hex.{encode_lower}
use Rattle.debug_shell.proofs.text.put_bytes.Given as goal

abbrev pub invariant-bytes : goal.invariant-bytes
invariant-bytes l = record {
  items : l.text.items ≡ l.fn.text.items ++ encode_lower (take l.byte-index l.bytes);
  size : length l.text.items ≡ length l.fn.text.items + 2 * l.byte-index;
}
