use Rattle.std.proofs.Common.{◌≡◌, ◌+◌, ◌++◌, length, map, take}
use Rattle.shell_spec.specs.Printed.{character}
use Rattle.debug_shell.proofs.text.put_name.Given as goal

abbrev pub invariant-name : goal.invariant-name
invariant-name l = record {
  items : l.text.items ≡ l.fn.text.items ++ map character (take l.byte-index l.name);
  size : length l.text.items ≡ length l.fn.text.items + l.byte-index;
}
