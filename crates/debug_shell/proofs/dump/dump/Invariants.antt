use Rattle.std.proofs.Common.{◌≡◌, ◌*◌, ◌≤◌, length}
use Rattle.shell_spec.specs.Printed.{dump_lines}
use Rattle.debug_shell.proofs.dump.dump.Given as goal

abbrev pub invariant-rows : goal.invariant-rows
invariant-rows l = record {
  items : l.text.items ≡ dump_lines l.row l.address l.bytes;
  size : length l.text.items ≤ 42 * l.row;
}
