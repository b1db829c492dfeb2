use Rattle.std.proofs.Common.{◌≡◌, ◌<◌, ◌^◌, Some, drop}
use Rattle.shell_spec.specs.Operands.{number_on}
use Rattle.debug_shell.proofs.operands.value_of.Given as goal

abbrev pub invariant-digits : goal.invariant-digits
invariant-digits l = record {
  so_far : number_on (Some l.number) (drop l.digit-index l.word) ≡ number_on (Some 0) l.word;
  below : l.number < 16 ^ l.digit-index;
}
