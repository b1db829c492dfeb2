use Rattle.std.proofs.Common.{◌≡◌, ◌≤◌, ◌+◌, ◌-◌, length, drop, not}
use Rattle.std.specs.Prelude.{◌==◌}
use Rattle.std.specs.List.{take_while}
use Rattle.avr_asm.proofs.tokens.before.Given as goal

abbrev pub invariant-bytes : goal.invariant-bytes
invariant-bytes l = record {
  within : l.end ≤ length l.fn.bytes;
  so_far : length (take_while (λ other. not (other == l.fn.stop)) l.fn.bytes)
      ≡ l.end + length (take_while (λ other. not (other == l.fn.stop)) (drop l.end l.fn.bytes));
}

abbrev pub decreases-bytes : goal.decreases-bytes
decreases-bytes l = length l.fn.bytes - l.end
