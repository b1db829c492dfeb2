use Rattle.std.proofs.Common.{◌≡◌, ◌≤◌, ◌+◌, ◌-◌, length, drop, not}
use Rattle.std.specs.List.{take_while}
use Rattle.asm_spec.specs.Tokens.{is_blank}
use Rattle.avr_asm.proofs.tokens.first_blank.Given as goal

abbrev pub invariant-bytes : goal.invariant-bytes
invariant-bytes l = record {
  within : l.end ≤ length l.fn.bytes;
  so_far : length (take_while (λ byte. not (is_blank byte)) l.fn.bytes)
      ≡ l.end + length (take_while (λ byte. not (is_blank byte)) (drop l.end l.fn.bytes));
}

abbrev pub decreases-bytes : goal.decreases-bytes
decreases-bytes l = length l.fn.bytes - l.end
