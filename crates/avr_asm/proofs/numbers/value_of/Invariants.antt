use Rattle.std.proofs.Common.{◌≡◌, ◌≤◌, drop}
use Rattle.asm_spec.specs.Tokens.{number_on}
use Rattle.avr_asm.specs.Told.{capped, most}
use Rattle.avr_asm.proofs.numbers.value_of.Given as goal

abbrev pub invariant-digits : goal.invariant-digits
invariant-digits l = record {
  so_far : capped (number_on l.base l.number (drop l.digit-index l.digits)) ≡ capped (number_on l.base 0 l.digits);
  within : l.number ≤ most;
}
