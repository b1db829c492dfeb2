use Rattle.std.proofs.Common.{◌≡◌, true, take}
use Rattle.std.specs.List.{list_all}
use Rattle.record_spec.specs.Lines.{is_digit, number_on}
use Rattle.ice_verify.specs.Told.{counted}
use Rattle.ice_verify.proofs.lines.read_steps.Given as goal

abbrev pub invariant-digits : goal.invariant-digits
invariant-digits l = record {
  number : l.number ≡ counted (number_on 0 (take l.digit-index l.digits));
  each : list_all is_digit (take l.digit-index l.digits) ≡ true;
}
