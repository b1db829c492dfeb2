use Rattle.std.proofs.Common.{refl}
use Rattle.std.specs.Fmt.{digits}
use Rattle.hex.specs.Hex.{encode_with}
use Rattle.part_spec.specs.Pages.{erased}
use Rattle.avr_spec.specs.Step.{step, ahead, go_on}
use Rattle.avr_spec.specs.Decode.{decode}
use Rattle.avr_spec.specs.Timers.{tick, clocked}
use Rattle.line_spec.specs.Check.{check, checked}
use Rattle.shell_spec.proofs.generator_values.summary_with_an_event.Goals as goal

pub returns : goal.returns
unfolding digits encode_with erased step ahead go_on decode tick clocked check checked
returns c = refl
