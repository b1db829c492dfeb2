use Rattle.std.proofs.Common.{refl}
use Rattle.std.specs.Fmt.{digits}
use Rattle.avr_spec.specs.Decode.{decode}
use Rattle.avr_spec.specs.Text.{text}
use Rattle.asm_spec.specs.Listing.{lines_from, shown}
use Rattle.asm_spec.proofs.values.listing_of_a_port.Goals as goal

pub returns-clause-port : goal.returns-clause-port
unfolding digits decode text lines_from shown
returns-clause-port c = refl

pub returns-clause-gap : goal.returns-clause-gap
unfolding digits decode text lines_from shown
returns-clause-gap c = refl
