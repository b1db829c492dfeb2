use Rattle.std.proofs.Common.{refl}
use Rattle.std.specs.Fmt.{digits}
use Rattle.avr_spec.specs.Decode.{decode}
use Rattle.avr_spec.specs.Text.{text}
use Rattle.asm_spec.specs.Listing.{lines_from, shown}
use Rattle.asm_spec.proofs.values.listing_of_a_jump_out.Goals as goal

pub returns-clause-small : goal.returns-clause-small
unfolding digits decode text lines_from shown
returns-clause-small c = refl

pub returns-clause-large : goal.returns-clause-large
unfolding digits decode text lines_from shown
returns-clause-large c = refl
