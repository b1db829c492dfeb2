use Rattle.std.proofs.Common.{refl}
use Rattle.std.specs.Fmt.{digits}
use Rattle.avr_spec.specs.Decode.{decode}
use Rattle.avr_spec.specs.Text.{text}
use Rattle.asm_spec.specs.Listing.{lines_from, shown}
use Rattle.asm_spec.proofs.values.listing_of_a_long_end.Goals as goal

pub returns-clause-whole : goal.returns-clause-whole
unfolding digits decode text lines_from shown
returns-clause-whole c = refl

pub returns-clause-cut : goal.returns-clause-cut
unfolding digits decode text lines_from shown
returns-clause-cut c = refl
