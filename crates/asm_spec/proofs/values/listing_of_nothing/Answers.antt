use Rattle.std.proofs.Common.{refl}
use Rattle.avr_spec.specs.Decode.{decode}
use Rattle.avr_spec.specs.Text.{text}
use Rattle.asm_spec.specs.Listing.{lines_from, shown}
use Rattle.asm_spec.proofs.values.listing_of_nothing.Goals as goal

pub returns-clause-none : goal.returns-clause-none
unfolding decode text lines_from shown
returns-clause-none c = refl

pub returns-clause-erased : goal.returns-clause-erased
unfolding decode text lines_from shown
returns-clause-erased c = refl
