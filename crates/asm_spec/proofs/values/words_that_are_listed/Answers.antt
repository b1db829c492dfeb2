use Rattle.std.proofs.Common.{refl}
use Rattle.avr_spec.specs.Decode.{decode}
use Rattle.asm_spec.specs.Listing.{shown}
use Rattle.asm_spec.specs.ListingLaws.{listed_from}
use Rattle.asm_spec.proofs.values.words_that_are_listed.Goals as goal

pub returns-clause-short : goal.returns-clause-short
unfolding decode shown listed_from
returns-clause-short c = refl

pub returns-clause-long : goal.returns-clause-long
unfolding decode shown listed_from
returns-clause-long c = refl

pub returns-clause-none : goal.returns-clause-none
unfolding decode shown listed_from
returns-clause-none c = refl
