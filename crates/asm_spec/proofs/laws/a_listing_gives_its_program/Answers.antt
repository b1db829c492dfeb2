use Rattle.asm_spec.proofs.Given.{listings_give}
use Rattle.asm_spec.proofs.laws.a_listing_gives_its_program.Goals as goal

pub returns : goal.returns
returns c = listings_give
