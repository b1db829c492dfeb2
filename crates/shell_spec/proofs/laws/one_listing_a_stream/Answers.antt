use Rattle.shell_spec.proofs.Listings.{one-listing}
use Rattle.shell_spec.proofs.laws.one_listing_a_stream.Goals as goal

pub returns : goal.returns
returns c = one-listing
