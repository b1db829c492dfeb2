use Rattle.shell_spec.proofs.Listings.{every-listing}
use Rattle.shell_spec.proofs.laws.every_stream_has_a_listing.Goals as goal

pub returns : goal.returns
returns c = every-listing
