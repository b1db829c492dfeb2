use Rattle.shell_spec.proofs.Streams.{begun_listing}
use Rattle.shell_spec.proofs.listing_values.listing_of_a_rest.Goals as goal

pub returns : goal.returns
returns c = begun_listing
