use Rattle.shell_spec.proofs.Streams.{damaged_listing}
use Rattle.shell_spec.proofs.listing_values.listing_of_a_damaged_frame.Goals as goal

pub returns : goal.returns
returns c = damaged_listing
