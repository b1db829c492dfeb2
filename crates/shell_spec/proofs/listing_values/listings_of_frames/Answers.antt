use Rattle.std.proofs.Common.{refl}
use Rattle.std.specs.Fmt.{digits}
use Rattle.hex.specs.Hex.{encode_with}
use Rattle.shell_spec.proofs.listing_values.listings_of_frames.Goals as goal

pub returns-clause-frames : goal.returns-clause-frames
unfolding digits encode_with
returns-clause-frames c = refl
