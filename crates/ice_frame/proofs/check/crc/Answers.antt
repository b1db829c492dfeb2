use Rattle.line_spec.specs.Check.{check}
use Rattle.ice_frame.proofs.check.crc.Goals as goal

pub returns : goal.returns
unfolding check
returns c = c.crc_from.ensures
