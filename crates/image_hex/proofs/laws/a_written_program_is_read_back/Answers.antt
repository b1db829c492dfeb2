use Rattle.image_hex.proofs.Writing.{hex_image-written}
use Rattle.image_hex.proofs.laws.a_written_program_is_read_back.Goals as goal

pub returns : goal.returns
returns c = hex_image-written
