use Rattle.avr_spec.proofs.StatusLemmas.{flags_of_byte, byte_of_flags}
use Rattle.avr_spec.proofs.laws.status_is_flags.Goals as goal

pub returns-clause-of_byte : goal.returns-clause-of_byte
returns-clause-of_byte c = flags_of_byte

pub returns-clause-of_flags : goal.returns-clause-of_flags
returns-clause-of_flags c = byte_of_flags
