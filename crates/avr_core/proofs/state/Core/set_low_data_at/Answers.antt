use Rattle.std.proofs.Common.{rules, refl}
use Rattle.avr_core.proofs.state.Core.set_low_data_at.Goals as goal

pub returns-then-address-lt-IO_START : goal.returns-then-address-lt-IO_START
returns-then-address-lt-IO_START c = λ part p h. search (rules, c.set_reg.ensures part, refl)

pub returns-else-address-lt-IO_START : goal.returns-else-address-lt-IO_START
returns-else-address-lt-IO_START c = λ part p h. search (rules, c.store_io.ensures part, refl)
