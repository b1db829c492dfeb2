use Rattle.std.proofs.Common.{arith}
use Rattle.avr_core.proofs.state.Core.flash_address.Goals as goal

pub overflow_mul-result : goal.overflow_mul-result
overflow_mul-result c = omega (arith, c.self.invariant.small_mask)

pub overflow_add-result : goal.overflow_add-result
overflow_add-result c = omega (arith, c.self.invariant.small_mask)
