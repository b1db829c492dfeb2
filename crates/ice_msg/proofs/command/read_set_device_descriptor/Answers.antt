use Rattle.std.proofs.Common.{[], arith}
use Rattle.line_spec.specs.Messages.{set_device_descriptor}
use Rattle.ice_msg.proofs.Requests.{known, descriptor_length, descriptor_read}
use Rattle.ice_msg.proofs.command.read_set_device_descriptor.Goals as goal

pub returns-then-rest-le-DESCRIPTOR_LIMIT : goal.returns-then-rest-le-DESCRIPTOR_LIMIT
returns-then-rest-le-DESCRIPTOR_LIMIT c = descriptor_read c.args.rest.now (λ i. omega (arith, c.type_inv.rest i)) (omega arith)

pub returns-else-rest-le-DESCRIPTOR_LIMIT : goal.returns-else-rest-le-DESCRIPTOR_LIMIT
returns-else-rest-le-DESCRIPTOR_LIMIT c = (known (set_device_descriptor []), descriptor_length c.args.rest.now (omega arith))
