use Rattle.std.proofs.Common.{arith}
use Rattle.ice_msg.specs.Reading.{asked}
use Rattle.ice_msg.proofs.Requests.{known, flagged_read, flagged_longer}
use Rattle.ice_msg.proofs.command.read_flagged.Goals as goal

pub returns-then-rest-le1 : goal.returns-then-rest-le1
returns-then-rest-le1 c =
    flagged_read (asked c.args.command) c.args.rest.now c.requires (λ i. omega (arith, c.type_inv.rest i)) (omega arith)

pub returns-else-rest-le1 : goal.returns-else-rest-le1
returns-else-rest-le1 c =
    (known (asked c.args.command), flagged_longer (asked c.args.command) c.args.rest.now c.requires (omega arith))
