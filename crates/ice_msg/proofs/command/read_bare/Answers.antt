use Rattle.std.proofs.Common.{◌<◌, ◌≡◌, length, arith}
use Rattle.std.proofs.lemmas.Bool.Decides.{nat_tests}
use Rattle.ice_msg.specs.Reading.{asked}
use Rattle.ice_msg.proofs.Requests.{known, bare_read, bare_alone}
use Rattle.ice_msg.proofs.command.read_bare.Goals as goal

pub returns-then-is_empty : goal.returns-then-is_empty
returns-then-is_empty c =
    let none : length c.args.rest.now ≡ 0 = grind (arith, nat_tests) in
    bare_read (asked c.args.command) c.args.rest.now c.requires none

pub returns-else-is_empty : goal.returns-else-is_empty
returns-else-is_empty c =
    let longer : 0 < length c.args.rest.now = grind (arith, nat_tests) in
    (known (asked c.args.command), bare_alone (asked c.args.command) c.args.rest.now c.requires longer)
