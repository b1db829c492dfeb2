use Rattle.std.proofs.Common.{◌≡◌, ◌*◌}
use Rattle.ice_inbox.specs.Notes.{bytes_in}
use Rattle.ice_inbox.proofs.tests.send_lines.Given as goal

abbrev pub invariant-loop-number : goal.invariant-loop-number
invariant-loop-number g l = bytes_in l.line.sent ≡ 2 * l.number
