use Rattle.std.proofs.Common.{arith, ap}
use Rattle.ice_inbox.specs.Ends.{Sent}
use Rattle.ice_inbox.specs.Notes.{bytes_in}
use Rattle.ice_inbox.proofs.Notes.{bytes_in-more}
use Rattle.ice_inbox.proofs.tests.send_lines.Goals as goal

pub loop-number-init : goal.loop-number-init
loop-number-init g c = ap bytes_in c.requires

pub send-requires-clause-bounded : goal.send-requires-clause-bounded
send-requires-clause-bounded g c =
    let more = bytes_in-more c.loop-number.line.sent c.note_of.result in
    omega (arith, more, c.loop-number.invariant, c.note_of.ensures.size, c.loop-number-test.true)

pub loop-number-preserved : goal.loop-number-preserved
loop-number-preserved g c =
    let sent = ap (λ (s : Sent). bytes_in s.sent) c.send.ensures in
    omega (arith, sent, bytes_in-more c.loop-number.line.sent c.note_of.result, c.loop-number.invariant, c.note_of.ensures.size)
