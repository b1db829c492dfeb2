use Rattle.std.proofs.Common.{ℕ}
use Rattle.line_spec.specs.Messages.{Command}
use Rattle.ice_msg.specs.Reading.{asked}
use Rattle.host_session.specs.Standing.{Standing}
use Rattle.host_session.specs.Words.{Words, words_of}
use Rattle.host_session.specs.Hearing.{pending_of}
use Rattle.host_session.proofs.Answering.{asked_at, request_fails, request_ends}
use Rattle.host_session.proofs.host.Host.request.Goals as goal

pub returns-in-Err-await_frame-clause-requests : goal.returns-in-Err-await_frame-clause-requests
returns-in-Err-await_frame-clause-requests g c =
    let words : Words _ = words_of g.L.Link.sent g.L.Link.incoming g.L.Link.faults g.L.Link.sends g.L.Link.receives in
    let number : ℕ = c.args.self.now.number in
    let command : Command = asked c.args.command.now in
    let before : Standing _ = c.args.self.now.standing in
    let left = c.await_frame.new in
    let after : Standing _ = record { link = left.link; pending = pending_of left.inbox; kept = left.kept.items } in
    let taken = c.take_number-number.ensures in
    let asks = asked_at words number _ command before _ _ _ c.self.view_is taken.standing taken.number c.in-Ok.ensures.sends in
    request_fails words number _ command before _ c.in-Err-await_frame.error after taken.number asks c.in-Err-await_frame.ensures.awaits

pub returns-clause-requests : goal.returns-clause-requests
returns-clause-requests g c =
    let words : Words _ = words_of g.L.Link.sent g.L.Link.incoming g.L.Link.faults g.L.Link.sends g.L.Link.receives in
    let number : ℕ = c.args.self.now.number in
    let command : Command = asked c.args.command.now in
    let before : Standing _ = c.args.self.now.standing in
    let left = c.await_frame.new in
    let after : Standing _ = record { link = left.link; pending = pending_of left.inbox; kept = left.kept.items } in
    let taken = c.take_number-number.ensures in
    let asks = asked_at words number _ command before _ _ _ c.self.view_is taken.standing taken.number c.in-Ok.ensures.sends in
    let came = c.in-Ok-await_frame.ensures.awaits in
    request_ends words number _ command before _ c.in-Ok-await_frame.frame c.of.result after taken.number asks came.0 came.1 c.of.ensures
