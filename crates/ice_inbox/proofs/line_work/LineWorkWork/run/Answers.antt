use Rattle.std.proofs.Common.{ap, ◌∙◌, arith}
use Rattle.ice_inbox.proofs.Notes.{bytes_in-more}
use Rattle.ice_inbox.proofs.Chunks.{none_last, is_end}
use Rattle.ice_inbox.specs.Notes.{bytes_in}
use Rattle.ice_inbox.proofs.line_work.LineWorkWork.run.Goals as goal

pub send-requires-clause-of_line : goal.send-requires-clause-of_line
send-requires-clause-of_line g c =
    let sent = c.send_chunks-last.ensures.sent in
    (is_end g.S.Source.left g.S.Source.faults c.args.self.source (bytes_in c.send_chunks-last.new.sender.sent) sent.unsent
    c.send_chunks-last.result c.send_chunks-last.new.source sent.ended).1

pub send-requires-clause-bounded : goal.send-requires-clause-bounded
send-requires-clause-bounded g c =
    let sent = c.send_chunks-last.ensures.sent in
    let last = is_end g.S.Source.left g.S.Source.faults c.args.self.source (bytes_in c.send_chunks-last.new.sender.sent) sent.unsent
    c.send_chunks-last.result c.send_chunks-last.new.source sent.ended in
    omega (arith, bytes_in-more c.send_chunks-last.new.sender.sent c.send_chunks-last.result, sent.bounded, last.2)

pub returns : goal.returns
returns g c =
    let sent = c.send_chunks-last.ensures.sent in
    let last = is_end g.S.Source.left g.S.Source.faults c.args.self.source (bytes_in c.send_chunks-last.new.sender.sent) sent.unsent
    c.send_chunks-last.result c.send_chunks-last.new.source sent.ended in
    record {
      inbox = ap (λ s. s.inbox) c.send.ensures ∙ c.send_chunks-last.ensures.inbox;
      ends = record {
        before = c.send_chunks-last.new.sender.sent;
        last = c.send_chunks-last.result;
        whole = ap (λ s. s.sent) c.send.ensures;
        once = none_last c.send_chunks-last.new.sender.sent sent.each;
        ends = last.0;
      };
      sent = sent;
    }
