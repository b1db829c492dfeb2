use Rattle.std.proofs.Common.{sym, subst}
use Rattle.ice_frame.specs.Front.{frame_of}
use Rattle.ice_recv.specs.Received.{Received}
use Rattle.ice_emul.specs.Feeding.{TakesOff}
use Rattle.ice_emul.proofs.TakingBytes.{off_by, taken_off}
use Rattle.ice_emul.proofs.emulator.Emulator.take_waiting.Goals as goal

pub returns-then-goes_on-clause-off : goal.returns-then-goes_on-clause-off
returns-then-goes_on-clause-off g c =
    subst (λ (r : Received). TakesOff c.hear-next.result c.args.self.now.receiver r) (sym c.hear-next.ensures.receiver)
    (off_by c.hear-next.result c.args.self.now.receiver c.next.new.self c.hear-next.ensures.some
    (taken_off c.args.self.now.receiver c.next.new.self (frame_of c.in-Some.frame) c.in-Some.ensures))

pub returns-else-goes_on-clause-off : goal.returns-else-goes_on-clause-off
returns-else-goes_on-clause-off g c =
    subst (λ (r : Received). TakesOff c.hear-next.result c.args.self.now.receiver r) (sym c.hear-next.ensures.receiver)
    (off_by c.hear-next.result c.args.self.now.receiver c.next.new.self c.hear-next.ensures.some
    (taken_off c.args.self.now.receiver c.next.new.self (frame_of c.in-Some.frame) c.in-Some.ensures))

pub returns-then-goes_on-clause-still : goal.returns-then-goes_on-clause-still
returns-then-goes_on-clause-still g c = λ idle. absurd (c.hear-next.ensures.some idle)

pub returns-else-goes_on-clause-still : goal.returns-else-goes_on-clause-still
returns-else-goes_on-clause-still g c = λ idle. absurd (c.hear-next.ensures.some idle)
