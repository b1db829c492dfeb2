use Rattle.std.proofs.Common.{[]}
use Rattle.line_spec.proofs.Cuts.{IsPartial-nil}
use Rattle.ice_frame.proofs.scan.tests.answers.Goals as goal

pub loop-byte-init : goal.loop-byte-init
loop-byte-init c = record {
  going = λ e. ([], c.start-scan.ensures, IsPartial-nil);
  looks = c.new-looks.ensures;
}
