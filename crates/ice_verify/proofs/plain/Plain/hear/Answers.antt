use Rattle.std.proofs.Common.{◌+◌, ℕ, arith}
use Rattle.line_spec.specs.Hearing.{dropped}
use Rattle.line_spec.proofs.FrameBytes.{length-bytes_of}
use Rattle.ice_frame.specs.Front.{frame_of}
use Rattle.ice_verify.proofs.HearingWell.{drops_well}
use Rattle.ice_verify.proofs.plain.Plain.hear.Goals as goal

pub returns-then-frame-clause-hears : goal.returns-then-frame-clause-hears
returns-then-frame-clause-hears c =
    let frame = frame_of c.args.frame.now in
    let count : ℕ = 10 + c.len.result in (
      dropped count,
      (c.if-frame.true, omega (arith, length-bytes_of frame, c.len.ensures.value)),
      drops_well count c.args.self.now.tool c.drop_bytes.new.self c.args.self.now.core c.args.self.now.comparators c.args.out.now.items
          c.requires.listens c.drop_bytes.ensures,
    )
