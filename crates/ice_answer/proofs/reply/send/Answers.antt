use Rattle.std.proofs.Common.{◌+◌, ◌≤◌, length, length-append, ap, arith}
use Rattle.line_spec.specs.Frames.{Frame}
use Rattle.line_spec.proofs.FrameBytes.{length-bytes_of}
use Rattle.ice_answer.proofs.reply.send.Goals as goal

pub append-requires : goal.append-requires
append-requires c =
    let frame : Frame = record { number = c.args.seq; body = c.args.body.items } in
    let short : length c.args.out.now.items + length c.as_slice.result.now ≤ 4132 =
    omega (arith, c.requires, ap length c.as_slice.ensures.value, ap length c.write_frame.ensures, length-bytes_of frame) in
    (omega arith, short)

pub returns-clause-size : goal.returns-clause-size
returns-clause-size c =
    let frame : Frame = record { number = c.args.seq; body = c.args.body.items } in
    omega (
      arith,
      ap length c.append.ensures,
      length-append c.args.out.now.items c.as_slice.result.now,
      ap length c.as_slice.ensures.value,
      ap length c.write_frame.ensures,
      length-bytes_of frame,
    )
