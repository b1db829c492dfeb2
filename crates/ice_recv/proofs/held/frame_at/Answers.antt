use Rattle.std.proofs.Common.{◌-◌, ◌≤◌, take, length, length-append, length-drop, length-take, ap, ◌∙◌, arith}
use Rattle.ice_recv.proofs.FrameParts.{stands_size, body_at, body_in_slices, read_frame}
use Rattle.ice_recv.proofs.held.frame_at.Goals as goal

pub overflow_sub-end : goal.overflow_sub-end
overflow_sub-end c = omega (arith, stands_size _ _ c.requires)

pub append-requires : goal.append-requires
append-requires c =
    let front = c.as_slices.result.0.now in
    omega (
      arith,
      stands_size _ _ c.requires,
      c.requires.1.valid.body,
      ap length c.new-body.ensures,
      ap length c.part.ensures,
      length-drop 8 (take (c.args.size - 2) front),
      length-take (c.args.size - 2) front,
    )

pub append-requires-2 : goal.append-requires-2
append-requires-2 c =
    let size = stands_size _ _ c.requires in
    let least : 8 ≤ c.args.size - 2 = omega (arith, size) in
    let body = body_in_slices _ _ _ _ _ _ _ (c.args.size - 2) _ _ least c.as_slices.ensures c.new-body.ensures c.part.ensures
    c.part-2.ensures c.saturating_sub.ensures c.saturating_sub-2.ensures c.append.ensures in
    omega (
      arith,
      c.requires.1.valid.body,
      ap length (body ∙ body_at _ _ c.requires),
      length-append c.append.new.out.items c.part-2.result.now,
    )

pub returns : goal.returns
returns c =
    let size = stands_size _ _ c.requires in
    let least : 8 ≤ c.args.size - 2 = omega (arith, size) in
    let body = body_in_slices _ _ _ _ _ _ _ (c.args.size - 2) _ _ least c.as_slices.ensures c.new-body.ensures c.part.ensures
    c.part-2.ensures c.saturating_sub.ensures c.saturating_sub-2.ensures c.append.ensures in
    read_frame _ c.args.size c.from_le_bytes-seq.result _ c.requires
    (omega (arith, c.from_le_bytes-seq.ensures, c.byte_at.ensures, c.byte_at-2.ensures)) (c.append-2.ensures ∙ body)
