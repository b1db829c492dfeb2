use Rattle.std.proofs.Common.{◌+◌, ◌≤◌, length, subst, arith}
use Rattle.avr_asm.specs.declared.encodings.Piece.{Piece}
use Rattle.avr_asm.specs.Settled.{piece_told}
use Rattle.avr_asm.proofs.encodings.put_piece.Goals as goal

pub overflow_add-result : goal.overflow_add-result
overflow_add-result c =
    let room : c.args.place + 1 ≤ length c.args.words.now =
    subst (λ (p : Piece). c.args.place + length (piece_told p) ≤ length c.args.words.now) c.in-One.is c.requires.room in
    omega (arith, room, c.requires.small)

pub overflow_add-result-in-Two : goal.overflow_add-result-in-Two
overflow_add-result-in-Two c =
    let room : c.args.place + 2 ≤ length c.args.words.now =
    subst (λ (p : Piece). c.args.place + length (piece_told p) ≤ length c.args.words.now) c.in-Two.is c.requires.room in
    omega (arith, room, c.requires.small)
