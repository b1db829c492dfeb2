use Rattle.std.proofs.Common.{length, sym, subst}
use Rattle.std.proofs.Math.Seq.{take-length}
use Rattle.std.specs.Io.KnownBytes.{Appends}
use Rattle.std.proofs.KnownBytes.{Appends-kept}
use Rattle.ice_base.proofs.std_sink.write_through.Goals as goal

-- the whole piece is written, and what a flush fails at stays as it was
pub returns-in-Err-flush-clause-err : goal.returns-in-Err-flush-clause-err
returns-in-Err-flush-clause-err g c =
    let contents = g.W.Write.contents in
    let piece = c.args.piece.now in
    let whole = Appends-kept (contents c.args.writer.now) (contents c.write_whole.new.writer) (contents c.flush.new.self) piece c.in-Ok.ensures.ok c.flush.ensures.bytes in (
      length piece,
      subst (λ bytes. Appends (contents c.args.writer.now) (contents c.flush.new.self) bytes) (sym (take-length piece)) whole,
    )
