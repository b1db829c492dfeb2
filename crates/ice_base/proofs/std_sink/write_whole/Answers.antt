use Rattle.std.proofs.Common.{◌≡◌, ◌+◌, ◌-◌, ◌≤◌, ◌++◌, length, take, drop, sym, subst, ap, ◌∙◌, arith}
use Rattle.std.proofs.lemmas.List.{length-take, length-drop, take-append-drop, take_rest}
use Rattle.std.proofs.Math.Seq.{take-append-add}
use Rattle.std.specs.Io.KnownBytes.{Appends}
use Rattle.std.proofs.KnownBytes.{Appends-trans}
use Rattle.ice_base.proofs.std_sink.write_whole.Goals as goal

-- the front that was written, and then what this write took, are a front
pub loop-done-preserved : goal.loop-done-preserved
loop-done-preserved g c =
    let contents = g.W.Write.contents in
    let piece = c.args.piece.now in
    let done = c.loop-done.done in
    let count = c.in-Ok.count in
    let rest = drop done piece in
    let len : length (take done piece) ≡ done = omega (arith, length-take done piece, c.loop-done.invariant.0) in
    let grown : take (done + count) piece ≡ take done piece ++ take count rest =
    sym (ap (λ l. take (done + count) l) (take-append-drop done piece))
    ∙ ap (λ n. take (n + count) (take done piece ++ rest)) (sym len)
    ∙ take-append-add (take done piece) rest count in
    let taken = subst (λ l. Appends (contents c.loop-done.writer) (contents c.write_some.new.writer) (take count l)) (take_rest piece done) c.in-Ok.ensures.bytes in
    let all = Appends-trans (contents c.args.writer.now) (contents c.loop-done.writer) (contents c.write_some.new.writer) (take done piece) (take count rest) c.loop-done.invariant.1 taken in
    let within : done + count ≤ length piece = omega (arith, c.in-Ok.ensures.count.1, length-take (length piece - done) rest, length-drop done piece) in
    (within, subst (λ l. Appends (contents c.args.writer.now) (contents c.write_some.new.writer) l) (sym grown) all)
