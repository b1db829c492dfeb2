use Rattle.std.proofs.Common.{◌∙◌, ◌-◌, arith, drop, length, length-drop, length-take}
use borrow.Rule.Slice.PartMut.{post_of, same_len_mid}
use Rattle.avr_asm.proofs.Streaming.{read_on}
use Rattle.avr_asm.proofs.stream.read_text.Goals as goal

pub reads-preserved : goal.reads-preserved
reads-preserved g c =
    let left = length c.reads.buffer - c.reads.filled in
    let size = same_len_mid c.reads.filled left c.reads.buffer c.read.new.buf c.read.auto.buf in
    record {
      within = omega (arith, size, c.in-Ok.ensures.count, length-take left (drop c.reads.filled c.reads.buffer), length-drop c.reads.filled c.reads.buffer, c.reads-test.true);
      size = size ∙ c.reads.invariant.size;
      read = read_on (g.S.Source.left c.args.source.now) (g.S.Source.left c.reads.source) (g.S.Source.left c.read.new.self)
          c.reads.filled c.in-Ok.count c.reads.buffer c.read.new.buf (post_of c.reads.filled left c.reads.buffer)
          c.reads.invariant.within (omega (arith, c.in-Ok.ensures.count, c.read.auto.buf)) c.reads.invariant.read c.in-Ok.ensures.bytes;
      still = c.in-Ok.ensures.still ∙ c.reads.invariant.still;
    }
