use Rattle.std.proofs.Common.{◌≡◌, List, [], ◌∷◌, ◌++◌, refl, sym, ap, ◌∙◌, subst, append-nil, arith}
use Rattle.std.specs.Prelude.{All}
use Rattle.std.proofs.lemmas.List.Elements.{All-nil, All-push}
use Rattle.std.proofs.KnownBytes.{Consumes-nil, Consumes-trans}
use Rattle.std.specs.Io.KnownBytes.{Consumes}
use Rattle.ice_inbox.specs.declared.inbox.Note.{Note}
use Rattle.ice_inbox.specs.declared.inbox.Note.TheVariants.{Bytes}
use Rattle.ice_inbox.specs.Notes.{bytes_in}
use Rattle.ice_inbox.specs.Lines.{bytes_of, IsChunk}
use Rattle.ice_inbox.proofs.Notes.{bytes_in-more}
use Rattle.ice_inbox.proofs.Chunks.{bytes_of-append, ended_on}
use Rattle.ice_inbox.proofs.line_work.send_chunks.Goals as goal

pub chunks-init : goal.chunks-init
chunks-init g c =
    let left = g.S.Source.left in
    let none : c.args.sender.now.sent ≡ [] = c.requires in
    record {
      inbox = refl;
      each = subst (λ (notes : List Note). All IsChunk notes) (sym none) (All-nil IsChunk);
      bounded = omega arith;
      counted = ap bytes_in none;
      lost = subst (λ (notes : List Note). Consumes (left c.args.source.now) (left c.args.source.now) (bytes_of notes)) (sym none)
          (Consumes-nil (left c.args.source.now));
      faults = refl;
    }

pub send-requires-clause-bounded : goal.send-requires-clause-bounded
send-requires-clause-bounded g c =
    omega (arith, bytes_in-more c.chunks.sender.sent (Bytes c.in-Chunk.chunk), c.chunks.invariant.counted, c.in-Chunk.ensures.1)

pub chunks-smaller : goal.chunks-smaller
chunks-smaller g c = omega (arith, c.in-Chunk.ensures.0, c.in-Chunk.ensures.1, c.len-sent.ensures.value)

pub chunks-preserved : goal.chunks-preserved
chunks-preserved g c =
    let left = g.S.Source.left in
    let was = c.chunks.invariant in
    let heard = c.in-Chunk.ensures in
    let note : Note = Bytes c.in-Chunk.chunk in
    let after : c.send.new.self.sent ≡ c.chunks.sender.sent ++ note ∷ [] = ap (λ s. s.sent) c.send.ensures in
    let bytes : bytes_of c.send.new.self.sent ≡ bytes_of c.chunks.sender.sent ++ c.in-Chunk.chunk.items =
    ap bytes_of after ∙ bytes_of-append c.chunks.sender.sent (note ∷ []) ∙
    ap (λ l. bytes_of c.chunks.sender.sent ++ l) (append-nil c.in-Chunk.chunk.items) in
    record {
      inbox = ap (λ s. s.inbox) c.send.ensures ∙ was.inbox;
      each = subst (λ (notes : List Note). All IsChunk notes) (sym after) (All-push IsChunk c.chunks.sender.sent note was.each heard.0);
      bounded = omega (arith, heard.1, c.len-sent.ensures.value);
      counted = ap bytes_in after ∙ bytes_in-more c.chunks.sender.sent note ∙ omega (arith, was.counted, c.len-sent.ensures.value);
      lost = subst (Consumes (left c.args.source.now) (left c.read_chunk.new.source)) (sym bytes)
          (Consumes-trans (left c.args.source.now) (left c.chunks.source) (left c.read_chunk.new.source) (bytes_of c.chunks.sender.sent)
          c.in-Chunk.chunk.items was.lost heard.2);
      faults = heard.3 ∙ was.faults;
    }

pub returns-in-Last-clause-sent : goal.returns-in-Last-clause-sent
returns-in-Last-clause-sent g c =
    let left = g.S.Source.left in
    let was = c.chunks.invariant in
    let heard = c.in-Last.ensures in
    record {
      each = was.each;
      bounded = omega (arith, was.counted, was.bounded);
      unsent = heard.0;
      lost = Consumes-trans (left c.args.source.now) (left c.chunks.source) (left c.read_chunk.new.source) (bytes_of c.chunks.sender.sent)
          heard.0 was.lost heard.1;
      ended = ended_on left g.S.Source.faults c.args.source.now c.chunks.source c.chunks.sent (bytes_in c.chunks.sender.sent) heard.0
          c.in-Last.last c.read_chunk.new.source was.faults was.counted heard.2;
    }
