use Rattle.std.proofs.Common.{◌≡◌, ℕ, ◌∙◌, List, Ok, Err, ap, arith, drop, length, subst, take}
use Rattle.std.proofs.lemmas.List.{take_at}
use Rattle.part_spec.specs.Chip.{chip_of}
use Rattle.avr_asm.specs.Answers.{Answers}
use Rattle.avr_asm.specs.Streams.{read_limit}
use Rattle.avr_asm.proofs.Streaming.{assembled_error, assembled_words}
use Rattle.avr_asm.proofs.stream.assemble_source.Goals as goal

pub returns-in-Ok-assemble-clause-assembled : goal.returns-in-Ok-assemble-clause-assembled
returns-in-Ok-assemble-clause-assembled g c =
    let size : length c.read_text.new.buffer ≡ c.in-Ok.buffer.len =
    omega (arith, c.read_text.ensures.size, c.deref_mut.ensures.len, ap length c.deref_mut.ensures.value) in
    let same : c.deref.result.now ≡ c.read_text.new.buffer =
    c.deref.ensures.value ∙ take_at c.read_text.new.buffer (drop (length c.read_text.new.buffer) c.in-Ok.buffer.items) c.in-Ok.buffer.len (omega (arith, size)) in
    let whole : length c.read_text.new.buffer ≡ read_limit = omega (arith, size, c.in-Ok.ensures.len) in
    let fills = c.in-Ok-read_text.ensures.fills in
    assembled_words (chip_of c.args.part) (g.S.Source.left c.args.source.now) (g.S.Source.left c.read_text.new.source)
    (g.K.Sink.written c.args.sink.now) (g.S.Source.faults c.args.source.now) (g.S.Source.faults c.read_text.new.source)
    (g.K.Sink.faults c.args.sink.now) c.read_text.new.buffer c.in-Ok-read_text.count fills.0 fills.1 fills.2 fills.3 whole c.put_image.result
    (g.K.Sink.written c.put_image.new.sink) (g.K.Sink.faults c.put_image.new.sink) c.in-Ok-assemble.made
    (subst (λ (l : List ℕ). Answers (chip_of c.args.part) (take c.in-Ok-read_text.count l) (Ok c.in-Ok-assemble.made)) same
    c.in-Ok-assemble.ensures)
    c.put_image.ensures.ends

pub returns-in-Ok-read_text-clause-assembled : goal.returns-in-Ok-read_text-clause-assembled
returns-in-Ok-read_text-clause-assembled g c =
    let size : length c.read_text.new.buffer ≡ c.in-Ok.buffer.len =
    omega (arith, c.read_text.ensures.size, c.deref_mut.ensures.len, ap length c.deref_mut.ensures.value) in
    let same : c.deref.result.now ≡ c.read_text.new.buffer =
    c.deref.ensures.value ∙ take_at c.read_text.new.buffer (drop (length c.read_text.new.buffer) c.in-Ok.buffer.items) c.in-Ok.buffer.len (omega (arith, size)) in
    let whole : length c.read_text.new.buffer ≡ read_limit = omega (arith, size, c.in-Ok.ensures.len) in
    let fills = c.in-Ok-read_text.ensures.fills in
    assembled_error (chip_of c.args.part) (g.S.Source.left c.args.source.now) (g.S.Source.left c.read_text.new.source)
    (g.K.Sink.written c.args.sink.now) (g.S.Source.faults c.args.source.now) (g.S.Source.faults c.read_text.new.source)
    (g.K.Sink.faults c.args.sink.now) c.read_text.new.buffer c.in-Ok-read_text.count fills.0 fills.1 fills.2 fills.3 whole
    c.in-Err-assemble.error
    (subst (λ (l : List ℕ). Answers (chip_of c.args.part) (take c.in-Ok-read_text.count l) (Err c.in-Err-assemble.error)) same
    c.in-Err-assemble.ensures)
