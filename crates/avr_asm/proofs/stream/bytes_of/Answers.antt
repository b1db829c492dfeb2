use Rattle.std.proofs.Common.{ℕ, ◌+◌, ◌≤◌, ◌∙◌, List, ◌++◌, sym, ap, arith, length, length-take, take}
use Rattle.asm_spec.specs.Words.{bytes_of}
use Rattle.avr_asm.proofs.Streaming.{length-bytes_of, one_word}
use Rattle.avr_asm.proofs.stream.bytes_of.Goals as goal

pub append-requires : goal.append-requires
append-requires c =
    let room : length c.words.bytes.items + length c.to_le_bytes.result ≤ 4096 =
    omega (
      arith,
      ap length c.words.invariant.bytes,
      length-bytes_of (take c.words.word-index c.args.piece.now),
      length-take c.words.word-index c.args.piece.now,
      ap length c.to_le_bytes.ensures,
      c.words-test.true,
      c.requires,
    ) in
    (omega arith, room)

pub words-preserved : goal.words-preserved
words-preserved c = record {
  bytes = c.append.ensures ∙ ap (λ (l : List ℕ). l ++ c.to_le_bytes.result) c.words.invariant.bytes ∙
      ap (λ (l : List ℕ). bytes_of (take c.words.word-index c.args.piece.now) ++ l) c.to_le_bytes.ensures ∙
      sym (one_word c.args.piece.now c.words.word-index c.words-test.true);
}
