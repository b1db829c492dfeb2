-- A text that is read into a buffer, and words that are put.
use Rattle.std.proofs.Common.{◌≡◌, ◌<◌, ◌≤◌, ℕ, ◌+◌, ◌*◌, ◌/◌, ◌%◌, List, [], ◌∷◌, ◌++◌, Option, Ok, Err, length, take, drop, refl, sym, ap, ◌∙◌, subst, arith}
use Rattle.std.proofs.Common.{get_or, length-take, take-append-drop}
use Rattle.std.proofs.lemmas.List.{take-append-le, take_more}
use Rattle.std.proofs.Math.Seq.{take-append-add}
use Rattle.std.proofs.KnownBytes.{Consumes-trans}
use Rattle.std.specs.Io.KnownBytes.{Consumes, IsAtEnd}
use Rattle.part_spec.specs.Chip.{Chip}
use Rattle.ice_line.specs.Lines.{IsStill, line_at}
use Rattle.asm_spec.specs.Words.{bytes_of}
use Rattle.avr_asm.specs.Answers.{Answers}
use Rattle.avr_asm.specs.Streams.{IsAssembled, IsTextRead, Puts, read_limit}
use Rattle.avr_asm.specs.declared.assembler.Assembled.{Assembled}
use Rattle.avr_asm.specs.declared.error.AsmError.{AsmError}
use Rattle.avr_asm.specs.declared.error.AsmError.TheVariants.{Large, At, Memory}
use Rattle.avr_asm.specs.declared.stream.AssemblyEnd.{AssemblyEnd}
use Rattle.avr_asm.specs.declared.stream.AssemblyEnd.TheVariants.{Okay, Read, Write, Refused}

-- what a read has put behind the bytes so far
pub read_on : (before middle after : Option (List ℕ)) (filled count : ℕ) (buffer behind rest : List ℕ) →
    filled ≤ length buffer → count ≤ length behind → Consumes before middle (take filled buffer) →
    Consumes middle after (take count behind) → Consumes before after (take (filled + count) (take filled buffer ++ (behind ++ rest)))
read_on before middle after filled count buffer behind rest within few read more =
    let size : length (take filled buffer) ≡ filled = omega (arith, length-take filled buffer) in
    let cut : take (filled + count) (take filled buffer ++ (behind ++ rest)) ≡ take filled buffer ++ take count behind =
    ap (λ (n : ℕ). take (n + count) (take filled buffer ++ (behind ++ rest))) (sym size) ∙
    take-append-add (take filled buffer) (behind ++ rest) count ∙
    ap (λ (l : List ℕ). take filled buffer ++ l) (take-append-le count behind rest few) in
    subst (λ (l : List ℕ). Consumes before after l) (sym cut)
    (Consumes-trans before middle after (take filled buffer) (take count behind) read more)

-- each word has two bytes
pub length-bytes_of : (words : List ℕ) → length (bytes_of words) ≡ 2 * length words
length-bytes_of [] = refl
length-bytes_of (word ∷ words) = omega (arith, length-bytes_of words)

pub bytes_of-append : (words more : List ℕ) → bytes_of (words ++ more) ≡ bytes_of words ++ bytes_of more
bytes_of-append [] more = refl
bytes_of-append (word ∷ words) more =
    ap (λ (l : List ℕ). word % 256 ∷ word / 256 % 256 ∷ l) (bytes_of-append words more)

-- the bytes of a cut
pub bytes_cut : (words piece more : List ℕ) (n : ℕ) → piece ≡ take n words → more ≡ drop n words →
    bytes_of words ≡ bytes_of piece ++ bytes_of more
bytes_cut words piece more n front back =
    ap (λ (l : List ℕ). bytes_of l) (sym (take-append-drop n words)) ∙ bytes_of-append (take n words) (drop n words) ∙
    ap (λ (l : List ℕ). bytes_of l ++ bytes_of (drop n words)) (sym front) ∙ ap (λ (l : List ℕ). bytes_of piece ++ bytes_of l) (sym back)

-- with the bytes of one word more
pub one_word : (words : List ℕ) (k : ℕ) → k < length words →
    bytes_of (take (k + 1) words) ≡ bytes_of (take k words) ++ bytes_of (get_or words k 0 ∷ [])
one_word words k there = ap (λ (l : List ℕ). bytes_of l) (take_more words k 0 there) ∙ bytes_of-append (take k words) (get_or words k 0 ∷ [])

module _ (part : Chip) (left left_now written : Option (List ℕ)) (source_faults source_now sink_faults : ℕ) (buffer : List ℕ) (count : ℕ)
    (consumed : Consumes left left_now (take count buffer)) (few : count ≤ length buffer) (ends : count < length buffer → IsAtEnd left_now)
    (still : IsStill source_faults source_now) (size : length buffer ≡ read_limit) where
  -- the text was read
  text_read : (written_now : Option (List ℕ)) (sink_now : ℕ) →
      IsTextRead (line_at left source_faults written sink_faults) (line_at left_now source_now written_now sink_now) (take count buffer)
  text_read written_now sink_now = record {
    consumed = consumed;
    most = omega (arith, length-take count buffer, size);
    whole = λ short. ends (omega (arith, short, length-take count buffer, size, few));
    still = still;
  }

  -- its image was put, or a front of it
  pub assembled_words : (end : AssemblyEnd) (written_now : Option (List ℕ)) (sink_now : ℕ) (made : Assembled) →
      Answers part (take count buffer) (Ok made) → Puts end written written_now sink_faults sink_now made →
      IsAssembled part end (line_at left source_faults written sink_faults) (line_at left_now source_now written_now sink_now)
  assembled_words Okay written_now sink_now made answers puts = (
    record { words = made.words.items; used = made.used },
    record { text = take count buffer; read = text_read written_now sink_now; small = answers.0; gives = answers.1 },
    puts,
  )
  assembled_words Write written_now sink_now made answers puts = (
    record { words = made.words.items; used = made.used },
    record { text = take count buffer; read = text_read written_now sink_now; small = answers.0; gives = answers.1 },
    puts,
  )
  assembled_words Read written_now sink_now made answers puts = absurd puts
  assembled_words (Refused error) written_now sink_now made answers puts = absurd puts

  -- it is refused
  pub assembled_error : (error : AsmError) → Answers part (take count buffer) (Err error) →
      IsAssembled part (Refused error) (line_at left source_faults written sink_faults) (line_at left_now source_now written sink_faults)
  assembled_error Large answers =
      (take count buffer, text_read written sink_faults, omega (arith, length-take count buffer, size, answers), (refl, refl))
  assembled_error (At line kind) answers = (take count buffer, text_read written sink_faults, answers.0, answers.1, (refl, refl))
  assembled_error Memory answers = (take count buffer, consumed, answers, still, (refl, refl))
