-- A record read chunk by chunk.
use Rattle.std.proofs.Common.{◌≡◌, ℕ, suc, ◌+◌, ◌-◌, ◌<◌, ◌≤◌, List, [], ◌∷◌, ◌++◌, Option, None, Some, length, take, drop, get_or, refl, sym, ap, ◌∙◌, subst, arith, inl, inr, append_assoc, append-nil, length-append}
use Rattle.std.proofs.KnownBytes.{Consumes-nil, Consumes-trans}
use Rattle.std.proofs.lemmas.List.{take_all, take_more, take-append-drop, length-take-le}
use Rattle.std.specs.Io.KnownBytes.{Consumes, IsAtEnd}
use Rattle.line_spec.specs.Frames.{IsBytes}
use Rattle.line_spec.proofs.Bytes.{IsBytes-nil, IsBytes-append, IsBytes-left}
use Rattle.part_spec.specs.declared.part.Part.{Part}
use Rattle.part_spec.specs.Chip.{Chip, chip_of}
use Rattle.ice_base.specs.Counts.{Rose}
use Rattle.ice_line.specs.Lines.{IsStill, Line}
use Rattle.ice_line.specs.Reads.{input_limit}
use Rattle.ice_verify.specs.declared.verifier.Verdict.{Verdict}
use Rattle.record_check.specs.Answers.{AnswersAtEnd, IsOnTheWay, Stops}
use Rattle.record_check.specs.Endings.{HasRead, IsAnswered, IsChecked, IsFound, IsUndecided, Puts}
use Rattle.record_check.specs.Taking.{HasTaken, Takes, TakesChunk}
use Rattle.record_check.specs.declared.answer.Answer.{Answer}
use Rattle.record_check.specs.declared.answer.Answer.TheVariants.{Fits, Fails}
use Rattle.record_check.specs.declared.checker.Checker.{Checker}
use Rattle.record_check.specs.declared.stream.CheckEnd.{CheckEnd}
use Rattle.record_check.specs.declared.stream.CheckEnd.TheVariants.{Okay, Refuted, Read, Write, TooLong}

-- some of a chunk is taken, and one more byte of it
pub taken_more : (part : Part) (prog taken chunk : List ℕ) (i : ℕ) (checker : Checker) → i < length chunk →
    HasTaken part prog ((taken ++ take i chunk) ++ get_or chunk i 0 ∷ []) checker → HasTaken part prog (taken ++ take (i + 1) chunk) checker
taken_more part prog taken chunk i checker inside h =
    subst (λ (l : List ℕ). HasTaken part prog l checker)
    (append_assoc taken (take i chunk) (get_or chunk i 0 ∷ []) ∙ ap (λ (l : List ℕ). taken ++ l) (sym (take_more chunk i 0 inside))) h

pub stopped_more : (part : Part) (prog taken chunk : List ℕ) (i : ℕ) (verdict : Verdict) (checker : Checker) → i < length chunk →
    Stops (chip_of part) prog ((taken ++ take i chunk) ++ get_or chunk i 0 ∷ []) verdict (suc checker.lines) →
    TakesChunk part prog taken chunk (Some verdict) checker
stopped_more part prog taken chunk i verdict checker inside h = (
  take (i + 1) chunk,
  drop (i + 1) chunk,
  sym (take-append-drop (i + 1) chunk),
  omega (arith, inside, ap length (take-append-drop (i + 1) chunk), length-append (take (i + 1) chunk) (drop (i + 1) chunk), length-take-le (i + 1) chunk (omega (arith, inside))),
  subst (λ (l : List ℕ). Stops (chip_of part) prog l verdict (suc checker.lines))
      (append_assoc taken (take i chunk) (get_or chunk i 0 ∷ []) ∙ ap (λ (l : List ℕ). taken ++ l) (sym (take_more chunk i 0 inside))) h,
)

-- all of it
pub taken_whole : (part : Part) (prog taken chunk : List ℕ) (i : ℕ) (checker : Checker) → length chunk ≤ i →
    HasTaken part prog (taken ++ take i chunk) checker → HasTaken part prog (taken ++ chunk) checker
taken_whole part prog taken chunk i checker past h =
    subst (λ (l : List ℕ). HasTaken part prog (taken ++ l) checker) (take_all i chunk past) h

-- so many bytes may still be read
pub record HasReadSome (left left_now : Option (List ℕ)) (allowed : ℕ) (read : List ℕ) : Type 0 where
  pub consumed : Consumes left left_now read
  pub size : length read + allowed ≡ input_limit
  pub valid : IsBytes read

-- the bytes read so far are taken, whatever program the record is of
pub record Reading (left left_now : Option (List ℕ)) (allowed : ℕ) (from now : Checker) : Type 0 where
  pub bytes : List ℕ
  pub read : HasReadSome left left_now allowed bytes
  pub taken : (part : Part) (prog : List ℕ) → HasTaken part prog [] from → HasTaken part prog bytes now

pub reading_start : (left : Option (List ℕ)) (from : Checker) → Reading left left input_limit from from
reading_start left from = record {
  bytes = [];
  read = record { consumed = Consumes-nil left; size = refl; valid = IsBytes-nil };
  taken = λ part prog h. h;
}

module _ (left middle : Option (List ℕ)) (allowed : ℕ) (from now : Checker) (r : Reading left middle allowed from now) where
  -- a chunk more
  module _ (last : Option (List ℕ)) (chunk : List ℕ) (more : Consumes middle last chunk) (valid : IsBytes chunk)
      (within : length chunk ≤ allowed) (after : Checker) where
    pub reading_more : ((part : Part) (prog taken : List ℕ) → HasTaken part prog taken now → TakesChunk part prog taken chunk None after) →
        Reading left last (allowed - length chunk) from after
    reading_more takes = record {
      bytes = r.bytes ++ chunk;
      read = record {
        consumed = Consumes-trans left middle last r.bytes chunk r.read.consumed more;
        size = omega (arith, r.read.size, within, length-append r.bytes chunk);
        valid = IsBytes-append r.bytes chunk r.read.valid valid;
      };
      taken = λ part prog h. takes part prog r.bytes (r.taken part prog h);
    }

    pub read_stopped : (verdict : Verdict) (answer : Answer) (part : Part) (prog : List ℕ) → length chunk ≤ 512 →
        answer ≡ Fails verdict (after.lines + 1) →
        ((taken : List ℕ) → HasTaken part prog taken now → TakesChunk part prog taken chunk (Some verdict) after) →
        HasTaken part prog [] from → IsAnswered answer (chip_of part) prog left last
    read_stopped verdict answer part prog few is takes h =
        let stop = takes r.bytes (r.taken part prog h) in
        let front : List ℕ = r.bytes ++ stop.0 in
        let sizes : length chunk ≡ length stop.0 + length stop.1 = omega (arith, ap length stop.2, length-append stop.0 stop.1) in
        let all : IsBytes (r.bytes ++ chunk) = IsBytes-append r.bytes chunk r.read.valid valid in
        let split : r.bytes ++ chunk ≡ front ++ stop.1 = ap (λ (l : List ℕ). r.bytes ++ l) stop.2 ∙ sym (append_assoc r.bytes stop.0 stop.1) in
        subst (λ (a : Answer). IsAnswered a (chip_of part) prog left last) (sym (is ∙ ap (λ (n : ℕ). Fails verdict n) (omega arith))) (record {
          bytes = front;
          extra = stop.1;
          read = record {
            consumed = subst (λ (l : List ℕ). Consumes left last l) split (Consumes-trans left middle last r.bytes chunk r.read.consumed more);
            most = omega (arith, r.read.size, within, sizes, length-append r.bytes stop.0);
            valid = IsBytes-left front stop.1 (subst IsBytes split all);
          };
          answers = inl (stop.4, omega (arith, few, stop.3));
        })

  -- no byte comes any more
  pub read_ended : (last : Option (List ℕ)) (answer : Answer) (part : Part) (prog : List ℕ) → Consumes middle last [] → IsAtEnd last →
      ((taken : List ℕ) → HasTaken part prog taken now → AnswersAtEnd (chip_of part) prog taken answer) → HasTaken part prog [] from →
      IsAnswered answer (chip_of part) prog left last
  read_ended last answer part prog none end answers h = record {
    bytes = r.bytes;
    extra = [];
    read = record {
      consumed = Consumes-trans left middle last r.bytes [] r.read.consumed none;
      most = omega (arith, r.read.size);
      valid = r.read.valid;
    };
    answers = inr (answers r.bytes (r.taken part prog h), refl, end);
  }

  -- nothing is found
  pub undecided : (last : Option (List ℕ)) (extra : List ℕ) (more : ℕ) (part : Part) (prog : List ℕ) → Consumes middle last extra →
      length extra ≡ more → (0 < more → allowed ≡ 0) → HasTaken part prog [] from → IsUndecided (chip_of part) prog left last more
  undecided last extra more part prog taken few full h =
      let t = r.taken part prog h in
      record {
        bytes = r.bytes;
        extra = extra;
        read = record {
          consumed = Consumes-trans left middle last r.bytes extra r.read.consumed taken;
          most = omega (arith, r.read.size);
          valid = r.read.valid;
        };
        on_the_way = record {
          texts = t.texts;
          text = now.held.items;
          at = t.at;
          begins = t.begins;
          unended = t.unended;
          short = t.short;
        };
        few = few;
        full = λ some. omega (arith, r.read.size, full some);
      }

-- an answer is found, and put so
pub checked_so : (end : CheckEnd) (answer : Answer) (part : Chip) (prog : List ℕ) (before after : Line) →
    IsAnswered answer part prog before.left after.left → IsStill before.source_faults after.source_faults →
    Puts end answer before.written after.written before.sink_faults after.sink_faults → IsChecked end part prog before after
checked_so Okay answer part prog before after a s p = record { answer = answer; answered = a; still = s; puts = p }
checked_so Refuted answer part prog before after a s p = record { answer = answer; answered = a; still = s; puts = p }
checked_so Write answer part prog before after a s p = record { answer = answer; answered = a; still = s; puts = p }
checked_so Read answer part prog before after a s p = absurd p
checked_so TooLong answer part prog before after a s p = absurd p
