-- What was read and taken so far, and how it ends.
use Rattle.std.proofs.Common.{◌≡◌, ◌<◌, ◌≤◌, ◌+◌, ◌-◌, ℕ, Bool, true, false, if◌then◌else◌, inl, inr, List, [], ◌++◌, Option, Ok, Err}
use Rattle.std.proofs.Common.{length, take, drop, refl, sym, ap, ◌∙◌, subst, arith, append_assoc, length-append, length-drop, take-append-drop}
use Rattle.std.proofs.KnownBytes.{Appends-nil, Appends-trans, Consumes-nil, Consumes-trans}
use Rattle.std.specs.Io.KnownBytes.{Appends, Consumes, IsAtEnd}
use Rattle.part_spec.specs.declared.part.Part.{Part}
use Rattle.line_spec.specs.Frames.{IsBytes, IsPartial}
use Rattle.line_spec.proofs.Bytes.{IsBytes-nil, IsBytes-append, IsBytes-take}
use Rattle.ice_base.specs.Counts.{Rose}
use Rattle.debug_spec.specs.Device.{Asked}
use Rattle.debug_spec.specs.Moved.{Flash}
use Rattle.debug_spec.specs.Debugger.{closed, listens}
use Rattle.flash_patch.specs.declared.plan.FlashFault.{FlashFault}
use Rattle.run_control.specs.declared.inline.Inline.{Inline}
use Rattle.run_control.specs.declared.job.Job.{Job}
use Rattle.ice_emul.specs.declared.emulator.Emulator.{Emulator}
use Rattle.ice_replay.specs.Keeping.{Place, place, IsKept}
use Rattle.ice_line.specs.Lines.{Line, line_at}
use Rattle.ice_replay.specs.Lines.{WritesPast}
use Rattle.ice_replay.specs.Replaying.{IsWhole, ClosesWhile, IsCut}
use Rattle.ice_replay.specs.Chunks.{TakesSome, ChunkEnds}
use Rattle.ice_line.specs.Reads.{input_limit, IsRead}
use Rattle.ice_replay.specs.Endings.{is_closed, LineEnds, EndsWith, Whole, EndsRun}
use Rattle.ice_replay.specs.declared.session.End.{End}
use Rattle.ice_replay.specs.declared.session.End.TheVariants.{Okay, Flash as Fault, Read, Write, TooLong}
use Rattle.ice_replay.specs.declared.chunk.Chunk.TheVariants.{Taken, Closed as Closes, Unsent}
use Rattle.ice_replay.proofs.Chunking.{none_taken}
use Rattle.ice_replay.proofs.Writing.{behind_more, past_more}
use Rattle.ice_replay.proofs.Reading.{whole_of, in_time, closed_so, closed_late, closed_cut, with_line}
use Rattle.ice_replay.proofs.Reading.{chunk_replayed, chunk_closes, chunk_cut}

false_true : false ≡ true → ⊥
false_true h = cc

-- so many bytes may still be read; all that were read are taken, and what they are answered is written
pub record Reading {F : Type 0} (flash : Flash F) (part_of : F → Part) (p : Place F) (left left_now written written_now : Option (List ℕ))
    (allowed : ℕ) (e : Emulator F) (r : Inline F) : Type 0 where
  pub bytes : List ℕ
  pub out : List ℕ
  pub size : length bytes + allowed ≡ input_limit
  pub valid : IsBytes bytes
  pub consumed : Consumes left left_now bytes
  pub takes : TakesSome flash part_of (λ part l b. IsWhole false part l b) p bytes out e r
  pub wrote : Appends written written_now out

module _ {F : Type 0} (flash : Flash F) (part_of : F → Part) (p : Place F) where
  pub reading_start : (left written : Option (List ℕ)) → IsKept flash part_of p → listens p.emulator.tool.mode ≡ true →
      IsPartial p.emulator.receiver.held → Reading flash part_of p left left written written input_limit p.emulator p.runner
  reading_start left written kept on partial = record {
    bytes = [];
    out = [];
    size = refl;
    valid = IsBytes-nil;
    consumed = Consumes-nil left;
    takes = whole_of flash part_of p [] [] p.emulator p.runner refl refl false on (λ h. partial) (none_taken flash part_of p kept on);
    wrote = Appends-nil written;
  }

  module _ (left middle last written written_now : Option (List ℕ)) (allowed : ℕ) (e : Emulator F) (r : Inline F)
      (reading : Reading flash part_of p left middle written written_now allowed e r)
      (same_part : e.tool.plan.part ≡ p.emulator.tool.plan.part) (same_stops : r.stops.items ≡ p.runner.stops.items)
      (source_faults source_now sink_faults sink_now : ℕ) (source_counts : source_now ≡ source_faults) (sink_counts : sink_now ≡ sink_faults)
    where
      abbrev before : Line
      before = line_at left source_faults written sink_faults

      -- the line ends where nothing more was taken of it
      module _ (extra : List ℕ) (taken : Consumes middle last extra) (few : length extra < 512) (source_then : ℕ) (after : Emulator F)
          (now : Inline F)
          (line : (job : Job F) (pend : List Asked) → IsKept flash part_of (place e r job pend) →
          LineEnds flash part_of (place e r job pend) after now) where
        abbrev after_line : Line
        after_line = line_at last source_then written_now sink_now

        read_so : IsRead before after_line reading.bytes extra
        read_so = record {
          consumed = Consumes-trans left middle last reading.bytes extra reading.consumed taken;
          most = omega (arith, reading.size);
          few = few;
          valid = reading.valid;
        }

        takes_so : TakesSome flash part_of (Whole false) p reading.bytes reading.out after now
        takes_so = with_line flash part_of p reading.bytes reading.out e r same_part same_stops after now line
            (λ part l b. IsWhole false part l b) reading.takes

        okay_by : (restored : Bool) → after.tool.mode ≡ closed restored → extra ≡ [] → IsAtEnd last → source_then ≡ source_now →
            EndsRun flash part_of (if restored then Okay else Fault) p before after_line after now
        okay_by true mode none at still = record {
          bytes = reading.bytes;
          extra = extra;
          ahead = [];
          out = reading.out;
          signed = false;
          late = false;
          takes = takes_so;
          read = read_so;
          line = (reading.wrote, inr (none, at), still ∙ source_counts, sink_counts);
          closes = mode;
        }
        okay_by false mode none at still = record {
          bytes = reading.bytes;
          extra = extra;
          ahead = [];
          out = reading.out;
          signed = false;
          late = false;
          takes = in_time flash part_of p reading.bytes reading.out after now false takes_so;
          read = read_so;
          line = (reading.wrote, λ is. absurd (false_true is), inr (none, at), still ∙ source_counts);
          closes = mode;
        }

        -- at its end
        pub okay_line : (end : End) → EndsWith Okay end after.tool.mode → extra ≡ [] → IsAtEnd last → source_then ≡ source_now →
            EndsRun flash part_of end p before after_line after now
        okay_line end h none at still = subst (λ (x : End). EndsRun flash part_of x p before after_line after now) (sym h.2) (okay_by h.0 h.1 none at still)

        -- at a failed read
        pub failed_line : (end : End) → EndsWith Read end after.tool.mode → extra ≡ [] → Rose source_now source_then →
            EndsRun flash part_of end p before after_line after now
        failed_line end h none rose = subst (λ (x : End). EndsRun flash part_of x p before after_line after now) (sym h.1) (record {
          bytes = reading.bytes;
          extra = extra;
          ahead = [];
          out = reading.out;
          signed = false;
          late = false;
          takes = takes_so;
          read = read_so;
          line = (reading.wrote, refl, none, omega (arith, source_counts, rose), sink_counts);
          closes = h.0;
        })

        -- with one byte too many
        pub long_line : (end : End) → EndsWith TooLong end after.tool.mode → length extra ≡ 1 → allowed ≡ 0 → source_then ≡ source_now →
            EndsRun flash part_of end p before after_line after now
        long_line end h one none still = subst (λ (x : End). EndsRun flash part_of x p before after_line after now) (sym h.1) (record {
          bytes = reading.bytes;
          extra = extra;
          ahead = [];
          out = reading.out;
          signed = false;
          late = false;
          takes = takes_so;
          read = read_so;
          line = (reading.wrote, refl, omega (arith, reading.size, none), one, still ∙ source_counts, sink_counts);
          closes = h.0;
        })

      -- a chunk is read, and what comes of it
      module _ (chunk : List ℕ) (taken : Consumes middle last chunk) (valid : IsBytes chunk) (most : length chunk ≤ 512)
          (within : length chunk ≤ allowed) (source_then sink_then : ℕ) (source_still : source_then ≡ source_now) (written_then : Option (List ℕ)) (after : Emulator F) (now : Inline F)
        where
          abbrev after_chunk : Line
          after_chunk = line_at last source_then written_then sink_then

          abbrev placed_so : Place F
          placed_so = place e r reading.takes.job reading.takes.pend

          -- it is taken whole
          pub taken_more : after.tool.plan.part ≡ p.emulator.tool.plan.part → now.stops.items ≡ p.runner.stops.items →
              ChunkEnds flash part_of Taken placed_so chunk written_now written_then sink_now sink_then after now →
              Reading flash part_of p left last written written_then (allowed - length chunk) after now
          taken_more part_then stops_then h = record {
            bytes = reading.bytes ++ chunk;
            out = reading.out ++ h.0;
            size = omega (arith, reading.size, within, length-append reading.bytes chunk);
            valid = IsBytes-append reading.bytes chunk reading.valid valid;
            consumed = Consumes-trans left middle last reading.bytes chunk reading.consumed taken;
            takes = whole_of flash part_of p (reading.bytes ++ chunk) (reading.out ++ h.0) after now part_then stops_then false h.3 (λ on. h.4)
                (chunk_replayed flash part_of p reading.bytes chunk reading.out h.0 e after r now same_part same_stops reading.takes h.1);
            wrote = Appends-trans written written_now written_then reading.out h.0 reading.wrote h.2.0;
          }

          fewer : (n : ℕ) → 0 < n → length (drop n chunk) < 512
          fewer n some = omega (arith, most, some, length-drop n chunk)

          read_to : (n : ℕ) → 0 < n → IsRead before after_chunk (reading.bytes ++ take n chunk) (drop n chunk)
          read_to n some =
              let whole : (reading.bytes ++ take n chunk) ++ drop n chunk ≡ reading.bytes ++ chunk =
              append_assoc reading.bytes (take n chunk) (drop n chunk) ∙ ap (λ (l : List ℕ). reading.bytes ++ l) (take-append-drop n chunk) in
              let sizes = ap length (take-append-drop n chunk) in record {
                consumed = subst (λ (l : List ℕ). Consumes left last l) (sym whole)
                    (Consumes-trans left middle last reading.bytes chunk reading.consumed taken);
                most = omega (arith, reading.size, within, length-append reading.bytes (take n chunk), length-append (take n chunk) (drop n chunk), sizes);
                few = fewer n some;
                valid = IsBytes-append reading.bytes (take n chunk) reading.valid (IsBytes-take n chunk valid);
              }

          closes : (stopped : Bool) (n : ℕ) (more : List ℕ) →
              TakesSome flash part_of (ClosesWhile stopped) placed_so (take n chunk) more after now →
              TakesSome flash part_of (ClosesWhile stopped) p (reading.bytes ++ take n chunk) (reading.out ++ more) after now
          closes stopped n more took =
              chunk_closes flash part_of p reading.bytes (take n chunk) reading.out more e after r now same_part same_stops reading.takes
              stopped took

          cuts : (n : ℕ) (ahead more : List ℕ) →
              TakesSome flash part_of (λ part l b. IsCut part l b ahead) placed_so (take n chunk) (ahead ++ more) after now →
              TakesSome flash part_of (λ part l b. IsCut part l b (reading.out ++ ahead)) p (reading.bytes ++ take n chunk)
              (reading.out ++ (ahead ++ more)) after now
          cuts n ahead more took =
              chunk_cut flash part_of p reading.bytes (take n chunk) reading.out (ahead ++ more) e after r now same_part same_stops
              reading.takes ahead took

          past : (ahead more : List ℕ) → WritesPast written_now written_then sink_now sink_then ahead more →
              WritesPast written written_then sink_faults sink_then (reading.out ++ ahead) more
          past ahead more h =
              past_more written written_now written_then sink_faults sink_now sink_then reading.out ahead more (reading.wrote, sink_counts) h

          -- the session is closed within it
          pub closed_okay : after.tool.plan.part ≡ p.emulator.tool.plan.part → now.stops.items ≡ p.runner.stops.items →
              ChunkEnds flash part_of (Closes (Ok tt)) placed_so chunk written_now written_then sink_now sink_then after now →
              EndsRun flash part_of Okay p before after_chunk after now
          closed_okay part_then stops_then h = record {
            bytes = reading.bytes ++ take h.0 chunk;
            extra = drop h.0 chunk;
            ahead = [];
            out = reading.out ++ h.1;
            signed = true;
            late = false;
            takes = closed_so flash part_of p (reading.bytes ++ take h.0 chunk) (reading.out ++ h.1) after now part_then stops_then h.2
                (ap listens h.6) (closes h.2 h.0 h.1 h.4);
            read = read_to h.0 h.7;
            line = (
              Appends-trans written written_now written_then reading.out h.1 reading.wrote h.5.0,
              inl refl,
              source_still ∙ source_counts,
              h.5.1 ∙ sink_counts,
            );
            closes = h.6;
          }

          pub closed_fault : (fault : FlashFault) → after.tool.plan.part ≡ p.emulator.tool.plan.part → now.stops.items ≡ p.runner.stops.items →
              ChunkEnds flash part_of (Closes (Err fault)) placed_so chunk written_now written_then sink_now sink_then after now →
              EndsRun flash part_of Fault p before after_chunk after now
          closed_fault fault part_then stops_then h = record {
            bytes = reading.bytes ++ take h.0 chunk;
            extra = drop h.0 chunk;
            ahead = [];
            out = reading.out ++ h.1;
            signed = true;
            late = h.3;
            takes = closed_late flash part_of p (reading.bytes ++ take h.0 chunk) (reading.out ++ h.1) after now part_then stops_then h.2 h.3
                h.5.1 (ap listens h.6) (closes h.2 h.0 h.1 h.4);
            read = read_to h.0 h.7;
            line = (
              (behind_more written written_now written_then sink_faults sink_now sink_then h.2 h.3 (Err fault) reading.out h.1
                  (reading.wrote, sink_counts) h.5).0,
              λ is. refl,
              inl refl,
              source_still ∙ source_counts,
            );
            closes = h.6;
          }

          -- what it is answered can't be written, and the session is closed with it
          pub cut_closed : after.tool.plan.part ≡ p.emulator.tool.plan.part → now.stops.items ≡ p.runner.stops.items →
              ChunkEnds flash part_of (Unsent true) placed_so chunk written_now written_then sink_now sink_then after now →
              EndsRun flash part_of Write p before after_chunk after now
          cut_closed part_then stops_then h = record {
            bytes = reading.bytes ++ take h.0 chunk;
            extra = drop h.0 chunk;
            ahead = reading.out ++ h.1;
            out = reading.out ++ (h.1 ++ h.2);
            signed = true;
            late = false;
            takes = closed_cut flash part_of p (reading.bytes ++ take h.0 chunk) (reading.out ++ (h.1 ++ h.2)) after now part_then stops_then
                (reading.out ++ h.1) (ap listens h.5.1) (cuts h.0 h.1 h.2 h.3);
            read = read_to h.0 h.6;
            line = (h.2, sym (append_assoc reading.out h.1 h.2), past h.1 h.2 h.4, source_still ∙ source_counts);
            closes = ap is_closed h.5.1;
          }

          -- or goes on, and its line ends
          pub cut_open : (end : End) (last_e : Emulator F) (last_r : Inline F) → EndsWith Write end last_e.tool.mode →
              after.tool.plan.part ≡ p.emulator.tool.plan.part → now.stops.items ≡ p.runner.stops.items →
              ((job : Job F) (pend : List Asked) → IsKept flash part_of (place after now job pend) →
              LineEnds flash part_of (place after now job pend) last_e last_r) →
              ChunkEnds flash part_of (Unsent false) placed_so chunk written_now written_then sink_now sink_then after now →
              EndsRun flash part_of end p before after_chunk last_e last_r
          cut_open end last_e last_r w part_then stops_then line h =
              subst (λ (x : End). EndsRun flash part_of x p before after_chunk last_e last_r) (sym w.1) (record {
                bytes = reading.bytes ++ take h.0 chunk;
                extra = drop h.0 chunk;
                ahead = reading.out ++ h.1;
                out = reading.out ++ (h.1 ++ h.2);
                signed = false;
                late = false;
                takes = with_line flash part_of p (reading.bytes ++ take h.0 chunk) (reading.out ++ (h.1 ++ h.2)) after now part_then stops_then
                    last_e last_r line (λ part l b. IsCut part l b (reading.out ++ h.1)) (cuts h.0 h.1 h.2 h.3);
                read = read_to h.0 h.6;
                line = (h.2, sym (append_assoc reading.out h.1 h.2), past h.1 h.2 h.4, source_still ∙ source_counts);
                closes = w.0;
              })
