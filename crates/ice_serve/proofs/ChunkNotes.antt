-- What a chunk comes to as a note.
use Rattle.std.proofs.Common.{◌≡◌, ℕ, Bool, true, false, List, [], Option, Some, None, Result, Ok, ap, ◌∙◌, subst}
use Rattle.std.specs.Prelude.{⊤}
use Rattle.part_spec.specs.declared.part.Part.{Part}
use Rattle.part_spec.specs.Chip.{Chip, chip_of}
use Rattle.debug_spec.specs.Moved.{Flash}
use Rattle.debug_spec.specs.Debugger.{closed, listens}
use Rattle.debug_spec.specs.Schedule.{Keeps, bytes, IsChunk, line_ended}
use Rattle.debug_spec.specs.Take.{goes_on}
use Rattle.flash_patch.specs.declared.plan.FlashFault.{FlashFault}
use Rattle.run_control.specs.declared.job.Job.{Job}
use Rattle.ice_emul.specs.declared.emulator.Emulator.{Emulator}
use Rattle.ice_serve.specs.Keeping.{Seen, IsKept, Continues}
use Rattle.ice_serve.specs.Pieces.{IsCutShort}
use Rattle.ice_serve.specs.Schedules.{NoteDoes}
use Rattle.ice_serve.specs.Chunks.{ChunkEnds, IgnoresChunk}
use Rattle.ice_serve.specs.Notes.{TakesNote}
use Rattle.ice_serve.specs.declared.chunk.Chunk.{Chunk}
use Rattle.ice_serve.specs.declared.chunk.Chunk.TheVariants.{Taken, Closed as Closes, Unsent, ClosedUnsent}
use Rattle.ice_serve.specs.declared.note.Why.TheVariants.{Okay, Write}
use Rattle.ice_serve.proofs.Going.{said_so, goes_silently}
use Rattle.ice_serve.proofs.Kept.{mode_in}
use Rattle.ice_serve.proofs.Telling.{chunk_told, chunk_cut, chunk_cut_over}

module _ {F : Type 0} (flash : Flash F) (part_of : F → Part) (chunk : List ℕ) (e : Emulator F) (job : Job F) (v : Seen F)
    (before after : Option (List ℕ)) (faults faults_now : ℕ) (mid : Emulator F) (now : Seen F) where
  abbrev chip : Chip
  chip = chip_of e.tool.plan.part

  abbrev Ends : Chunk → Type 0
  Ends end = ChunkEnds flash part_of end e job v chunk before after faults faults_now mid now

  -- a debugger that ignores the chunk takes all of it
  abbrev Ignores : Chunk → Type 0
  Ignores end = listens e.tool.mode ≡ false → IgnoresChunk end before after faults faults_now

  pub taken_note : Ends Taken → TakesNote flash part_of (bytes chunk) (record { why = Okay; over = None }) e job v before after faults
      faults_now mid now
  taken_note h = record {
    out = h.0;
    continues = said_so flash part_of (IsChunk true chip chunk) e job v h.0 mid now h.1 (NoteDoes Okay (bytes chunk) chip)
        (λ s t from to goes. chunk_told chip chunk s t goes);
    writes = h.2;
    silent = h.3;
  }

  pub closed_note : (restored : Result ⊤ FlashFault) → Ends (Closes restored) → Ignores (Closes restored) →
      TakesNote flash part_of (bytes chunk) (record { why = Okay; over = Some restored }) e job v before after faults faults_now mid now
  closed_note restored h ignores = record {
    out = h.0;
    continues = said_so flash part_of (IsChunk true chip chunk) e job v h.0 mid now h.1 (NoteDoes Okay (bytes chunk) chip)
        (λ s t from to goes. chunk_told chip chunk s t goes);
    writes = h.2;
    silent = λ off. absurd (other (ignores off).0);
  }
    where
      other : Closes restored ≡ Taken → ⊥
      other is = cc

  -- the line ends behind a frame whose answer could not be written
  pub unsent_note : Ends Unsent → Ignores Unsent → mid.tool.plan.part ≡ e.tool.plan.part → (over : Option (Result ⊤ FlashFault))
      (last : Emulator F) (later : Seen F) → ((own : Job F) → IsKept flash part_of mid own now →
      Continues flash part_of (λ s t. t ≡ line_ended (chip_of mid.tool.plan.part) s) mid own now [] last later) →
      TakesNote flash part_of (bytes chunk) (record { why = Write; over = over }) e job v before after faults faults_now last later
  unsent_note h ignores same_part over last later line = record {
    out = h.0;
    continues = said_so flash part_of _ e job v h.0 last later
        (goes_silently flash part_of (IsCutShort chip chunk) e job v h.0 mid now h.1 (λ s t. t ≡ line_ended chip s) last later
        (λ own kept. subst (λ (p : Part). Continues flash part_of (λ s t. t ≡ line_ended (chip_of p) s) mid own now [] last later) same_part
        (line own kept)))
        (NoteDoes Write (bytes chunk) chip) (λ s t from to goes. chunk_cut chip chunk s goes.0 t goes.1 goes.2);
    writes = h.2;
    silent = λ off. absurd (other (ignores off).0);
  }
    where
      other : Unsent ≡ Taken → ⊥
      other is = cc

  -- or the session is closed with that frame
  pub closed_unsent_note : Ends ClosedUnsent → Ignores ClosedUnsent → mid.tool.mode ≡ closed true →
      TakesNote flash part_of (bytes chunk) (record { why = Write; over = Some (Ok tt) }) e job v before after faults faults_now mid now
  closed_unsent_note h ignores shut = record {
    out = h.0;
    continues = said_so flash part_of (IsCutShort chip chunk) e job v h.0 mid now h.1 (NoteDoes Write (bytes chunk) chip)
        (λ s t from to goes.
        let mode = mode_in flash mid h.1.job_then now t to ∙ shut in
        chunk_cut_over chip chunk s t goes (ap listens mode)
        (subst (λ (b : Bool). Keeps b mid.receiver.held t.held) (ap goes_on mode) to.stands.held));
    writes = h.2;
    silent = λ off. absurd (other (ignores off).0);
  }
    where
      other : ClosedUnsent ≡ Taken → ⊥
      other is = cc
