-- A session with its line on a thread of its own.
use Rattle.std.proofs.Common.{◌≡◌, ◌≤◌, ◌+◌, ◌-◌, ◌%◌, ◌^◌, ℕ, true, List, [], ◌∷◌, Option}
use Rattle.std.proofs.Common.{refl, ap, ◌∙◌, arith}
use mathlib.Core.List.{IsPrefix}
use Rattle.ice_inbox.specs.declared.inbox.Note.{Note}
use Rattle.ice_inbox.specs.declared.inbox.Note.TheVariants.{Bytes, LineEnd, LineFault, TooLong, Halted}
use Rattle.ice_inbox.specs.Ends.{Sent}
use Rattle.ice_inbox.specs.Notes.{of_line, has_last, line_limit}
use Rattle.ice_inbox.specs.Lines.{SendsLine}
use Rattle.ice_inbox.specs.Threads.{Kept, kept_of}
use Rattle.ice_inbox.proofs.Notes.{all_is_taken}
use Rattle.part_spec.specs.declared.part.Part.{Part}
use Rattle.debug_spec.specs.Moved.{Flash}
use Rattle.run_control.specs.declared.job.Job.{Job}
use Rattle.ice_emul.specs.declared.emulator.Emulator.{Emulator}
use Rattle.ice_emul.specs.declared.session.Totals.{Totals}
use Rattle.ice_serve.specs.Inbox.{SessionGoes}
use Rattle.ice_serve.specs.Endings.{Counts, IsServed}
use Rattle.ice_serve.specs.Serving.{TakesLine, Threads, threads, RoseBy, Serves}
use Rattle.ice_serve.specs.declared.notes.End.{End}

-- the last note of the line is one of the line's
pub has_last-of_line : (notes : List Note) → has_last (of_line notes) ≡ has_last notes
has_last-of_line [] = refl
has_last-of_line (Bytes bytes ∷ notes) = has_last-of_line notes
has_last-of_line (LineEnd ∷ notes) = refl
has_last-of_line (LineFault ∷ notes) = refl
has_last-of_line (TooLong ∷ notes) = refl
has_last-of_line (Halted number ∷ notes) = has_last-of_line notes

-- the line has sent what was taken of it
pub takes_line_of : {S : Type 0} (left : S → Option (List ℕ)) (faults : S → ℕ) (before after : S) (old new : Sent) (taken : List Note) →
    SendsLine left faults before after old new → has_last taken ≡ true → IsPrefix (of_line taken) new.sent →
    TakesLine left faults before after taken
takes_line_of left faults before after old new taken sends last prefix =
    let whole : of_line taken ≡ new.sent = all_is_taken (of_line taken) new.sent sends.ends prefix (has_last-of_line taken ∙ last) in
    record {
      chunks = sends.ends.before;
      last = sends.ends.last;
      whole = whole ∙ sends.ends.whole;
      ends = sends.ends.ends;
      sent = sends.sent;
    }

-- a thread was started and joined
pub rose_once : (starts joins starts_now joins_now : ℕ) → starts_now ≡ (starts + 1) % 2 ^ 64 → joins_now ≡ (joins + 1) % 2 ^ 64 →
    RoseBy 1 (threads starts joins) (threads starts_now joins_now)
rose_once starts joins starts_now joins_now one two = record { starts = omega (arith, one); joins = omega (arith, two) }

-- as many as launches worked
pub rose_by : (starts joins starts_now joins_now none nothing launches collects : ℕ) → none ≡ 0 → nothing ≡ 0 → launches ≤ line_limit →
    collects ≡ launches → kept_of starts_now launches joins_now collects ≡ kept_of starts none joins nothing →
    RoseBy launches (threads starts joins) (threads starts_now joins_now)
rose_by starts joins starts_now joins_now none nothing launches collects is_none is_nothing few settled kept =
    let by_starts : (starts_now + (2 ^ 64 - launches)) % 2 ^ 64 ≡ (starts + (2 ^ 64 - none)) % 2 ^ 64 = ap (λ (k : Kept). k.starts) kept in
    let by_joins : (joins_now + (2 ^ 64 - collects)) % 2 ^ 64 ≡ (joins + (2 ^ 64 - nothing)) % 2 ^ 64 = ap (λ (k : Kept). k.joins) kept in
    record {
      starts = omega (arith, by_starts, few, is_none);
      joins = omega (arith, by_joins, few, settled, is_nothing);
    }

-- the session that was served, with the threads of its launches
pub serves_of : {F : Type 0} (flash : Flash F) (part_of : F → Part) (e : Emulator F) (own : Job F) (taken taken_then : List Note) (end : End)
    (given : F) (totals : Totals) (launches : ℕ) (before after : Counts) (threads_before threads_after : Threads) → taken_then ≡ taken →
    SessionGoes taken (λ notes. IsServed flash part_of e own notes end given totals launches before after) →
    RoseBy launches threads_before threads_after →
    Serves flash part_of e own taken_then end given totals before after threads_before threads_after
serves_of flash part_of e own taken taken_then end given totals launches before after threads_before threads_after same goes rose = record {
  launches = launches;
  served = record { notes = goes.notes; later = goes.later; whole = same ∙ goes.whole; goes = goes.goes };
  rose = rose;
}
