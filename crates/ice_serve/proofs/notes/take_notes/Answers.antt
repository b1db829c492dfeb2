use Rattle.std.proofs.Common.{◌≡◌, Bool, false, List, None, Some, Option, Result, refl, sym, ap, ◌∙◌, subst, arith, length, ◌||◌}
use Rattle.std.specs.Prelude.{⊤}
use Rattle.debug_spec.specs.Schedule.{Note as Told}
use Rattle.debug_spec.specs.Debugger.{listens}
use Rattle.flash_patch.specs.Asking.{seen}
use Rattle.flash_patch.specs.declared.plan.FlashFault.{FlashFault}
use Rattle.ice_inbox.specs.Ends.{Taken}
use Rattle.ice_inbox.specs.Notes.{bytes_in, has_last, is_last}
use Rattle.ice_inbox.proofs.Notes.{bytes_in-more}
use Rattle.ice_serve.specs.Keeping.{seen_as}
use Rattle.ice_serve.specs.Inbox.{notes_of}
use Rattle.ice_serve.specs.Notes.{StandsBehind}
use Rattle.ice_serve.specs.Endings.{GoesSoFar}
use Rattle.ice_serve.specs.declared.note.Why.{Why}
use Rattle.ice_serve.specs.declared.note.Why.TheVariants.{Okay}
use Rattle.ice_serve.proofs.NotesSoFar.{has_last-more, quiet_more, no_notes, note_taken}
use Rattle.ice_serve.proofs.notes.take_notes.Goals as goal

pub notes-init : goal.notes-init
notes-init g c = record {
  placed = c.requires.placed;
  sound = c.requires.sound;
  kept = refl;
  takes_line = c.requires.takes;
  counted = c.requires.counted;
  few = omega (arith, c.requires.unused.0, ap length c.requires.unused.1);
  part = refl;
  last = sym (ap has_last c.requires.untaken);
  inbox = (refl, refl);
  quiet = λ some. absurd (some refl);
  goes = λ job kept.
      subst (λ (l : List Told). GoesSoFar (seen g.F.Flash.words g.F.Flash.journal g.F.Flash.faults g.F.Flash.writes) g.F.Flash.part Okay None l c.args.emulator.now job (seen_as (g.X.Runner.is_out c.args.runner.now) (g.X.Runner.raised c.args.runner.now) (g.X.Runner.may_give c.args.runner.now) (g.X.Runner.launches c.args.runner.now) (g.X.Runner.collects c.args.runner.now) (g.X.Runner.faults c.args.runner.now)) (g.K.Sink.written c.args.sink.now)
      (g.K.Sink.written c.args.sink.now) (g.K.Sink.faults c.args.sink.now) (g.K.Sink.faults c.args.sink.now) c.args.emulator.now (seen_as (g.X.Runner.is_out c.args.runner.now) (g.X.Runner.raised c.args.runner.now) (g.X.Runner.may_give c.args.runner.now) (g.X.Runner.launches c.args.runner.now) (g.X.Runner.collects c.args.runner.now) (g.X.Runner.faults c.args.runner.now)))
      (sym (ap notes_of c.requires.untaken))
      (no_notes (seen g.F.Flash.words g.F.Flash.journal g.F.Flash.faults g.F.Flash.writes) g.F.Flash.part c.args.emulator.now job (seen_as (g.X.Runner.is_out c.args.runner.now) (g.X.Runner.raised c.args.runner.now) (g.X.Runner.may_give c.args.runner.now) (g.X.Runner.launches c.args.runner.now) (g.X.Runner.collects c.args.runner.now) (g.X.Runner.faults c.args.runner.now)) (g.K.Sink.written c.args.sink.now) (g.K.Sink.faults c.args.sink.now) kept);
}

pub take_note-noted-requires-clause-few : goal.take_note-noted-requires-clause-few
take_note-noted-requires-clause-few g c =
    let taken = ap (λ (t : Taken). t.taken) c.take-note.ensures.listed in
    omega (
      arith,
      c.notes.invariant.few,
      c.take-note.ensures.bounded,
      ap bytes_in taken ∙ bytes_in-more c.notes.receiver.taken c.take-note.result,
    )

pub notes-preserved : goal.notes-preserved
notes-preserved g c =
    let taken = ap (λ (t : Taken). t.taken) c.take-note.ensures.listed in
    record {
      placed = c.take_note-noted.ensures.placed;
      sound = c.take_note-noted.ensures.sound;
      kept = c.take_note-noted.ensures.kept ∙ c.notes.invariant.kept;
      takes_line = subst (λ (o : Option (Result ⊤ FlashFault)). StandsBehind o c.take_note-noted.new.emulator.tool.mode) c.in-None-over.is
          c.take_note-noted.ensures.stands;
      counted = c.take_note-noted.ensures.counted;
      few = omega (
        arith,
        c.take_note-noted.ensures.few,
        c.notes.invariant.few,
        ap bytes_in taken ∙ bytes_in-more c.notes.receiver.taken c.take-note.result,
      );
      part = c.take_note-noted.ensures.part ∙ c.notes.invariant.part;
      last = c.last_with-last.ensures ∙ ap (λ (b : Bool). b || is_last c.take-note.result) c.notes.invariant.last ∙
          sym (ap has_last taken ∙ has_last-more c.notes.receiver.taken c.take-note.result);
      inbox = (
        ap (λ (t : Taken). t.inbox) c.take-note.ensures.listed ∙ c.notes.invariant.inbox.0,
        ap (λ (t : Taken). t.known) c.take-note.ensures.listed ∙ c.notes.invariant.inbox.1,
      );
      quiet = subst (λ (w : Why). (w ≡ Okay → ⊥) → listens c.take_note-noted.new.emulator.tool.mode ≡ false) (sym c.or-why.ensures)
          (quiet_more c.notes.why c.take_note-noted.result.why (listens c.notes.emulator.tool.mode)
          (listens c.take_note-noted.new.emulator.tool.mode) c.notes.invariant.quiet c.take_note-noted.ensures.quiet.0
          c.take_note-noted.ensures.quiet.1);
      goes = λ job kept.
          note_taken (seen g.F.Flash.words g.F.Flash.journal g.F.Flash.faults g.F.Flash.writes) g.F.Flash.part c.args.emulator.now job (seen_as (g.X.Runner.is_out c.args.runner.now) (g.X.Runner.raised c.args.runner.now) (g.X.Runner.may_give c.args.runner.now) (g.X.Runner.launches c.args.runner.now) (g.X.Runner.collects c.args.runner.now) (g.X.Runner.faults c.args.runner.now)) c.notes.why c.or-why.result None c.notes.receiver.taken
          c.take-note.new.self.taken c.take-note.result c.take_note-noted.result (g.K.Sink.written c.args.sink.now) (g.K.Sink.written c.notes.sink)
          (g.K.Sink.written c.take_note-noted.new.sink) (g.K.Sink.faults c.args.sink.now) (g.K.Sink.faults c.notes.sink) (g.K.Sink.faults c.take_note-noted.new.sink) c.notes.emulator
          c.take_note-noted.new.emulator (seen_as (g.X.Runner.is_out c.notes.runner) (g.X.Runner.raised c.notes.runner) (g.X.Runner.may_give c.notes.runner) (g.X.Runner.launches c.notes.runner) (g.X.Runner.collects c.notes.runner) (g.X.Runner.faults c.notes.runner)) (seen_as (g.X.Runner.is_out c.take_note-noted.new.runner) (g.X.Runner.raised c.take_note-noted.new.runner) (g.X.Runner.may_give c.take_note-noted.new.runner) (g.X.Runner.launches c.take_note-noted.new.runner) (g.X.Runner.collects c.take_note-noted.new.runner) (g.X.Runner.faults c.take_note-noted.new.runner)) (c.notes.invariant.goes job kept)
          c.notes.invariant.part c.take_note-noted.ensures.takes c.notes.invariant.quiet c.take_note-noted.ensures.ignores c.or-why.ensures
          c.in-None-over.is taken;
    }

pub returns-in-Some-over-clause-stands : goal.returns-in-Some-over-clause-stands
returns-in-Some-over-clause-stands g c =
    subst (λ (o : Option (Result ⊤ FlashFault)). StandsBehind o c.take_note-noted.new.emulator.tool.mode) c.in-Some-over.is
    c.take_note-noted.ensures.stands

pub returns-in-Some-over-clause-last : goal.returns-in-Some-over-clause-last
returns-in-Some-over-clause-last g c =
    let taken = ap (λ (t : Taken). t.taken) c.take-note.ensures.listed in
    c.last_with-last.ensures ∙ ap (λ (b : Bool). b || is_last c.take-note.result) c.notes.invariant.last ∙
    sym (ap has_last taken ∙ has_last-more c.notes.receiver.taken c.take-note.result)

pub returns-in-Some-over-clause-inbox : goal.returns-in-Some-over-clause-inbox
returns-in-Some-over-clause-inbox g c = (
  ap (λ (t : Taken). t.inbox) c.take-note.ensures.listed ∙ c.notes.invariant.inbox.0,
  ap (λ (t : Taken). t.known) c.take-note.ensures.listed ∙ c.notes.invariant.inbox.1,
)

pub returns-in-Some-over-clause-kept : goal.returns-in-Some-over-clause-kept
returns-in-Some-over-clause-kept g c = c.take_note-noted.ensures.kept ∙ c.notes.invariant.kept

pub returns-in-Some-over-clause-serves : goal.returns-in-Some-over-clause-serves
returns-in-Some-over-clause-serves g c = λ job kept.
    let taken = ap (λ (t : Taken). t.taken) c.take-note.ensures.listed in
    note_taken (seen g.F.Flash.words g.F.Flash.journal g.F.Flash.faults g.F.Flash.writes) g.F.Flash.part c.args.emulator.now job (seen_as (g.X.Runner.is_out c.args.runner.now) (g.X.Runner.raised c.args.runner.now) (g.X.Runner.may_give c.args.runner.now) (g.X.Runner.launches c.args.runner.now) (g.X.Runner.collects c.args.runner.now) (g.X.Runner.faults c.args.runner.now)) c.notes.why c.or-why.result (Some c.in-Some-over.restored) c.notes.receiver.taken
    c.take-note.new.self.taken c.take-note.result c.take_note-noted.result (g.K.Sink.written c.args.sink.now) (g.K.Sink.written c.notes.sink)
    (g.K.Sink.written c.take_note-noted.new.sink) (g.K.Sink.faults c.args.sink.now) (g.K.Sink.faults c.notes.sink) (g.K.Sink.faults c.take_note-noted.new.sink) c.notes.emulator
    c.take_note-noted.new.emulator (seen_as (g.X.Runner.is_out c.notes.runner) (g.X.Runner.raised c.notes.runner) (g.X.Runner.may_give c.notes.runner) (g.X.Runner.launches c.notes.runner) (g.X.Runner.collects c.notes.runner) (g.X.Runner.faults c.notes.runner)) (seen_as (g.X.Runner.is_out c.take_note-noted.new.runner) (g.X.Runner.raised c.take_note-noted.new.runner) (g.X.Runner.may_give c.take_note-noted.new.runner) (g.X.Runner.launches c.take_note-noted.new.runner) (g.X.Runner.collects c.take_note-noted.new.runner) (g.X.Runner.faults c.take_note-noted.new.runner)) (c.notes.invariant.goes job kept)
    c.notes.invariant.part c.take_note-noted.ensures.takes c.notes.invariant.quiet c.take_note-noted.ensures.ignores c.or-why.ensures
    c.in-Some-over.is taken

pub returns-in-Some-over-clause-few : goal.returns-in-Some-over-clause-few
returns-in-Some-over-clause-few g c =
    let taken = ap (λ (t : Taken). t.taken) c.take-note.ensures.listed in
    omega (
      arith,
      c.take_note-noted.ensures.few,
      c.take_note-noted.ensures.counted,
      c.notes.invariant.few,
      c.take-note.ensures.bounded,
      ap bytes_in taken,
      bytes_in-more c.notes.receiver.taken c.take-note.result,
    )
