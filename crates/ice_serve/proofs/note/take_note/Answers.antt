use Rattle.std.proofs.Common.{ℕ, List, Bool, refl, sym, ap, ◌∙◌, subst, arith, length}
use Rattle.debug_spec.specs.Schedule.{bytes}
use Rattle.flash_patch.specs.Asking.{seen}
use Rattle.ice_recv.specs.Received.{Received}
use Rattle.ice_inbox.specs.declared.inbox.Note.{Note}
use Rattle.ice_inbox.specs.Notes.{size_of}
use Rattle.ice_serve.specs.Causes.{cause_if}
use Rattle.ice_serve.specs.Keeping.{seen_as}
use Rattle.ice_serve.specs.Inbox.{note_of}
use Rattle.ice_serve.specs.Notes.{TakesNote}
use Rattle.ice_serve.specs.declared.note.Why.TheVariants.{Okay, Read, TooLong}
use Rattle.ice_serve.proofs.HaltNotes.{line_end, line_failed, line_long}
use Rattle.ice_serve.proofs.note.take_note.Goals as goal

pub returns-in-Bytes-clause-takes : goal.returns-in-Bytes-clause-takes
returns-in-Bytes-clause-takes g c = λ job kept.
    subst (λ (n : Note). TakesNote (seen g.F.Flash.words g.F.Flash.journal g.F.Flash.faults g.F.Flash.writes) g.F.Flash.part (note_of n) c.take_bytes.result c.args.emulator.now job (seen_as (g.X.Runner.is_out c.args.runner.now) (g.X.Runner.raised c.args.runner.now) (g.X.Runner.may_give c.args.runner.now) (g.X.Runner.launches c.args.runner.now) (g.X.Runner.collects c.args.runner.now) (g.X.Runner.faults c.args.runner.now)) (g.K.Sink.written c.args.sink.now)
    (g.K.Sink.written c.take_bytes.new.sink) (g.K.Sink.faults c.args.sink.now) (g.K.Sink.faults c.take_bytes.new.sink) c.take_bytes.new.emulator (seen_as (g.X.Runner.is_out c.take_bytes.new.runner) (g.X.Runner.raised c.take_bytes.new.runner) (g.X.Runner.may_give c.take_bytes.new.runner) (g.X.Runner.launches c.take_bytes.new.runner) (g.X.Runner.collects c.take_bytes.new.runner) (g.X.Runner.faults c.take_bytes.new.runner)))
    (sym c.in-Bytes.is)
    (subst (λ (l : List ℕ). TakesNote (seen g.F.Flash.words g.F.Flash.journal g.F.Flash.faults g.F.Flash.writes) g.F.Flash.part (bytes l) c.take_bytes.result c.args.emulator.now job (seen_as (g.X.Runner.is_out c.args.runner.now) (g.X.Runner.raised c.args.runner.now) (g.X.Runner.may_give c.args.runner.now) (g.X.Runner.launches c.args.runner.now) (g.X.Runner.collects c.args.runner.now) (g.X.Runner.faults c.args.runner.now))
    (g.K.Sink.written c.args.sink.now) (g.K.Sink.written c.take_bytes.new.sink) (g.K.Sink.faults c.args.sink.now) (g.K.Sink.faults c.take_bytes.new.sink) c.take_bytes.new.emulator
    (seen_as (g.X.Runner.is_out c.take_bytes.new.runner) (g.X.Runner.raised c.take_bytes.new.runner) (g.X.Runner.may_give c.take_bytes.new.runner) (g.X.Runner.launches c.take_bytes.new.runner) (g.X.Runner.collects c.take_bytes.new.runner) (g.X.Runner.faults c.take_bytes.new.runner))) c.as_slice.ensures.value (c.take_bytes.ensures.takes job kept))

pub returns-in-LineEnd-clause-takes : goal.returns-in-LineEnd-clause-takes
returns-in-LineEnd-clause-takes g c = λ job kept.
    subst (λ (n : Note). TakesNote (seen g.F.Flash.words g.F.Flash.journal g.F.Flash.faults g.F.Flash.writes) g.F.Flash.part (note_of n) c.end_for.result c.args.emulator.now job (seen_as (g.X.Runner.is_out c.args.runner.now) (g.X.Runner.raised c.args.runner.now) (g.X.Runner.may_give c.args.runner.now) (g.X.Runner.launches c.args.runner.now) (g.X.Runner.collects c.args.runner.now) (g.X.Runner.faults c.args.runner.now)) (g.K.Sink.written c.args.sink.now)
    (g.K.Sink.written c.args.sink.now) (g.K.Sink.faults c.args.sink.now) (g.K.Sink.faults c.args.sink.now) c.end_for.new.emulator (seen_as (g.X.Runner.is_out c.end_for.new.runner) (g.X.Runner.raised c.end_for.new.runner) (g.X.Runner.may_give c.end_for.new.runner) (g.X.Runner.launches c.end_for.new.runner) (g.X.Runner.collects c.end_for.new.runner) (g.X.Runner.faults c.end_for.new.runner)))
    (sym c.in-LineEnd.is)
    (line_end (seen g.F.Flash.words g.F.Flash.journal g.F.Flash.faults g.F.Flash.writes) g.F.Flash.part c.args.emulator.now job (seen_as (g.X.Runner.is_out c.args.runner.now) (g.X.Runner.raised c.args.runner.now) (g.X.Runner.may_give c.args.runner.now) (g.X.Runner.launches c.args.runner.now) (g.X.Runner.collects c.args.runner.now) (g.X.Runner.faults c.args.runner.now)) c.end_for.result c.end_for.new.emulator (seen_as (g.X.Runner.is_out c.end_for.new.runner) (g.X.Runner.raised c.end_for.new.runner) (g.X.Runner.may_give c.end_for.new.runner) (g.X.Runner.launches c.end_for.new.runner) (g.X.Runner.collects c.end_for.new.runner) (g.X.Runner.faults c.end_for.new.runner))
    (c.end_for.ensures.line job kept) (g.K.Sink.written c.args.sink.now) (g.K.Sink.faults c.args.sink.now) c.end_for.ensures.cause)

pub returns-in-LineEnd-clause-ignores : goal.returns-in-LineEnd-clause-ignores
returns-in-LineEnd-clause-ignores g c = λ off. (c.end_for.ensures.cause ∙ ap (λ (b : Bool). cause_if b Okay) off, refl, refl)

pub returns-in-LineEnd-clause-quiet : goal.returns-in-LineEnd-clause-quiet
returns-in-LineEnd-clause-quiet g c = (λ some. c.end_for.ensures.deaf, λ off. c.end_for.ensures.deaf)

pub returns-in-LineEnd-clause-few : goal.returns-in-LineEnd-clause-few
returns-in-LineEnd-clause-few g c = omega (arith, ap (λ (r : Received). length r.held) c.end_for.ensures.receiver)

pub returns-in-LineFault-clause-takes : goal.returns-in-LineFault-clause-takes
returns-in-LineFault-clause-takes g c = λ job kept.
    subst (λ (n : Note). TakesNote (seen g.F.Flash.words g.F.Flash.journal g.F.Flash.faults g.F.Flash.writes) g.F.Flash.part (note_of n) c.end_for-in-LineFault.result c.args.emulator.now job (seen_as (g.X.Runner.is_out c.args.runner.now) (g.X.Runner.raised c.args.runner.now) (g.X.Runner.may_give c.args.runner.now) (g.X.Runner.launches c.args.runner.now) (g.X.Runner.collects c.args.runner.now) (g.X.Runner.faults c.args.runner.now)) (g.K.Sink.written c.args.sink.now)
    (g.K.Sink.written c.args.sink.now) (g.K.Sink.faults c.args.sink.now) (g.K.Sink.faults c.args.sink.now) c.end_for-in-LineFault.new.emulator (seen_as (g.X.Runner.is_out c.end_for-in-LineFault.new.runner) (g.X.Runner.raised c.end_for-in-LineFault.new.runner) (g.X.Runner.may_give c.end_for-in-LineFault.new.runner) (g.X.Runner.launches c.end_for-in-LineFault.new.runner) (g.X.Runner.collects c.end_for-in-LineFault.new.runner) (g.X.Runner.faults c.end_for-in-LineFault.new.runner)))
    (sym c.in-LineFault.is)
    (line_failed (seen g.F.Flash.words g.F.Flash.journal g.F.Flash.faults g.F.Flash.writes) g.F.Flash.part c.args.emulator.now job (seen_as (g.X.Runner.is_out c.args.runner.now) (g.X.Runner.raised c.args.runner.now) (g.X.Runner.may_give c.args.runner.now) (g.X.Runner.launches c.args.runner.now) (g.X.Runner.collects c.args.runner.now) (g.X.Runner.faults c.args.runner.now)) c.end_for-in-LineFault.result c.end_for-in-LineFault.new.emulator (seen_as (g.X.Runner.is_out c.end_for-in-LineFault.new.runner) (g.X.Runner.raised c.end_for-in-LineFault.new.runner) (g.X.Runner.may_give c.end_for-in-LineFault.new.runner) (g.X.Runner.launches c.end_for-in-LineFault.new.runner) (g.X.Runner.collects c.end_for-in-LineFault.new.runner) (g.X.Runner.faults c.end_for-in-LineFault.new.runner))
    (c.end_for-in-LineFault.ensures.line job kept) (g.K.Sink.written c.args.sink.now) (g.K.Sink.faults c.args.sink.now) c.end_for-in-LineFault.ensures.cause)

pub returns-in-LineFault-clause-ignores : goal.returns-in-LineFault-clause-ignores
returns-in-LineFault-clause-ignores g c = λ off. (c.end_for-in-LineFault.ensures.cause ∙ ap (λ (b : Bool). cause_if b Read) off, refl, refl)

pub returns-in-LineFault-clause-quiet : goal.returns-in-LineFault-clause-quiet
returns-in-LineFault-clause-quiet g c = (λ some. c.end_for-in-LineFault.ensures.deaf, λ off. c.end_for-in-LineFault.ensures.deaf)

pub returns-in-LineFault-clause-few : goal.returns-in-LineFault-clause-few
returns-in-LineFault-clause-few g c = omega (arith, ap (λ (r : Received). length r.held) c.end_for-in-LineFault.ensures.receiver)

pub returns-in-TooLong-clause-takes : goal.returns-in-TooLong-clause-takes
returns-in-TooLong-clause-takes g c = λ job kept.
    subst (λ (n : Note). TakesNote (seen g.F.Flash.words g.F.Flash.journal g.F.Flash.faults g.F.Flash.writes) g.F.Flash.part (note_of n) c.end_for-in-TooLong.result c.args.emulator.now job (seen_as (g.X.Runner.is_out c.args.runner.now) (g.X.Runner.raised c.args.runner.now) (g.X.Runner.may_give c.args.runner.now) (g.X.Runner.launches c.args.runner.now) (g.X.Runner.collects c.args.runner.now) (g.X.Runner.faults c.args.runner.now)) (g.K.Sink.written c.args.sink.now)
    (g.K.Sink.written c.args.sink.now) (g.K.Sink.faults c.args.sink.now) (g.K.Sink.faults c.args.sink.now) c.end_for-in-TooLong.new.emulator (seen_as (g.X.Runner.is_out c.end_for-in-TooLong.new.runner) (g.X.Runner.raised c.end_for-in-TooLong.new.runner) (g.X.Runner.may_give c.end_for-in-TooLong.new.runner) (g.X.Runner.launches c.end_for-in-TooLong.new.runner) (g.X.Runner.collects c.end_for-in-TooLong.new.runner) (g.X.Runner.faults c.end_for-in-TooLong.new.runner)))
    (sym c.in-TooLong.is)
    (line_long (seen g.F.Flash.words g.F.Flash.journal g.F.Flash.faults g.F.Flash.writes) g.F.Flash.part c.args.emulator.now job (seen_as (g.X.Runner.is_out c.args.runner.now) (g.X.Runner.raised c.args.runner.now) (g.X.Runner.may_give c.args.runner.now) (g.X.Runner.launches c.args.runner.now) (g.X.Runner.collects c.args.runner.now) (g.X.Runner.faults c.args.runner.now)) c.end_for-in-TooLong.result c.end_for-in-TooLong.new.emulator (seen_as (g.X.Runner.is_out c.end_for-in-TooLong.new.runner) (g.X.Runner.raised c.end_for-in-TooLong.new.runner) (g.X.Runner.may_give c.end_for-in-TooLong.new.runner) (g.X.Runner.launches c.end_for-in-TooLong.new.runner) (g.X.Runner.collects c.end_for-in-TooLong.new.runner) (g.X.Runner.faults c.end_for-in-TooLong.new.runner))
    (c.end_for-in-TooLong.ensures.line job kept) (g.K.Sink.written c.args.sink.now) (g.K.Sink.faults c.args.sink.now) c.end_for-in-TooLong.ensures.cause)

pub returns-in-TooLong-clause-ignores : goal.returns-in-TooLong-clause-ignores
returns-in-TooLong-clause-ignores g c = λ off. (c.end_for-in-TooLong.ensures.cause ∙ ap (λ (b : Bool). cause_if b TooLong) off, refl, refl)

pub returns-in-TooLong-clause-quiet : goal.returns-in-TooLong-clause-quiet
returns-in-TooLong-clause-quiet g c = (λ some. c.end_for-in-TooLong.ensures.deaf, λ off. c.end_for-in-TooLong.ensures.deaf)

pub returns-in-TooLong-clause-few : goal.returns-in-TooLong-clause-few
returns-in-TooLong-clause-few g c = omega (arith, ap (λ (r : Received). length r.held) c.end_for-in-TooLong.ensures.receiver)

pub returns-in-Halted-clause-takes : goal.returns-in-Halted-clause-takes
returns-in-Halted-clause-takes g c = λ job kept.
    subst (λ (n : Note). TakesNote (seen g.F.Flash.words g.F.Flash.journal g.F.Flash.faults g.F.Flash.writes) g.F.Flash.part (note_of n) c.take_halt.result c.args.emulator.now job (seen_as (g.X.Runner.is_out c.args.runner.now) (g.X.Runner.raised c.args.runner.now) (g.X.Runner.may_give c.args.runner.now) (g.X.Runner.launches c.args.runner.now) (g.X.Runner.collects c.args.runner.now) (g.X.Runner.faults c.args.runner.now)) (g.K.Sink.written c.args.sink.now)
    (g.K.Sink.written c.take_halt.new.sink) (g.K.Sink.faults c.args.sink.now) (g.K.Sink.faults c.take_halt.new.sink) c.take_halt.new.emulator (seen_as (g.X.Runner.is_out c.take_halt.new.runner) (g.X.Runner.raised c.take_halt.new.runner) (g.X.Runner.may_give c.take_halt.new.runner) (g.X.Runner.launches c.take_halt.new.runner) (g.X.Runner.collects c.take_halt.new.runner) (g.X.Runner.faults c.take_halt.new.runner)))
    (sym c.in-Halted.is) (c.take_halt.ensures.takes job kept)

pub returns-in-Halted-clause-few : goal.returns-in-Halted-clause-few
returns-in-Halted-clause-few g c = omega (arith, ap (λ (r : Received). length r.held) c.take_halt.ensures.receiver)

pub take_bytes-requires-clause-few : goal.take_bytes-requires-clause-few
take_bytes-requires-clause-few g c =
    omega (arith, c.requires.few, ap length c.as_slice.ensures.value, ap size_of c.in-Bytes.is)

pub returns-in-Bytes-clause-few : goal.returns-in-Bytes-clause-few
returns-in-Bytes-clause-few g c =
    omega (arith, c.take_bytes.ensures.few, ap length c.as_slice.ensures.value, ap size_of c.in-Bytes.is)
