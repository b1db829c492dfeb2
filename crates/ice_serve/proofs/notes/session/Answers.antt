use Rattle.std.proofs.Common.{ap, sym, ◌∙◌, refl, subst}
use Rattle.flash_patch.specs.Asking.{seen}
use Rattle.ice_recv.specs.Received.{Received}
use Rattle.ice_emul.specs.Launching.{rests}
use Rattle.ice_emul.specs.Taking.{takes_line}
use Rattle.ice_serve.specs.Keeping.{seen_as}
use Rattle.ice_serve.specs.Inbox.{notes_of}
use Rattle.ice_serve.specs.Endings.{IsServed, counts}
use Rattle.ice_serve.specs.declared.notes.End.{End}
use Rattle.ice_serve.proofs.Finishing.{kept_start, own_of, closed_target, closed_free, served}
use Rattle.ice_serve.proofs.notes.session.Goals as goal

pub take_notes-over-requires-clause-placed : goal.take_notes-over-requires-clause-placed
take_notes-over-requires-clause-placed g c =
    let own = own_of c.args.emulator.target c.args.emulator.tool.mode c.requires.emulator.here (ap rests c.requires.begun) in (
      own.0,
      kept_start (seen g.F.Flash.words g.F.Flash.journal g.F.Flash.faults g.F.Flash.writes) g.F.Flash.part c.args.emulator own.0 (seen_as (g.X.Runner.is_out c.args.runner) (g.X.Runner.raised c.args.runner) (g.X.Runner.may_give c.args.runner) (g.X.Runner.launches c.args.runner) (g.X.Runner.collects c.args.runner) (g.X.Runner.faults c.args.runner)) own.1 c.requires.begun c.requires.emulator c.requires.free
          (c.requires.unused.1 ∙ sym c.requires.unused.0),
    )

pub take_notes-over-requires-clause-takes : goal.take_notes-over-requires-clause-takes
take_notes-over-requires-clause-takes g c = ap takes_line c.requires.begun

pub take_notes-over-requires-clause-unused : goal.take_notes-over-requires-clause-unused
take_notes-over-requires-clause-unused g c = (refl, ap (λ (r : Received). r.held) c.requires.received)

pub finish-flash-requires : goal.finish-flash-requires
finish-flash-requires g c =
    c.take_notes-over.ensures.placed.1.sound.here ∙ ap rests c.take_notes-over.ensures.stands

pub returns-clause-free : goal.returns-clause-free
returns-clause-free g c =
    let k = c.take_notes-over.ensures.placed in
    (closed_free (seen g.F.Flash.words g.F.Flash.journal g.F.Flash.faults g.F.Flash.writes) g.F.Flash.part c.take_notes-over.new.emulator k.0 (seen_as (g.X.Runner.is_out c.take_notes-over.new.runner) (g.X.Runner.raised c.take_notes-over.new.runner) (g.X.Runner.may_give c.take_notes-over.new.runner) (g.X.Runner.launches c.take_notes-over.new.runner) (g.X.Runner.collects c.take_notes-over.new.runner) (g.X.Runner.faults c.take_notes-over.new.runner)) c.take_notes-over.result.restored
    c.take_notes-over.ensures.stands k.1).free

pub returns-clause-joined : goal.returns-clause-joined
returns-clause-joined g c =
    let k = c.take_notes-over.ensures.placed in
    (closed_free (seen g.F.Flash.words g.F.Flash.journal g.F.Flash.faults g.F.Flash.writes) g.F.Flash.part c.take_notes-over.new.emulator k.0 (seen_as (g.X.Runner.is_out c.take_notes-over.new.runner) (g.X.Runner.raised c.take_notes-over.new.runner) (g.X.Runner.may_give c.take_notes-over.new.runner) (g.X.Runner.launches c.take_notes-over.new.runner) (g.X.Runner.collects c.take_notes-over.new.runner) (g.X.Runner.faults c.take_notes-over.new.runner)) c.take_notes-over.result.restored
    c.take_notes-over.ensures.stands k.1).settled

pub returns-clause-inbox : goal.returns-clause-inbox
returns-clause-inbox g c = (
  c.take_rest.ensures.inbox.0 ∙ c.take_notes-over.ensures.inbox.0,
  c.take_rest.ensures.inbox.1 ∙ c.take_notes-over.ensures.inbox.1,
)

pub returns-clause-serves : goal.returns-clause-serves
returns-clause-serves g c = λ own there.
    let kept = kept_start (seen g.F.Flash.words g.F.Flash.journal g.F.Flash.faults g.F.Flash.writes) g.F.Flash.part c.args.emulator own (seen_as (g.X.Runner.is_out c.args.runner) (g.X.Runner.raised c.args.runner) (g.X.Runner.may_give c.args.runner) (g.X.Runner.launches c.args.runner) (g.X.Runner.collects c.args.runner) (g.X.Runner.faults c.args.runner)) there c.requires.begun c.requires.emulator c.requires.free
    (c.requires.unused.1 ∙ sym c.requires.unused.0) in
    let goes = c.take_notes-over.ensures.serves own kept in
    let leaves = c.finish-flash.ensures goes.continues.job_then (closed_target g.F.Flash.part c.take_notes-over.new.emulator
    goes.continues.job_then c.take_notes-over.result.restored goes.continues.kept.sound c.take_notes-over.ensures.stands
    goes.continues.kept.held) in
    record {
      notes = c.take_notes-over.new.receiver.taken;
      later = c.take_rest.ensures.rest.0;
      whole = c.take_rest.ensures.rest.1;
      goes = subst (λ (end : End). IsServed (seen g.F.Flash.words g.F.Flash.journal g.F.Flash.faults g.F.Flash.writes) g.F.Flash.part c.args.emulator own (notes_of c.take_notes-over.new.receiver.taken) end
          c.finish-flash.result.0 c.finish-flash.result.1 (g.X.Runner.launches c.take_notes-over.new.runner)
          (counts (g.K.Sink.written c.args.sink.now) (g.K.Sink.faults c.args.sink.now) (g.X.Runner.faults c.args.runner))
          (counts (g.K.Sink.written c.take_notes-over.new.sink) (g.K.Sink.faults c.take_notes-over.new.sink) (g.X.Runner.faults c.take_notes-over.new.runner)))
          (sym c.end_of-end.ensures)
          (served (seen g.F.Flash.words g.F.Flash.journal g.F.Flash.faults g.F.Flash.writes) g.F.Flash.part c.args.emulator c.take_notes-over.new.emulator own (seen_as (g.X.Runner.is_out c.args.runner) (g.X.Runner.raised c.args.runner) (g.X.Runner.may_give c.args.runner) (g.X.Runner.launches c.args.runner) (g.X.Runner.collects c.args.runner) (g.X.Runner.faults c.args.runner)) (seen_as (g.X.Runner.is_out c.take_notes-over.new.runner) (g.X.Runner.raised c.take_notes-over.new.runner) (g.X.Runner.may_give c.take_notes-over.new.runner) (g.X.Runner.launches c.take_notes-over.new.runner) (g.X.Runner.collects c.take_notes-over.new.runner) (g.X.Runner.faults c.take_notes-over.new.runner))
          c.take_notes-over.result.why c.take_notes-over.result.restored (notes_of c.take_notes-over.new.receiver.taken)
          (g.K.Sink.written c.args.sink.now) (g.K.Sink.written c.take_notes-over.new.sink) (g.K.Sink.faults c.args.sink.now) (g.K.Sink.faults c.take_notes-over.new.sink) goes c.requires.unused.0
          c.take_notes-over.ensures.stands c.finish-flash.result.0 c.finish-flash.result.1 leaves);
    }
