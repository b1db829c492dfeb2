use Rattle.std.proofs.Common.{◌++◌, ℕ, List, [], length, refl, ◌∙◌, subst, arith}
use Rattle.std.proofs.KnownBytes.{Appends-nil, Appends-trans}
use Rattle.flash_patch.specs.Asking.{seen}
use Rattle.ice_replay.specs.Keeping.{place}
use Rattle.ice_replay.specs.Steps.{StandsSo, Spends}
use Rattle.ice_replay.specs.declared.settle.Came.{Came}
use Rattle.ice_replay.proofs.Chunking.{none_taken, some_more, taken_so, chunk_ends}
use Rattle.ice_replay.proofs.chunk.take_chunk.Goals as goal

pub frames-init : goal.frames-init
frames-init g c = record {
  placed = c.requires.placed;
  listening = c.requires.listens;
  within = omega arith;
  some = λ none. c.requires.partial;
  counts = omega arith;
  part = refl;
  stops = refl;
  faults = omega arith;
  takes = λ job pend kept. (
    [],
    none_taken (seen g.F.Flash.words g.F.Flash.journal g.F.Flash.faults g.F.Flash.writes) g.F.Flash.part (place c.args.emulator.now c.args.runner.now job pend) kept c.requires.listens,
    (Appends-nil (g.K.Sink.written c.args.sink.now), refl),
  );
}

pub frames-preserved : goal.frames-preserved
frames-preserved g c = record {
  placed = c.step-stepped.ensures.placed;
  listening = subst (λ (x : Came). StandsSo x c.step-stepped.new.emulator.tool.mode) c.in-None.ensures.writes.0 c.step-stepped.ensures.came;
  within = omega (arith, c.step-stepped.ensures.most, c.split_at.ensures.back_len, c.frames.invariant.within);
  some = λ none. absurd (some_more c.frames.used c.step-stepped.result.used c.frames.emulator.receiver.held
      c.step-stepped.new.emulator.receiver.held
      (subst (λ (x : Came). Spends x (length c.split_at.result.1.now) c.step-stepped.result.used c.frames.emulator c.step-stepped.new.emulator)
      c.in-None.ensures.writes.0 c.step-stepped.ensures.spends) c.frames.invariant.some none);
  counts = omega (arith, c.step-stepped.ensures.counts, c.frames.invariant.counts);
  part = c.step-stepped.ensures.part ∙ c.frames.invariant.part;
  stops = c.step-stepped.ensures.stops ∙ c.frames.invariant.stops;
  faults = omega (arith, c.frames.invariant.faults, c.write_step.ensures.faults);
  takes = λ job pend kept.
      let front = c.frames.invariant.takes job pend kept in
      let sent : List ℕ = c.step-stepped.new.sent.answer.items ++
      (c.step-stepped.new.sent.okay.items ++ c.step-stepped.new.sent.event.items) in (
        front.0 ++ sent,
        taken_so (seen g.F.Flash.words g.F.Flash.journal g.F.Flash.faults g.F.Flash.writes) g.F.Flash.part (place c.args.emulator.now c.args.runner.now job pend) c.args.chunk.now
            c.frames.used c.step-stepped.result.used front.0 sent c.frames.emulator c.step-stepped.new.emulator c.frames.runner
            c.step-stepped.new.runner c.step-stepped.result.came front.1 c.frames.invariant.part c.frames.invariant.stops
            c.split_at.result.1.now c.split_at.ensures.back c.step-stepped.ensures.steps,
        (
          Appends-trans (g.K.Sink.written c.args.sink.now) (g.K.Sink.written c.frames.sink) (g.K.Sink.written c.write_step.new.sink) front.0
              sent front.2.0 c.in-None.ensures.writes.1.0,
          c.in-None.ensures.writes.1.1 ∙ front.2.1,
        ),
      );
}

pub returns-in-Some-clause-takes : goal.returns-in-Some-clause-takes
returns-in-Some-clause-takes g c = λ job pend kept.
    let front = c.frames.invariant.takes job pend kept in
    let sent : List ℕ = c.step-stepped.new.sent.answer.items ++
    (c.step-stepped.new.sent.okay.items ++ c.step-stepped.new.sent.event.items) in
    chunk_ends (seen g.F.Flash.words g.F.Flash.journal g.F.Flash.faults g.F.Flash.writes) g.F.Flash.part (place c.args.emulator.now c.args.runner.now job pend) c.args.chunk.now
    c.frames.used c.step-stepped.result.used front.0 sent c.frames.emulator c.step-stepped.new.emulator c.frames.runner
    c.step-stepped.new.runner c.step-stepped.result.came front.1 c.frames.invariant.part c.frames.invariant.stops
    c.split_at.result.1.now c.split_at.ensures.back c.step-stepped.ensures.steps c.in-Some.end c.step-stepped.result.stopped (g.K.Sink.written c.args.sink.now)
    (g.K.Sink.written c.frames.sink) (g.K.Sink.written c.write_step.new.sink) (g.K.Sink.faults c.args.sink.now)
    (g.K.Sink.faults c.frames.sink) (g.K.Sink.faults c.write_step.new.sink) c.in-Some.ensures.writes front.2
    c.step-stepped.ensures.came c.step-stepped.ensures.stopped c.step-stepped.ensures.spends c.step-stepped.ensures.still c.frames.invariant.within c.frames.invariant.some

pub returns-in-Some-clause-bytes : goal.returns-in-Some-clause-bytes
returns-in-Some-clause-bytes g c = λ i. omega (arith, c.type_inv.chunk i)
