use Rattle.std.proofs.Common.{◌++◌, ℕ, List, [], refl, sym, ◌∙◌, subst, arith}
use Rattle.std.proofs.KnownBytes.{Appends-nil, Appends-trans}
use Rattle.debug_spec.specs.Debugger.{listens}
use Rattle.flash_patch.specs.Asking.{seen}
use Rattle.ice_serve.specs.Keeping.{seen_as}
use Rattle.ice_serve.specs.Steps.{IsSome, StandsSo}
use Rattle.ice_serve.specs.declared.step.Came.{Came}
use Rattle.ice_serve.proofs.Kept.{never}
use Rattle.ice_serve.proofs.Chunking.{none_taken, taken_so, chunk_ends, stands_chunk, ignores_chunk, deaf_then}
use Rattle.ice_serve.proofs.chunk.take_chunk.Goals as goal

pub frames-init : goal.frames-init
frames-init g c = record {
  placed = c.requires.placed;
  sound = c.requires.sound;
  kept = refl;
  takes_line = c.requires.takes;
  counted = c.requires.counted;
  within = omega arith;
  few = omega arith;
  part = refl;
  deaf = λ off. (off, refl, refl);
  takes = λ job kept. (
    [],
    none_taken (seen g.F.Flash.words g.F.Flash.journal g.F.Flash.faults g.F.Flash.writes) g.F.Flash.part c.args.emulator.now job (seen_as (g.X.Runner.is_out c.args.runner.now) (g.X.Runner.raised c.args.runner.now) (g.X.Runner.may_give c.args.runner.now) (g.X.Runner.launches c.args.runner.now) (g.X.Runner.collects c.args.runner.now) (g.X.Runner.faults c.args.runner.now)) kept,
    (Appends-nil (g.K.Sink.written c.args.sink.now), refl),
    λ off. refl,
  );
}

pub frames-preserved : goal.frames-preserved
frames-preserved g c =
    let came = c.step-stepped.result.came in
    let stood : StandsSo Came.Frame c.frames.emulator.tool.mode c.step-stepped.new.emulator.tool.mode =
    subst (λ (x : Came). StandsSo x c.frames.emulator.tool.mode c.step-stepped.new.emulator.tool.mode) c.in-None.ensures.writes.0
    c.step-stepped.ensures.came in
    record {
      placed = c.step-stepped.ensures.placed;
      sound = c.step-stepped.ensures.sound;
      kept = c.step-stepped.ensures.kept ∙ c.frames.invariant.kept;
      takes_line = stood.1;
      counted = c.step-stepped.ensures.counted;
      within = omega (arith, c.step-stepped.ensures.most, c.split_at.ensures.back_len, c.frames.invariant.within);
      few = omega (arith, c.step-stepped.ensures.few, c.frames.invariant.few);
      part = c.step-stepped.ensures.part ∙ c.frames.invariant.part;
      deaf = λ off. absurd (never (listens c.frames.emulator.tool.mode) stood.0 (c.frames.invariant.deaf off).0);
      takes = λ job kept.
          let front = c.frames.invariant.takes job kept in
          let sent : List ℕ = c.step-stepped.new.sent.answer.items ++ c.step-stepped.new.sent.okay.items in (
            front.0 ++ sent,
            taken_so (seen g.F.Flash.words g.F.Flash.journal g.F.Flash.faults g.F.Flash.writes) g.F.Flash.part c.args.emulator.now job (seen_as (g.X.Runner.is_out c.args.runner.now) (g.X.Runner.raised c.args.runner.now) (g.X.Runner.may_give c.args.runner.now) (g.X.Runner.launches c.args.runner.now) (g.X.Runner.collects c.args.runner.now) (g.X.Runner.faults c.args.runner.now)) c.args.chunk.now c.frames.used c.step-stepped.result.used
                front.0 sent c.frames.emulator c.step-stepped.new.emulator (seen_as (g.X.Runner.is_out c.frames.runner) (g.X.Runner.raised c.frames.runner) (g.X.Runner.may_give c.frames.runner) (g.X.Runner.launches c.frames.runner) (g.X.Runner.collects c.frames.runner) (g.X.Runner.faults c.frames.runner)) (seen_as (g.X.Runner.is_out c.step-stepped.new.runner) (g.X.Runner.raised c.step-stepped.new.runner) (g.X.Runner.may_give c.step-stepped.new.runner) (g.X.Runner.launches c.step-stepped.new.runner) (g.X.Runner.collects c.step-stepped.new.runner) (g.X.Runner.faults c.step-stepped.new.runner))
                c.step-stepped.result.came front.1 c.frames.invariant.part c.split_at.result.1.now c.split_at.ensures.back
                c.step-stepped.ensures.steps (subst IsSome (sym c.in-None.ensures.writes.0) tt),
            (
              Appends-trans (g.K.Sink.written c.args.sink.now) (g.K.Sink.written c.frames.sink) (g.K.Sink.written c.write_step.new.sink) front.0 sent front.2.0
                  c.in-None.ensures.writes.1.0,
              c.in-None.ensures.writes.1.1 ∙ front.2.1,
            ),
            λ off. absurd (never (listens c.frames.emulator.tool.mode) stood.0 (c.frames.invariant.deaf off).0),
          );
    }

pub returns-in-Some-clause-takes : goal.returns-in-Some-clause-takes
returns-in-Some-clause-takes g c = λ job kept.
    let front = c.frames.invariant.takes job kept in
    let sent : List ℕ = c.step-stepped.new.sent.answer.items ++ c.step-stepped.new.sent.okay.items in
    chunk_ends (seen g.F.Flash.words g.F.Flash.journal g.F.Flash.faults g.F.Flash.writes) g.F.Flash.part c.args.emulator.now job (seen_as (g.X.Runner.is_out c.args.runner.now) (g.X.Runner.raised c.args.runner.now) (g.X.Runner.may_give c.args.runner.now) (g.X.Runner.launches c.args.runner.now) (g.X.Runner.collects c.args.runner.now) (g.X.Runner.faults c.args.runner.now)) c.args.chunk.now c.frames.used c.step-stepped.result.used
    front.0 sent c.frames.emulator c.step-stepped.new.emulator (seen_as (g.X.Runner.is_out c.frames.runner) (g.X.Runner.raised c.frames.runner) (g.X.Runner.may_give c.frames.runner) (g.X.Runner.launches c.frames.runner) (g.X.Runner.collects c.frames.runner) (g.X.Runner.faults c.frames.runner)) (seen_as (g.X.Runner.is_out c.step-stepped.new.runner) (g.X.Runner.raised c.step-stepped.new.runner) (g.X.Runner.may_give c.step-stepped.new.runner) (g.X.Runner.launches c.step-stepped.new.runner) (g.X.Runner.collects c.step-stepped.new.runner) (g.X.Runner.faults c.step-stepped.new.runner))
    c.step-stepped.result.came front.1 c.frames.invariant.part c.split_at.result.1.now c.split_at.ensures.back
    c.step-stepped.ensures.steps c.in-Some.end (g.K.Sink.written c.args.sink.now) (g.K.Sink.written c.frames.sink) (g.K.Sink.written c.write_step.new.sink) (g.K.Sink.faults c.args.sink.now)
    (g.K.Sink.faults c.frames.sink) (g.K.Sink.faults c.write_step.new.sink) c.in-Some.ensures.writes front.2 c.step-stepped.ensures.came
    c.step-stepped.ensures.spends c.step-stepped.ensures.still c.frames.invariant.within front.3

pub returns-in-Some-clause-stands : goal.returns-in-Some-clause-stands
returns-in-Some-clause-stands g c =
    stands_chunk c.step-stepped.result.came c.in-Some.end (g.K.Sink.written c.frames.sink) (g.K.Sink.written c.write_step.new.sink) (g.K.Sink.faults c.frames.sink)
    (g.K.Sink.faults c.write_step.new.sink) (c.step-stepped.new.sent.answer.items ++ c.step-stepped.new.sent.okay.items) c.frames.emulator.tool.mode
    c.step-stepped.new.emulator.tool.mode c.in-Some.ensures.writes c.step-stepped.ensures.came c.frames.invariant.takes_line

pub returns-in-Some-clause-ignores : goal.returns-in-Some-clause-ignores
returns-in-Some-clause-ignores g c = λ off.
    let deaf = c.frames.invariant.deaf off in
    let ignored = ignores_chunk c.step-stepped.result.came c.in-Some.end (g.K.Sink.written c.frames.sink) (g.K.Sink.written c.write_step.new.sink) (g.K.Sink.faults c.frames.sink)
    (g.K.Sink.faults c.write_step.new.sink) (c.step-stepped.new.sent.answer.items ++ c.step-stepped.new.sent.okay.items) c.frames.emulator.tool.mode
    c.step-stepped.new.emulator.tool.mode c.in-Some.ensures.writes c.step-stepped.ensures.came deaf.0 in
    (ignored.0, ignored.1 ∙ deaf.1, ignored.2 ∙ deaf.2)

pub returns-in-Some-clause-kept : goal.returns-in-Some-clause-kept
returns-in-Some-clause-kept g c = c.step-stepped.ensures.kept ∙ c.frames.invariant.kept

pub returns-in-Some-clause-deaf : goal.returns-in-Some-clause-deaf
returns-in-Some-clause-deaf g c = λ off.
    deaf_then c.step-stepped.result.came c.frames.emulator.tool.mode c.step-stepped.new.emulator.tool.mode c.step-stepped.ensures.came
    (c.frames.invariant.deaf off).0
