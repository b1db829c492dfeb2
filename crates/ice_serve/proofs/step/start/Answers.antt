use Rattle.std.proofs.Common.{true, ap, sym, ◌∙◌, suc}
use Rattle.ice_serve.proofs.Kept.{launched_held, never}
use Rattle.ice_serve.proofs.step.start.Goals as goal

pub returns-in-Ok-clause-starts : goal.returns-in-Ok-clause-starts
returns-in-Ok-clause-starts g c = record {
  worked = true;
  how = (
    c.launched.ensures.launches c.args.job
        (launched_held g.F.Flash.part c.args.emulator.now c.args.job c.requires.emulator c.requires.launching c.requires.launched),
    record {
      out = c.in-Ok.ensures.out.0;
      due = ap suc (c.launch.ensures.collects ∙ c.requires.free.settled) ∙ sym c.in-Ok.ensures.counts;
      raised = λ raised. absurd (never (g.X.Runner.raised c.launch.new.self) raised c.in-Ok.ensures.out.1);
      gives = c.in-Ok.ensures.ends;
    },
    c.in-Ok.ensures.counts,
    c.launch.ensures.cause.0,
  );
}
