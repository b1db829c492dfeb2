use Rattle.std.proofs.Common.{true, false, refl, ◌∙◌, arith}
use Rattle.flash_patch.specs.Asking.{seen}
use Rattle.run_control.specs.Ends.{is_ended}
use Rattle.ice_replay.proofs.Starting.{ended_when_ready, launched_answered, launched_held, made_comes, made_pend, made_waits}
use Rattle.ice_replay.proofs.Stepping.{home_then}
use Rattle.ice_replay.proofs.step.start.Goals as goal

pub returns-then-ready-clause-receiver : goal.returns-then-ready-clause-receiver
returns-then-ready-clause-receiver g c = c.settle.ensures.receiver ∙ c.launched.ensures.receiver

pub returns-then-ready-clause-starts : goal.returns-then-ready-clause-starts
returns-then-ready-clause-starts g c =
    let held = launched_held g.F.Flash.part c.args.emulator.now.target c.args.emulator.now.tool c.args.job c.requires.sound.here
    c.requires.launching c.requires.launched in
    let answers = c.launched.ensures.launches c.args.job held in
    let out = c.in-Ok.ensures.out in
    let launched = launched_answered g.F.Flash.part c.args.emulator.now.tool c.launched.new.self.tool c.args.job c.launched.ensures.runs
    c.requires.launched in
    let ended = ended_when_ready c.ready.result _ (is_ended c.launch.new.self.seat) c.launch.new.self.raised c.ready.ensures out.0 out.1 ∙
    c.if-ready.true in
    let pend = made_pend (seen g.F.Flash.words g.F.Flash.journal g.F.Flash.faults g.F.Flash.writes) g.F.Flash.part c.launched.new.self c.args.runner.now c.launch.new.self c.args.job launched out.0
    c.in-Ok.ensures.counts c.launch.ensures.kept c.requires.runner.0 c.launch.ensures.made in
    record {
      mid = c.launched.new.self;
      answers = answers;
      pend = pend;
      by_itself = true;
      how = (
        c.settle.ensures.settles c.args.job _ true pend answers.is
            (made_comes (seen g.F.Flash.words g.F.Flash.journal g.F.Flash.faults g.F.Flash.writes) g.F.Flash.part c.launched.new.self c.args.runner.now c.launch.new.self c.args.job launched out.0
            c.in-Ok.ensures.counts c.launch.ensures.kept c.requires.runner.0 c.launch.ensures.made true ended),
        home_then c.settle.result c.launched.new.self.tool.mode c.settle.new.emulator.tool.mode c.settle.ensures.mode,
        c.settle.ensures.free,
      );
    }

pub returns-clause-starts : goal.returns-clause-starts
returns-clause-starts g c =
    let held = launched_held g.F.Flash.part c.args.emulator.now.target c.args.emulator.now.tool c.args.job c.requires.sound.here
    c.requires.launching c.requires.launched in
    let out = c.in-Ok.ensures.out in
    let launched = launched_answered g.F.Flash.part c.args.emulator.now.tool c.launched.new.self.tool c.args.job c.launched.ensures.runs
    c.requires.launched in
    let ended = ended_when_ready c.ready.result _ (is_ended c.launch.new.self.seat) c.launch.new.self.raised c.ready.ensures out.0 out.1 ∙
    c.if-ready.false in
    record {
      mid = c.launched.new.self;
      answers = c.launched.ensures.launches c.args.job held;
      pend = made_pend (seen g.F.Flash.words g.F.Flash.journal g.F.Flash.faults g.F.Flash.writes) g.F.Flash.part c.launched.new.self c.args.runner.now c.launch.new.self c.args.job launched out.0
          c.in-Ok.ensures.counts c.launch.ensures.kept c.requires.runner.0 c.launch.ensures.made;
      by_itself = false;
      how = (
        refl,
        c.requires.empty.1,
        made_waits (seen g.F.Flash.words g.F.Flash.journal g.F.Flash.faults g.F.Flash.writes) g.F.Flash.part c.launched.new.self c.args.runner.now c.launch.new.self c.args.job launched out.0
            c.in-Ok.ensures.counts c.launch.ensures.kept c.requires.runner.0 c.launch.ensures.made ended
            (omega (arith, c.launch.ensures.collects, c.in-Ok.ensures.counts, c.requires.counts)),
      );
    }
