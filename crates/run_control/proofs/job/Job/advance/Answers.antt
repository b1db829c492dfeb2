use Rattle.std.proofs.Common.{refl, subst}
use Rattle.flash_patch.specs.Asking.{seen}
use Rattle.run_control.specs.Runs.{HaltsAtBoundary}
use Rattle.run_control.proofs.Advancing.{ends_early, ends_later}
use Rattle.run_control.proofs.job.Job.advance.Goals as goal

pub returns-in-Some-clause-advances : goal.returns-in-Some-clause-advances
returns-in-Some-clause-advances g c =
    ends_early (seen g.F.Flash.words g.F.Flash.journal g.F.Flash.faults g.F.Flash.writes) c.args.budget c.requires.some _ c.args.self.now
    c.begin.new.self c.in-Some.halt c.in-Some.ensures.begun c.begin.ensures.comparators c.begin.ensures.core

pub returns-in-None-clause-advances : goal.returns-in-None-clause-advances
returns-in-None-clause-advances g c =
    ends_later (seen g.F.Flash.words g.F.Flash.journal g.F.Flash.faults g.F.Flash.writes) c.args.budget c.requires.some _ c.args.self.now
    c.begin.new.self _ c.run_on.result _ c.in-None.ensures.begun c.begin.ensures.comparators c.begin.ensures.core c.run_on.ensures.runs refl
    c.run_on.ensures.part

pub returns-in-None-clause-cause : goal.returns-in-None-clause-cause
returns-in-None-clause-cause g c = λ e. absurd (subst HaltsAtBoundary e c.run_on.ensures.halts)
