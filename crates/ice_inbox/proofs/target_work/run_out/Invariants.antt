use Rattle.std.proofs.Common.{◌≡◌, ◌≤◌, ℕ}
use Rattle.flash_patch.specs.Asking.{seen}
use Rattle.run_control.specs.Runs.{MayAdvance}
use Rattle.ice_inbox.specs.Targets.{LookMark}
use Rattle.ice_inbox.proofs.Turns.{Went}
use Rattle.ice_inbox.proofs.target_work.run_out.Given as goal

-- the job has gone so many steps, and its run is not at an end
abbrev pub invariant-loop : goal.invariant-loop
invariant-loop g l = record {
  ready : MayAdvance (seen g.F.Flash.words g.F.Flash.journal g.F.Flash.faults g.F.Flash.writes) g.F.Flash.part l.job;
  part : g.F.Flash.part l.job.flash ≡ g.F.Flash.part l.fn.job.flash;
  counts : g.F.Flash.faults l.fn.job.flash ≤ g.F.Flash.faults l.job.flash;
  went : (n : ℕ) × Went {M = LookMark} (seen g.F.Flash.words g.F.Flash.journal g.F.Flash.faults g.F.Flash.writes) l.fn.job
      (record {
        looks = l.fn.look.looker.loads;
        yes = l.fn.look.yes;
        last = l.fn.look.told;
        mark = record { word = l.fn.look.looker.word; number = l.fn.look.number };
      })
      n l.job
      (record {
        looks = l.look.looker.loads;
        yes = l.look.yes;
        last = l.look.told;
        mark = record { word = l.look.looker.word; number = l.look.number };
      });
}
