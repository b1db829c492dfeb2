use Rattle.std.proofs.Common.{ℕ, subst}
use Rattle.flash_patch.specs.Asking.{seen}
use Rattle.run_control.specs.Ends.{EndsWithin, is_ended}
use Rattle.run_control.proofs.Advancing.{ends_job}
use Rattle.run_control.proofs.inline.InlineRunner.launch.Goals as goal

pub returns-clause-ends : goal.returns-clause-ends
returns-clause-ends g c = λ done is.
    ends_job (seen g.F.Flash.words g.F.Flash.journal g.F.Flash.faults g.F.Flash.writes) g.F.Flash.part c.args.job done c.steps.result
    (is_ended c.run.result) c.steps.ensures.some (c.run.ensures.ends done is)

pub returns-clause-made : goal.returns-clause-made
returns-clause-made g c = λ done is.
    subst (λ (n : ℕ). EndsWithin (seen g.F.Flash.words g.F.Flash.journal g.F.Flash.faults g.F.Flash.writes) g.F.Flash.part c.args.job done n
    (is_ended c.run.result)) c.steps.ensures.number (c.run.ensures.ends done is)
