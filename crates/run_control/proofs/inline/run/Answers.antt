use Rattle.std.proofs.Common.{refl}
use Rattle.flash_patch.specs.Asking.{seen}
use Rattle.run_control.specs.declared.job.Turn.TheVariants.{Halted, NotYet}
use Rattle.run_control.proofs.Advancing.{ends_by}
use Rattle.run_control.proofs.inline.run.Goals as goal

pub returns-in-Halted-clause-ends : goal.returns-in-Halted-clause-ends
returns-in-Halted-clause-ends g c = λ done is.
    let made = c.advance.ensures in
    let turned = c.in-Halted.ensures in
    (ends_by (seen g.F.Flash.words g.F.Flash.journal g.F.Flash.faults g.F.Flash.writes) g.F.Flash.part c.args.job c.args.steps
    (Halted c.in-Halted.halt) c.advance.new.self _ _ refl turned.advances turned.halts made.part made.counts done is).0

pub returns-in-Halted-clause-forced : goal.returns-in-Halted-clause-forced
returns-in-Halted-clause-forced g c = λ done is.
    let made = c.advance.ensures in
    let turned = c.in-Halted.ensures in
    (ends_by (seen g.F.Flash.words g.F.Flash.journal g.F.Flash.faults g.F.Flash.writes) g.F.Flash.part c.args.job c.args.steps
    (Halted c.in-Halted.halt) c.advance.new.self _ _ refl turned.advances turned.halts made.part made.counts done is).1

pub returns-in-NotYet-clause-ends : goal.returns-in-NotYet-clause-ends
returns-in-NotYet-clause-ends g c = λ done is.
    let made = c.advance.ensures in
    let turned = c.in-NotYet.ensures in
    (ends_by (seen g.F.Flash.words g.F.Flash.journal g.F.Flash.faults g.F.Flash.writes) g.F.Flash.part c.args.job c.args.steps
    NotYet c.advance.new.self _ _ refl turned.advances turned.halts made.part made.counts done is).0
