use Rattle.std.proofs.Common.{refl, inr, ◌∙◌}
use Rattle.flash_patch.specs.Asking.{seen}
use Rattle.ice_top.proofs.Servings.{ServedRan-of, RanServed-none, HasNoThread-of}
use Rattle.ice_top.proofs.serve.run.Goals as goal

pub returns-in-Ok-clause-ran : goal.returns-in-Ok-clause-ran
returns-in-Ok-clause-ran g c = λ program from contents contents_then loader_faults loader_faults_then begun size whole.
    ServedRan-of (seen g.F.Flash.words g.F.Flash.journal g.F.Flash.faults g.F.Flash.writes) g.F.Flash.part program from
    c.in-Ok.served.flash c.args.emulator c.in-Ok.served.end c.in-Ok.served.pass.taken c.in-Ok.served.totals _ _ size whole begun
    (c.in-Ok.ensures.serves begun.own begun.there) c.status_for.result c.status_for.ensures c.in-Ok.ensures.lines (refl, refl)

pub returns-in-Err-clause-ran : goal.returns-in-Err-clause-ran
returns-in-Err-clause-ran g c = λ program from contents contents_then loader_faults loader_faults_then begun size whole.
    RanServed-none _ _ _ _ _ _ _ _ _ _ c.unopened.ensures.pass c.unopened.ensures.totals
    (inr (
      c.unopened.ensures.status ∙ c.refused-status.ensures.same,
      HasNoThread-of (seen g.F.Flash.words g.F.Flash.journal g.F.Flash.faults g.F.Flash.writes) g.F.Flash.part program c.args.emulator
          _ _ from c.unopened.result.flash begun (c.unopened.ensures.flash ∙ c.in-Err.ensures.program begun.own begun.there) (
            cc (c.unopened.ensures.source, c.in-Err.ensures.unserved.0, c.in-Err.ensures.unserved.2),
            c.refused-status.ensures.noted,
          )
          c.in-Err.ensures.refused,
    ))
