use Rattle.std.proofs.Common.{refl, subst}
use Rattle.flash_patch.specs.Asking.{seen}
use Rattle.ice_emul.specs.Beginning.{FailsToBegin}
use Rattle.ice_emul.specs.declared.session.BeginError.{BeginError}
use Rattle.ice_top.proofs.Sessions.{DidNotBegin-memory, DidNotBegin-flash}
use Rattle.ice_top.proofs.opening.give_back.Goals as goal

pub returns-in-Memory-clause-ended : goal.returns-in-Memory-clause-ended
returns-in-Memory-clause-ended g c = λ program from line failed.
    DidNotBegin-memory _ g.F.Flash.part program c.refused.result _ _ from _
    (subst (λ (x : BeginError _). FailsToBegin (seen g.F.Flash.words g.F.Flash.journal g.F.Flash.faults g.F.Flash.writes)
    g.F.Flash.part program from x) c.in-Memory.is failed)
    refl c.refused.ensures.noted c.refused.ensures.same

pub returns-in-Flash-clause-ended : goal.returns-in-Flash-clause-ended
returns-in-Flash-clause-ended g c = λ program from line failed.
    DidNotBegin-flash (seen g.F.Flash.words g.F.Flash.journal g.F.Flash.faults g.F.Flash.writes) g.F.Flash.part program
    c.refused-in-Flash.result _ _ from _
    (subst (λ (x : BeginError _). FailsToBegin (seen g.F.Flash.words g.F.Flash.journal g.F.Flash.faults g.F.Flash.writes)
    g.F.Flash.part program from x) c.in-Flash.is failed)
    refl c.refused-in-Flash.ensures.noted c.refused-in-Flash.ensures.same
