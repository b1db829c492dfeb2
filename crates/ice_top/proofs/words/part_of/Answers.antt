use Rattle.ice_top.proofs.WordLemmas.{NamesPart-none}
use Rattle.ice_top.proofs.words.part_of.Goals as goal

pub returns-in-None-clause-named : goal.returns-in-None-clause-named
returns-in-None-clause-named c = NamesPart-none _ c.in-None.ensures

pub returns-in-None-clause-said : goal.returns-in-None-clause-said
returns-in-None-clause-said c = λ form part says. absurd (c.in-None.ensures form part says)
