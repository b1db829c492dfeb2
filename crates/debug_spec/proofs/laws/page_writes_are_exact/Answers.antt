use Rattle.debug_spec.proofs.PageLemmas.{sync_is_exact, replant_makes_patch, each_leads}
use Rattle.debug_spec.proofs.ProgrammingLemmas.{programming_is_exact}
use Rattle.debug_spec.proofs.laws.page_writes_are_exact.Goals as goal

pub returns-clause-sync : goal.returns-clause-sync
returns-clause-sync c = sync_is_exact

pub returns-clause-replant : goal.returns-clause-replant
returns-clause-replant c = replant_makes_patch

pub returns-clause-leads : goal.returns-clause-leads
returns-clause-leads c = each_leads

pub returns-clause-programming : goal.returns-clause-programming
returns-clause-programming c = programming_is_exact
