use Rattle.std.proofs.Common.{refl}
use Rattle.record_check.proofs.Taken.{taken_none}
use Rattle.record_check.proofs.checker.Checker.of.Goals as goal

pub returns-clause-taken : goal.returns-clause-taken
returns-clause-taken c = λ part prog stands. taken_none part prog _ c.new.ensures refl stands
