use Rattle.std.proofs.Common.{rules, ◌≡◌, true, false, Ok}
use Rattle.ice_replay.specs.declared.settle.Came.TheVariants.{Closed}
use Rattle.ice_replay.proofs.chunk.write_step.Goals as goal

never : true ≡ false → ⊥
never h = cc

pub returns-else-write-2-clause-writes : goal.returns-else-write-2-clause-writes
returns-else-write-2-clause-writes g c =
    let is : c.args.came ≡ Closed (Ok c.in-Closed-Ok.field-0-0) = search rules in
    (Ok c.in-Closed-Ok.field-0-0, is, c.if-write-2.ensures.writes, λ failed. absurd (never failed))
