use Rattle.std.proofs.Common.{◌≡◌, ◌++◌, length}
use Rattle.part_spec.specs.Pages.{paired}
use Rattle.image_hex.proofs.raw.program.Given as goal

abbrev pub invariant-loop-rest : goal.invariant-loop-rest
invariant-loop-rest l = l.words.items ++ paired l.rest ≡ paired l.bytes

abbrev pub decreases-loop-rest : goal.decreases-loop-rest
decreases-loop-rest l = length l.rest
