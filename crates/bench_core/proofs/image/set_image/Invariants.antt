use Rattle.std.proofs.Common.{◌≡◌}
use Rattle.bench_core.proofs.image.set_image.Given as goal

-- the flash keeps its part
abbrev pub invariant-loop-page : goal.invariant-loop-page
invariant-loop-page l = l.flash.part ≡ l.fn.flash.part
