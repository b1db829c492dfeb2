use Rattle.std.proofs.Common.{◌-◌, ◌≡◌, true}
use Rattle.ice_emul.specs.Standing.{IsSoundEmulator}
use Rattle.ice_emul.specs.Taking.{takes_line}
use Rattle.bench_emul.proofs.answer_all.Given as goal

-- each answer leaves an emulator that takes the line
abbrev pub invariant-rounds : goal.invariant-rounds
invariant-rounds l = record {
  sound : IsSoundEmulator (λ f. f.part) l.emulator;
  takes : takes_line l.emulator.tool.mode ≡ true;
}

abbrev pub decreases-rounds : goal.decreases-rounds
decreases-rounds l = l.count - l.made
