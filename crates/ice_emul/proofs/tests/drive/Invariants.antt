use Rattle.std.proofs.Common.{◌≡◌, true}
use Rattle.std.specs.Prelude.{IfSome}
use Rattle.ice_emul.specs.Launching.{IsOwn}
use Rattle.ice_emul.specs.Standing.{IsSoundEmulator}
use Rattle.ice_emul.specs.Taking.{takes_line}
use Rattle.ice_emul.proofs.tests.drive.Given as goal

-- each step leaves an emulator that takes the line, and holds a job of its part or none
abbrev pub invariant-pieces : goal.invariant-pieces
invariant-pieces l = record {
  sound : IsSoundEmulator (λ f. f.part) l.emulator;
  takes : takes_line l.emulator.tool.mode ≡ true;
  held : IfSome l.held (λ own. IsOwn (λ f. f.part) l.emulator.tool own);
}
