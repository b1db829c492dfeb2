use Rattle.std.proofs.Common.{◌≡◌}
use Rattle.ice_verify.specs.Going.{RunsOn}
use Rattle.ice_verify.proofs.plain.Plain.runs_on.Given as goal

abbrev pub invariant-loop : goal.invariant-loop
invariant-loop l = record {
  rest : l.self ≡ record l.fn.self { core = l.self.core };
  part : l.self.core.part ≡ l.fn.self.core.part;
  runs : RunsOn l.fn.self l.counter l.self;
}
