use Rattle.std.proofs.Common.{◌+◌, ◌≤◌, ◌++◌, List, ℕ, [], take}
use Rattle.part_spec.specs.declared.part.Part.{Part}
use Rattle.record_check.specs.Taking.{HasTaken, IsGoing}
use Rattle.record_check.proofs.checker.Checker.take_chunk.Given as goal

abbrev pub invariant-bytes : goal.invariant-bytes
invariant-bytes l = record {
  going : IsGoing l.self;
  few : l.self.lines ≤ l.fn.self.lines + l.byte-index;
  takes : (part : Part) (prog taken : List ℕ) → HasTaken part prog taken l.fn.self →
      HasTaken part prog (taken ++ take l.byte-index l.chunk) l.self;
}
