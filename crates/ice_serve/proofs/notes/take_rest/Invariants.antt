use Rattle.std.proofs.Common.{◌≡◌, List, ◌++◌}
use Rattle.ice_inbox.specs.declared.inbox.Note.{Note}
use Rattle.ice_serve.proofs.notes.take_rest.Given as goal

abbrev pub invariant-notes : goal.invariant-notes
invariant-notes g l = record {
  rest : (later : List Note) × (l.receiver.taken ≡ l.fn.receiver.taken ++ later);
  inbox : (l.receiver.inbox ≡ l.fn.receiver.inbox) × (l.receiver.known ≡ l.fn.receiver.known);
}
