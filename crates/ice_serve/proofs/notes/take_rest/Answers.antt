use Rattle.std.proofs.Common.{◌≡◌, ◌∷◌, ◌++◌, ◌||◌, [], Bool, true, false, refl, sym, ap, ◌∙◌, append_assoc, append-nil}
use Rattle.ice_inbox.specs.Ends.{Taken}
use Rattle.ice_inbox.specs.Notes.{has_last}
use Rattle.ice_serve.proofs.NotesSoFar.{has_last-more}
use Rattle.ice_serve.proofs.notes.take_rest.Goals as goal

or_true : (b : Bool) → (b || true) ≡ true
or_true true = refl
or_true false = refl

pub returns-then-last-clause-rest : goal.returns-then-last-clause-rest
returns-then-last-clause-rest g c = ([], sym (append-nil c.args.receiver.now.taken))

pub notes-init : goal.notes-init
notes-init g c = record { rest = ([], sym (append-nil c.args.receiver.now.taken)); inbox = (refl, refl) }

pub notes-preserved : goal.notes-preserved
notes-preserved g c = record {
  rest = (
    c.notes.invariant.rest.0 ++ c.take-note.result ∷ [],
    ap (λ (t : Taken). t.taken) c.take-note.ensures.listed ∙ ap (λ l. l ++ c.take-note.result ∷ []) c.notes.invariant.rest.1 ∙
        append_assoc c.args.receiver.now.taken c.notes.invariant.rest.0 (c.take-note.result ∷ []),
  );
  inbox = (
    ap (λ (t : Taken). t.inbox) c.take-note.ensures.listed ∙ c.notes.invariant.inbox.0,
    ap (λ (t : Taken). t.known) c.take-note.ensures.listed ∙ c.notes.invariant.inbox.1,
  );
}

pub returns-then-is_last-clause-rest : goal.returns-then-is_last-clause-rest
returns-then-is_last-clause-rest g c = (
  c.notes.invariant.rest.0 ++ c.take-note.result ∷ [],
  ap (λ (t : Taken). t.taken) c.take-note.ensures.listed ∙ ap (λ l. l ++ c.take-note.result ∷ []) c.notes.invariant.rest.1 ∙
      append_assoc c.args.receiver.now.taken c.notes.invariant.rest.0 (c.take-note.result ∷ []),
)

pub returns-then-is_last-clause-last : goal.returns-then-is_last-clause-last
returns-then-is_last-clause-last g c =
    ap has_last (ap (λ (t : Taken). t.taken) c.take-note.ensures.listed) ∙ has_last-more c.notes.receiver.taken c.take-note.result ∙
    ap (λ (b : Bool). has_last c.notes.receiver.taken || b) (sym c.is_last.ensures ∙ c.if-is_last.true) ∙
    or_true (has_last c.notes.receiver.taken)

pub returns-then-is_last-clause-inbox : goal.returns-then-is_last-clause-inbox
returns-then-is_last-clause-inbox g c = (
  ap (λ (t : Taken). t.inbox) c.take-note.ensures.listed ∙ c.notes.invariant.inbox.0,
  ap (λ (t : Taken). t.known) c.take-note.ensures.listed ∙ c.notes.invariant.inbox.1,
)
