use Rattle.std.proofs.Common.{List, ℕ, refl, sym, subst, ◌∙◌}
use Rattle.line_spec.specs.Messages.{IsNoResponse}
use Rattle.host_session.proofs.Answering.{is_unread}
use Rattle.host_session.proofs.reply.Reply.of.Goals as goal

pub returns-then-is_err : goal.returns-then-is_err
returns-then-is_err c =
    let P : List ℕ → Type 0 = λ body. IsNoResponse body in
    (refl, subst P c.as_slice.ensures.value (is_unread _ _ c.read_response.ensures (sym c.is_err.ensures.value ∙ c.if-is_err.true)))
