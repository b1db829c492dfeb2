use Rattle.std.proofs.Common.{List, ℕ, subst}
use Rattle.line_spec.specs.Messages.{IsNoResponse}
use Rattle.host_session.proofs.Answering.{unread_response}
use Rattle.host_session.proofs.reply.Reply.response.Goals as goal

pub unreachable-requires : goal.unreachable-requires
unreachable-requires c =
    let P : List ℕ → Type 0 = λ body. IsNoResponse body in
    subst P c.as_slice.ensures.value (unread_response _ c.in-Err.field-0 c.in-Err.ensures) c.self.invariant.0 c.self.invariant.1
