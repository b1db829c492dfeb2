use Rattle.std.proofs.Common.{sym, ap, ◌∙◌}
use Rattle.debug_spec.specs.SessionLaws.{is_closed}
use Rattle.ice_answer.specs.Kept.{ToolState, prepared_number}
use Rattle.ice_verify.proofs.Ready.{ready_tool, over_calm, over_home, dropping_mode, dropping_plan}
use Rattle.ice_verify.proofs.Happened.{ended_already, ended_so}
use Rattle.ice_verify.proofs.verifier.Verifier.end_line.Goals as goal

pub returns-then-is_closed-clause-follows : goal.returns-then-is_closed-clause-follows
returns-then-is_closed-clause-follows c = ended_already c.args.self.now _ (sym c.is_closed.ensures ∙ c.if-is_closed.true)

pub leave-requires-clause-calm : goal.leave-requires-clause-calm
leave-requires-clause-calm c =
    ap (λ (k : ToolState). prepared_number k.mode) c.drop_held.ensures ∙ ap prepared_number (dropping_mode _ _ _) ∙ c.requires.sound.calm

pub leave-requires-clause-open : goal.leave-requires-clause-open
leave-requires-clause-open c =
    ap (λ (k : ToolState). is_closed k.mode) c.drop_held.ensures ∙ ap is_closed (dropping_mode _ _ _) ∙ sym c.is_closed.ensures ∙ c.if-is_closed.false

pub returns-clause-follows : goal.returns-clause-follows
returns-clause-follows c =
    ended_so c.args.self.now c.drop_held.new.self c.leave.new.self c.rest-held.result c.requires.sound c.requires.told
    (sym c.is_closed.ensures ∙ c.if-is_closed.false) c.rest-held.ensures.rest c.drop_held.ensures c.leave.ensures.does c.leave.ensures.away

pub returns-clause-sound : goal.returns-clause-sound
returns-clause-sound c = λ yes. record {
  ready = ready_tool c.args.self.now.plain c.leave.new.self c.leave.ensures.rest
      (c.leave.ensures.plan ∙ ap (λ (k : ToolState). k.plan) c.drop_held.ensures ∙ dropping_plan _ _ _)
      (λ m. absurd (over_home _ c.leave.ensures.away m)) c.requires.sound.ready;
  calm = over_calm _ c.leave.ensures.away;
  told = λ no. cc;
  steps = c.requires.sound.steps;
}
