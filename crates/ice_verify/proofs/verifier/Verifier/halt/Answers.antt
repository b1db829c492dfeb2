use Rattle.std.proofs.Common.{refl, sym, ◌∙◌}
use Rattle.ice_answer.specs.Values.{why_of}
use Rattle.ice_verify.proofs.Ready.{ready_core, ready_tool, idle_home}
use Rattle.ice_verify.proofs.Halted.{none_out, not_ended, halted_so}
use Rattle.ice_verify.proofs.verifier.Verifier.halt.Goals as goal

pub returns-then-not-is_out-clause-follows : goal.returns-then-not-is_out-clause-follows
returns-then-not-is_out-clause-follows c = none_out c.args.self.now _ _ (sym c.is_out.ensures ∙ c.if-not-is_out.true)

pub returns-then-not-runs_to-clause-follows : goal.returns-then-not-runs_to-clause-follows
returns-then-not-runs_to-clause-follows c = not_ended c.args.self.now _ _ (c.runs_to.ensures.not c.if-not-runs_to.true)

pub end_run-requires : goal.end_run-requires
end_run-requires c = record { empty = c.requires.sound.told c.requires.told }

pub returns-clause-follows : goal.returns-clause-follows
returns-clause-follows c =
    halted_so c.args.self.now c.runs_to.new.self c.end_run.new.self c.end_run.new.out.items _
    (record { steps = c.args.steps; cause = why_of c.args.cause }) c.requires.sound c.requires.told (sym c.is_out.ensures ∙ c.if-not-is_out.false)
    (c.runs_to.ensures.comes c.if-not-runs_to.false) c.runs_to.ensures.rest c.end_run.ensures.ends refl refl refl refl

pub returns-clause-sound : goal.returns-clause-sound
returns-clause-sound c = λ yes. record {
  ready = ready_tool c.runs_to.new.self c.end_run.new.self c.end_run.ensures.rest c.end_run.ensures.plan
      (λ m. absurd (idle_home _ c.end_run.ensures.idle m))
      (ready_core c.args.self.now.plain c.runs_to.new.self c.runs_to.ensures.rest c.runs_to.ensures.part c.requires.sound.ready);
  calm = c.end_run.ensures.calm;
  told = λ no. cc;
  steps = c.requires.sound.steps;
}
