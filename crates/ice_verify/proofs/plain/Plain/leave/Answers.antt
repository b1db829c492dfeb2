use Rattle.std.proofs.Common.{refl, sym, ap, ◌∙◌}
use Rattle.ice_answer.specs.Values.{mode_of}
use Rattle.ice_verify.proofs.Ending.{left_closed, left_leaving, left_already}
use Rattle.ice_verify.proofs.plain.Plain.leave.Goals as goal

pub returns-in-Stopped-clause-does : goal.returns-in-Stopped-clause-does
returns-in-Stopped-clause-does c = λ sent.
    left_closed _ c.args.self.now c.close.new.self sent (sym c.mode.ensures ∙ ap mode_of c.in-Stopped.is) refl c.close.ensures

pub returns-in-Running-clause-does : goal.returns-in-Running-clause-does
returns-in-Running-clause-does c = λ sent.
    left_leaving c.args.self.now _ sent (sym c.mode.ensures ∙ ap mode_of c.in-Running.is)
    (ap (λ k. record c.args.self.now { tool = k }) c.leave.ensures)

pub returns-in-Programming-clause-does : goal.returns-in-Programming-clause-does
returns-in-Programming-clause-does c = λ sent.
    left_closed _ c.args.self.now c.close-in-Programming.new.self sent (sym c.mode.ensures ∙ ap mode_of c.in-Programming.is) refl
    c.close-in-Programming.ensures

pub returns-in-Leaving-clause-does : goal.returns-in-Leaving-clause-does
returns-in-Leaving-clause-does c = λ sent. left_already c.args.self.now sent (sym c.mode.ensures ∙ ap mode_of c.in-Leaving.is)
