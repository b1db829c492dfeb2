-- A parameter that is written, or refused.
use Rattle.std.proofs.Common.{◌≡◌, ℕ, List, Option, Result, Ok, Err, refl, sym, ap, ◌∙◌}
use Rattle.avr_spec.specs.Kept.{Kept}
use Rattle.line_spec.specs.declared.refusal.Refusal.{Refusal}
use Rattle.line_spec.specs.Messages.{okay, refused, response_body}
use Rattle.line_spec.specs.Parameters.{Parameter, parameter_written}
use Rattle.debug_spec.specs.Debugger.{Debugger, replied}
use Rattle.debug_spec.specs.Commands.{parameter_set}
use Rattle.ice_answer.specs.Kept.{ToolState}
use Rattle.ice_answer.specs.Does.{at, Does, Sends}
use Rattle.ice_answer.proofs.Doing.{changed_then_sent, in_words}

module _ (tool : ToolState) (core : Kept) (comparators : List (Option ℕ)) (number id : ℕ) (value out more : List ℕ) (after : List Parameter) where
  pub parameter_done : parameter_written tool.parameters id value ≡ Ok after → Sends number (response_body okay) out more →
      Does (λ part s. parameter_set number (parameter_written s.parameters id value) s) (at tool core comparators out)
      (at (record tool { parameters = after }) core comparators more)
  parameter_done was sends = λ part before s e.
      let t : Debugger = record s { parameters = after } in
      in_words part before (at (record tool { parameters = after }) core comparators more) s (replied number okay t)
      (parameter_set number (parameter_written s.parameters id value) s)
      (ap (λ (r : Result (List Parameter) Refusal). parameter_set number r s)
      (sym was ∙ ap (λ (k : ToolState). parameter_written k.parameters id value) e.tool))
      (changed_then_sent number (response_body okay) out more (record tool { parameters = after }) core comparators sends part before s t
      (record {
        tool = ap (λ (k : ToolState). record k { parameters = after }) e.tool;
        core = e.core;
        comparators = e.comparators;
        sent = e.sent;
      }) (record { device = refl; launches = refl }))

  pub parameter_not_done : (refusal : Refusal) → parameter_written tool.parameters id value ≡ Err refusal → after ≡ tool.parameters →
      Sends number (response_body (refused refusal)) out more →
      Does (λ part s. parameter_set number (parameter_written s.parameters id value) s) (at tool core comparators out)
      (at (record tool { parameters = after }) core comparators more)
  parameter_not_done refusal was same sends = λ part before s e.
      in_words part before (at (record tool { parameters = after }) core comparators more) s (replied number (refused refusal) s)
      (parameter_set number (parameter_written s.parameters id value) s)
      (ap (λ (r : Result (List Parameter) Refusal). parameter_set number r s)
      (sym was ∙ ap (λ (k : ToolState). parameter_written k.parameters id value) e.tool))
      (changed_then_sent number (response_body (refused refusal)) out more (record tool { parameters = after }) core comparators sends part
      before s s
      (record {
        tool = ap (λ (p : List Parameter). record tool { parameters = p }) same ∙ e.tool;
        core = e.core;
        comparators = e.comparators;
        sent = e.sent;
      }) (record { device = refl; launches = refl }))
