-- A request is answered: by what the mode allows.
use Rattle.std.proofs.Common.{◌≡◌, Bool, true, false, ℕ, List, Option, Result, Ok, sym, ap, ◌∙◌}
use Rattle.part_spec.specs.declared.part.Part.{Part}
use Rattle.part_spec.specs.Chip.{chip_of}
use Rattle.avr_spec.specs.Kept.{Kept}
use Rattle.line_spec.specs.declared.refusal.Refusal.TheVariants.{IllegalMcuState}
use Rattle.line_spec.specs.Messages.{refused, response_body}
use Rattle.debug_spec.specs.Debugger.{Debugger, replied}
use Rattle.debug_spec.specs.Commands.{allowed, answered, carried_out}
use Rattle.ice_msg.specs.Reading.{asked}
use Rattle.ice_msg.specs.declared.command.Command.{Command}
use Rattle.ice_msg.specs.declared.bad.Bad.{Bad}
use Rattle.ice_answer.specs.Values.{request_of}
use Rattle.ice_answer.specs.Kept.{ToolState}
use Rattle.ice_answer.specs.Does.{At, at, IsAt, Does, Sends}
use Rattle.ice_answer.proofs.Doing.{does-send, same_does, yes_elim, no_elim}

module _ (planted : Bool) (given : Result Command Bad) (number : ℕ) where
  -- told what the request is
  pub requested : (wanted : Result Command Bad) (a b : At) → given ≡ wanted → Does (λ part. answered planted part number (request_of wanted)) a b →
      Does (λ part. answered planted part number (request_of given)) a b
  requested wanted a b is does =
      same_does (λ part. answered planted part number (request_of wanted)) (λ part. answered planted part number (request_of given)) a b
      (λ part before s e. ap (λ (r : Result Command Bad). answered planted (chip_of part) number (request_of r) s) (sym is)) does

  module _ (command : Command) (is : given ≡ Ok command) (tool : ToolState) (core : Kept) (comparators : List (Option ℕ)) (out : List ℕ) where
    -- a command that the mode does not allow
    pub not_allowed : (more : List ℕ) → allowed tool.mode (asked command) ≡ false → Sends number (response_body (refused IllegalMcuState)) out more →
        Does (λ part. answered planted part number (request_of given)) (at tool core comparators out) (at tool core comparators more)
    not_allowed more none sends = requested (Ok command) (at tool core comparators out) (at tool core comparators more) is
        (same_does (λ part. replied number (refused IllegalMcuState)) (λ part. answered planted part number (request_of (Ok command)))
        (at tool core comparators out) (at tool core comparators more)
        (λ part before s e. no_elim (allowed s.mode (asked command)) (carried_out planted (chip_of part) number (asked command) s)
        (replied number (refused IllegalMcuState) s) (ap (λ (k : ToolState). allowed k.mode (asked command)) (sym e.tool) ∙ none))
        (does-send number (response_body (refused IllegalMcuState)) out more tool core comparators sends))

    pub as_allowed : allowed tool.mode (asked command) ≡ true → (part : Part) (before : List ℕ) (s : Debugger) →
        IsAt part before (at tool core comparators out) s →
        carried_out planted (chip_of part) number (asked command) s ≡ answered planted (chip_of part) number (request_of given) s
    as_allowed some part before s e =
        yes_elim (allowed s.mode (asked command)) (carried_out planted (chip_of part) number (asked command) s)
        (replied number (refused IllegalMcuState) s) (ap (λ (k : ToolState). allowed k.mode (asked command)) (sym e.tool) ∙ some) ∙
        ap (λ (r : Result Command Bad). answered planted (chip_of part) number (request_of r) s) (sym is)

    -- one that it allows
    pub allowed_here : (b : At) → allowed tool.mode (asked command) ≡ true →
        Does (λ part. carried_out planted part number (asked command)) (at tool core comparators out) b →
        Does (λ part. answered planted part number (request_of given)) (at tool core comparators out) b
    allowed_here b some does =
        same_does (λ part. carried_out planted part number (asked command)) (λ part. answered planted part number (request_of given))
        (at tool core comparators out) b (as_allowed some) does
