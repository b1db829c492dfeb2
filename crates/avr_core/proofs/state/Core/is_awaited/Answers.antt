use Rattle.std.proofs.Common.{Bool, ◌||◌, ap, ◌∙◌}
use Rattle.avr_spec.specs.Kept.{Kept}
use Rattle.avr_io.specs.Pending.{is_any_pending}
use Rattle.avr_core.proofs.state.Core.is_awaited.Goals as goal

pub returns : goal.returns
returns c = λ part p h.
    ap (λ (b : Bool). b || c.is_held.result) (c.is_any_pending.ensures part p.io (c.io.ensures ∙ ap (λ (k : Kept). k.io) h)) ∙
    ap (λ (b : Bool). is_any_pending p.io || b) (c.is_held.ensures ∙ ap (λ (k : Kept). k.hold) h)
