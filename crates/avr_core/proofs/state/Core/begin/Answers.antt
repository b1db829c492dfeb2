use Rattle.std.proofs.Common.{◌≡◌, Bool, false, not, ◌&&◌, Option, None, is_some, sym, ap, ◌∙◌}
use Rattle.avr_spec.specs.declared.target.Vector.{Vector}
use Rattle.avr_spec.specs.Decode.{decode}
use Rattle.avr_spec.specs.Kept.{kept}
use Rattle.avr_spec.specs.Memory.{has_flag}
use Rattle.avr_spec.specs.Machine.{Machine}
use Rattle.avr_spec.specs.Step.{word_at, due, seen}
use Rattle.part_spec.specs.Chip.{Chip}
use Rattle.avr_io.specs.Pending.{is_any_pending}
use Rattle.avr_io.proofs.NonePending.{none_pending}
use Rattle.avr_core.specs.Begins.{held_by, begun_by}
use Rattle.avr_core.proofs.Beginning.{both_off, none_due, held_by-off}
use Rattle.avr_core.proofs.state.Core.begin.Given as given
use Rattle.avr_core.proofs.state.Core.begin.Goals as goal

module _ (g : given.Over) (c : goal.Else-is_awaited g) (part : Chip) (p : Machine) (h : c.args.self.now ≡ kept part p) where
  quiet : (is_any_pending p.io ≡ false) × (p.hold ≡ false)
  quiet = both_off (is_any_pending p.io) p.hold (sym (c.is_awaited.ensures part p h) ∙ c.if-is_awaited.false)

  none : None ≡ due part p
  none = none_due (has_flag p 7 && not p.hold) _ (none_pending part p.io quiet.0)

pub returns-else-is_awaited-clause-took : goal.returns-else-is_awaited-clause-took
returns-else-is_awaited-clause-took g c = λ part p h. ap (λ (d : Option Vector). is_some d) (none g c part p h)

pub returns-else-is_awaited-clause-moves : goal.returns-else-is_awaited-clause-moves
returns-else-is_awaited-clause-moves g c = λ part p h.
    let flash = g.F.Flash.words c.args.flash.now in
    let ahead = seen (decode (word_at flash p.pc) 0) in
    let free : p.hold ≡ false = (quiet g c part p h).1 in
    h ∙ ap (λ (b : Bool). kept part (record p { hold = b })) (free ∙ held_by-off ahead ∙ ap (λ (b : Bool). held_by b ahead) (sym free)) ∙
    ap (λ (d : Option Vector). kept part (begun_by part flash p d)) (none g c part p h)
