use Rattle.std.proofs.Common.{◌∙◌}
use Rattle.avr_spec.specs.Memory.{plus, with_sp}
use Rattle.avr_core.proofs.Stacking.{popping-is}
use Rattle.avr_core.proofs.state.Core.pop_pc.Goals as goal

pub returns : goal.returns
returns c = λ part p h.
    let top = c.sp-top.result in
    c.go_to.ensures part (with_sp (plus top 2) p) (c.set_sp.ensures part p h) ∙
    popping-is part p top c.data_at-low.result c.data_at-high.result c.from.result
    (c.from.ensures ∙ c.word.ensures) (c.data_at-low.ensures part p h) (c.data_at-high.ensures part p h) (c.sp-top.ensures part p h)
