use Rattle.std.proofs.Common.{ap, ◌∙◌, ◌+◌, ◌%◌, ◌^◌}
use Rattle.avr_spec.specs.Timers.{ticks}
use Rattle.avr_spec.specs.Kept.{Kept}
use Rattle.avr_core.proofs.Standing.{kept_as, moved_io}
use Rattle.avr_core.proofs.state.Core.end.Goals as goal

pub returns : goal.returns
returns c = λ part p h.
    let s = c.self.inside in
    let core = kept_as s.part s.pc s.registers s.io s.sram s.steps s.hold in
    let is = c.self.view_is ∙ h in
    let moved = c.tick.ensures.moves part p.io (ap (λ (k : Kept). k.io) is) in
    ap (λ (k : Kept). record k { steps = (k.steps + 1) % 2 ^ 64 })
    (moved_io core c.tick.new.self part p (ticks c.args.cycles p.io) is moved)
