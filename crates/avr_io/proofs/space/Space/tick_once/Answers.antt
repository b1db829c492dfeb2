use Rattle.std.proofs.Common.{sym, ap, ◌∙◌}
use Rattle.part_spec.specs.Chip.{chip_of}
use Rattle.avr_spec.specs.IoSpace.{IoState}
use Rattle.avr_spec.specs.Kept.{kept_io}
use Rattle.avr_spec.specs.Timers.{timer0, clocked, one_cycle}
use Rattle.avr_spec.proofs.TickLemmas.{tick-is}
use Rattle.avr_io.proofs.KeptLemmas.{kept_of, kept-cycle}
use Rattle.avr_io.proofs.space.Space.tick_once.Goals as goal

pub returns-clause-moves : goal.returns-clause-moves
returns-clause-moves c = λ part io h.
    let s = c.self.inside in
    let next = kept-cycle part (kept_of (chip_of s.part) s.bytes s.cycles s.ring.items s.total) io (c.self.view_is ∙ h) in
    c.clock-2.ensures.moves part (clocked timer0 (one_cycle io)) (c.clock.ensures.moves part (one_cycle io) next) ∙
    ap (λ (s : IoState). kept_io part s) (sym (tick-is io))
