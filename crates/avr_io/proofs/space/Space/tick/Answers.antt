use Rattle.std.proofs.Common.{rules, ◌≡◌, ℕ, ap, ◌∙◌}
use Rattle.avr_spec.specs.IoSpace.{IoState}
use Rattle.avr_spec.specs.Timers.{ticks}
use Rattle.avr_spec.specs.Kept.{kept_io}
use Rattle.avr_io.proofs.TickSteps.{tick-after}
use Rattle.avr_io.proofs.space.Space.tick.Goals as goal

pub loop-done-preserved : goal.loop-done-preserved
loop-done-preserved c =
    let done = c.loop-done._done in (
      λ part io h. c.tick_once.ensures.moves part (ticks done io) (c.loop-done.invariant.0 part io h) ∙
          ap (λ (s : IoState). kept_io part s) (tick-after done io),
      c.tick_once.ensures.part ∙ c.loop-done.invariant.1,
    )

pub returns-clause-moves : goal.returns-clause-moves
returns-clause-moves c = λ part io h.
    let all : c.loop-done._done ≡ c.args.n = search rules in
    c.loop-done.invariant.0 part io h ∙ ap (λ (n : ℕ). kept_io part (ticks n io)) all
