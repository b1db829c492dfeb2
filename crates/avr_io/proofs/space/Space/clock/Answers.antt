use Rattle.std.proofs.Common.{◌≡◌, Bool, true, false, cond, sym, ap, ◌∙◌}
use Rattle.avr_spec.specs.IoSpace.{IoState}
use Rattle.avr_spec.specs.Kept.{KeptIo, kept_io}
use Rattle.avr_spec.specs.Timers.{counted, clocked, counts_now}
use Rattle.avr_spec.proofs.TickLemmas.{clocked-is}
use Rattle.avr_io.specs.Keeps.{io_of}
use Rattle.avr_io.specs.TimerOf.{timer_of}
use Rattle.avr_io.proofs.space.Space.clock.Goals as goal

pub returns-then-counts_now-clause-moves : goal.returns-then-counts_now-clause-moves
returns-then-counts_now-clause-moves c = λ part io h.
    let timer = timer_of c.args.timer.now in
    let counts : counts_now timer io ≡ true =
    sym (ap (λ (k : KeptIo). counts_now timer (io_of k)) h) ∙ sym c.counts_now.ensures ∙ c.if-counts_now.true in
    let is : clocked timer io ≡ counted timer io =
    clocked-is timer io ∙ ap (λ (b : Bool). cond b (counted timer io) io) counts in
    c.count.ensures.moves part io h ∙ ap (λ (s : IoState). kept_io part s) (sym is)

pub returns-else-counts_now-clause-moves : goal.returns-else-counts_now-clause-moves
returns-else-counts_now-clause-moves c = λ part io h.
    let timer = timer_of c.args.timer.now in
    let counts : counts_now timer io ≡ false =
    sym (ap (λ (k : KeptIo). counts_now timer (io_of k)) h) ∙ sym c.counts_now.ensures ∙ c.if-counts_now.false in
    let is : clocked timer io ≡ io =
    clocked-is timer io ∙ ap (λ (b : Bool). cond b (counted timer io) io) counts in
    h ∙ ap (λ (s : IoState). kept_io part s) (sym is)
