use Rattle.std.proofs.Common.{refl, sym, ap, subst}
use Rattle.run_control.specs.Ends.{IsGiven, is_ended}
use Rattle.run_control.specs.declared.inline.Seat.{Seat}
use Rattle.run_control.proofs.inline.InlineRunner.collect.Goals as goal

pub returns-in-Ended-clause-forced : goal.returns-in-Ended-clause-forced
returns-in-Ended-clause-forced g c = λ forced.
    let is = c.in-Ended.ensures.value in
    absurd (c.requires.sound.1 (sym (ap is_ended is)) c.in-Ended.done
    (subst (λ (s : Seat g.row.F.Denot). IsGiven s c.in-Ended.done) is refl)
    forced)
