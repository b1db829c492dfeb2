use Rattle.std.proofs.Common.{sym, ap, ◌∙◌}
use Rattle.avr_spec.specs.Kept.{KeptIo}
use Rattle.avr_io.specs.Keeps.{io_of}
use Rattle.avr_io.specs.Pending.{is_any_pending}
use Rattle.avr_io.proofs.NonePending.{none_pending}
use Rattle.avr_io.proofs.Watching.{pending-later}
use Rattle.avr_io.proofs.io.Io.pending.Goals as goal

pub returns-else-self-clause-first : goal.returns-else-self-clause-first
returns-else-self-clause-first c = λ part io h.
    let s = c.self.inside in
    none_pending part io
    (ap (λ (k : KeptIo). is_any_pending (io_of k)) (sym (c.self.view_is ∙ h)) ∙ sym (pending-later s.passed s.space) ∙
    sym c.self.invariant.pending_is ∙ c.if-self.false)
