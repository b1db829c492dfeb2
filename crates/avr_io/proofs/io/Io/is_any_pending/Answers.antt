use Rattle.std.proofs.Common.{ap, ◌∙◌}
use Rattle.avr_spec.specs.Kept.{KeptIo}
use Rattle.avr_io.specs.Keeps.{io_of}
use Rattle.avr_io.specs.Pending.{is_any_pending}
use Rattle.avr_io.proofs.Watching.{pending-later}
use Rattle.avr_io.proofs.io.Io.is_any_pending.Goals as goal

pub returns : goal.returns
returns c = λ part io h.
    let s = c.self.inside in
    c.self.invariant.pending_is ∙ pending-later s.passed s.space ∙ ap (λ (k : KeptIo). is_any_pending (io_of k)) (c.self.view_is ∙ h)
