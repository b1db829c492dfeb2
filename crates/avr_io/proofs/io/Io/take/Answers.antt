use Rattle.std.proofs.Common.{ℕ, false, refl, ap, ◌∙◌}
use Rattle.avr_spec.specs.Bytes.{with_bit}
use Rattle.avr_spec.specs.IoSpace.{kept_byte, tifr}
use Rattle.avr_spec.specs.Interrupts.{flag_of}
use Rattle.avr_spec.specs.Kept.{KeptIo}
use Rattle.avr_io.specs.Keeps.{io_of}
use Rattle.avr_io.specs.Quiet.{later, with_byte}
use Rattle.avr_io.proofs.Later.{ahead-put, later-put, later-reads}
use Rattle.avr_io.proofs.io.Io.take.Goals as goal

pub invariant_of-self : goal.invariant_of-self
invariant_of-self c =
    let s = c.self.inside in
    let cleared = with_bit (kept_byte (io_of s.space) tifr) (flag_of c.args.v) false in record {
      ahead = ahead-put s.space c.take.new.self s.passed s.limit tifr cleared c.take.ensures.after refl c.take.ensures.kept c.self.invariant.ahead;
      pending_is = c.is_any_pending-self-inside.ensures;
    }

pub returns-clause-moves : goal.returns-clause-moves
returns-clause-moves c = λ part io h.
    let s = c.self.inside in
    let k = s.space in
    let flag = flag_of c.args.v in
    ap (λ (t : KeptIo). later s.passed t) c.take.ensures.after ∙
    later-put s.passed tifr (with_bit (kept_byte (io_of k) tifr) flag false) k refl ∙
    ap (λ (b : ℕ). with_byte tifr (with_bit b flag false) (later s.passed k)) (later-reads s.passed tifr k refl) ∙
    ap (λ (t : KeptIo). with_byte tifr (with_bit (kept_byte (io_of t) tifr) flag false) t) (c.self.view_is ∙ h)
