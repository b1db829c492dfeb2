use Rattle.std.proofs.Common.{◌≡◌, ℕ, false, sym, ap, ◌∙◌}
use Rattle.avr_spec.specs.IoSpace.{stored_byte}
use Rattle.avr_spec.specs.Kept.{KeptIo}
use Rattle.avr_io.specs.Keeps.{io_of}
use Rattle.avr_io.specs.TimerOf.{is_timer}
use Rattle.avr_io.specs.Quiet.{later, with_byte}
use Rattle.avr_io.proofs.Later.{later-put, stored-later}
use Rattle.avr_io.proofs.Watching.{unwatched, watched-put}
use Rattle.avr_io.proofs.io.Io.put.Goals as goal

pub returns-else-is_watched : goal.returns-else-is_watched
returns-else-is_watched c =
    let s = c.self.inside in
    let k = s.space in
    let a = c.args.a in
    let v = c.args.v in
    let off : is_timer a ≡ false = unwatched a (sym c.is_watched.ensures ∙ c.if-is_watched.false) in
    ap (λ (t : KeptIo). later s.passed t) c.put.ensures.after ∙
    later-put s.passed a (stored_byte a v (io_of k)) k off ∙
    ap (λ (b : ℕ). with_byte a b (later s.passed k)) (stored-later s.passed a v k off) ∙
    ap (λ (t : KeptIo). with_byte a (stored_byte a v (io_of t)) t) c.self.view_is

pub invariant_of-self : goal.invariant_of-self
invariant_of-self c =
    let s = c.self.inside in
    watched-put s.space c.put.new.self s.passed s.limit c.args.a (stored_byte c.args.a c.args.v (io_of s.space)) s.pending c.put.ensures.after
    (sym c.is_watched.ensures ∙ c.if-is_watched.false) c.put.ensures.kept c.self.invariant
