use Rattle.std.proofs.Common.{ap, ◌∙◌}
use Rattle.avr_spec.specs.IoSpace.{stored_byte}
use Rattle.avr_spec.specs.Kept.{KeptIo}
use Rattle.avr_io.specs.Keeps.{io_of}
use Rattle.avr_io.specs.Quiet.{with_byte}
use Rattle.avr_io.proofs.QuietTicks.{later-none}
use Rattle.avr_io.proofs.io.Io.put_to_watched.Goals as goal

pub returns : goal.returns
returns c =
    later-none c.put.new.self c.quiet_cycles-self-inside.ensures.kept.shape ∙ c.put.ensures.after ∙
    ap (λ (t : KeptIo). with_byte c.args.a (stored_byte c.args.a c.args.v (io_of t)) t) (c.pass.ensures ∙ c.self.view_is)
