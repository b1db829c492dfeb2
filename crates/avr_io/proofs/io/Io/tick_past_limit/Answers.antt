use Rattle.std.proofs.Common.{◌∙◌}
use Rattle.avr_io.proofs.QuietTicks.{later-none}
use Rattle.avr_io.proofs.io.Io.tick_past_limit.Goals as goal

pub returns-clause-moves : goal.returns-clause-moves
returns-clause-moves c = λ part io h.
    later-none c.tick.new.self c.quiet_cycles-self-inside.ensures.kept.shape ∙ c.tick.ensures.moves part io (c.pass.ensures ∙ c.self.view_is ∙ h)
