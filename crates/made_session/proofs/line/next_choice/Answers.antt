use Rattle.std.proofs.Common.{ℕ, ◌∷◌, sym, ap, ap₂, ◌∙◌}
use Rattle.line_spec.specs.Messages.{Command}
use Rattle.shell_spec.specs.Generator.{chosen}
use Rattle.made_session.specs.Coming.{coming}
use Rattle.made_session.proofs.Comings.{coming-more}
use Rattle.made_session.proofs.line.next_choice.Goals as goal

pub returns-clause-comes : goal.returns-clause-comes
returns-clause-comes c = λ left is.
    coming-more c.args.seed c.args.to_come left is c.if-to_come-eq1.false ∙
    ap₂ (λ (command : Command) (seed : ℕ). command ∷ coming seed left) (ap chosen (sym c.next_seed-seed.ensures) ∙ sym c.chosen.ensures.is)
    (sym c.next_seed-seed.ensures)
