use Rattle.std.proofs.Common.{◌≡◌, ℕ, ◌∙◌, subst}
use Rattle.ice_inbox.specs.Targets.{IsAsked}
use Rattle.ice_inbox.proofs.target_work.TargetWorkWork.run.Goals as goal

pub returns : goal.returns
returns g c =
    let ended = c.run_out-halt.ensures.ends in
    let look = c.run_out-halt.new.look in
    let number : look.number ≡ c.args.self.number = c.run_out-halt.ensures.mark.1 in (
      record {
        ends = ended.ends;
        loads = ended.looked;
        asked = subst (λ (n : ℕ). IsAsked n look.looker) number look.asked;
        forced = λ f. look.seen (ended.forced f) ∙ number;
        word = c.run_out-halt.ensures.mark.0;
      },
      c.send.ensures,
    )
