use Rattle.std.proofs.Common.{ℕ, ◌<◌, List, [], ◌∷◌, ◌++◌, sym, ap, subst, ◌∙◌, arith}
use Rattle.std.proofs.lemmas.List.Elements.{All-nil, All-cons}
use Rattle.run_control.specs.Ends.{AreStops}
use Rattle.made_session.proofs.session.made_stops.Goals as goal

pub returns-clause-are : goal.returns-clause-are
returns-clause-are c =
    subst (λ (stops : List ℕ). AreStops stops) (sym (c.push.ensures.items ∙ ap (λ (stops : List ℕ). stops ++ 50 ∷ []) c.new-stops.ensures))
    (omega arith, All-cons (λ (steps : ℕ). 0 < steps) 50 [] (omega arith) (All-nil (λ (steps : ℕ). 0 < steps)))
