-- A run that goes on from boundary to boundary.
use Rattle.std.proofs.Common.{◌≡◌, ℕ, zero, suc, ◌<◌, inl, inr, Bool, true, false, not, List, Option, None, if◌then◌else◌, refl, sym, ap, ◌∙◌, subst, arith}
use Rattle.std.proofs.lemmas.Bool.{cases_lt}
use Rattle.part_spec.specs.Chip.{Chip}
use Rattle.avr_spec.specs.Machine.{Machine}
use Rattle.avr_spec.specs.Kept.{Kept, kept}
use Rattle.avr_spec.specs.Step.{step, go_on}
use Rattle.debug_spec.specs.Stop.{by_step, undefined, stop}
use Rattle.debug_spec.specs.Run.{Run, onward, run_after, after, stop_after}
use Rattle.debug_spec.specs.Debugger.{targets_by}
use Rattle.ice_verify.specs.Going.{IsUnderWay, RunsOn, SteppedBy, Stops, stop_in}
use Rattle.ice_verify.specs.declared.plain.Plain.{Plain}

module _ (part : Chip) (plain : Plain) where
  -- behind n boundaries the run is the same, but for where it starts
  pub record GoesOn (r : Run) (q : Run) : Type 0 where
    pub fresh : q.fresh ≡ false
    pub first : q.first ≡ plain.words.words
    pub later : q.later ≡ plain.words.words
    pub stops : q.stops ≡ targets_by plain.tool.run_to plain.tool.plan.soft
    pub comparators : q.comparators ≡ plain.comparators

  pub goes_on : (n : ℕ) (r : Run) → IsUnderWay part plain r → GoesOn r (run_after part r n)
  goes_on n r u = onwards n r (record { fresh = u.fresh; first = u.first; later = u.later; stops = u.stops; comparators = u.comparators })
    where
      onwards : (n : ℕ) (q : Run) → GoesOn r q → GoesOn r (run_after part q n)
      onwards zero q g = g
      onwards (suc n) q g = onwards n (onward part q)
          (record { fresh = refl; first = g.later; later = g.later; stops = g.stops; comparators = g.comparators })

  -- what stops it there
  pub stop_there : (n : ℕ) (r : Run) → IsUnderWay part plain r → stop_after part r n ≡ stop_in part (after part r n) plain
  stop_there n r u =
      let g = goes_on n r u in
      let p = after part r n in
      ap (λ (ws : List ℕ). stop part p ws (run_after part r n).stops (run_after part r n).comparators) g.first ∙
      ap (λ (xs : List ℕ). stop part p plain.words.words xs (run_after part r n).comparators) g.stops ∙
      ap (λ (cs : List (Option ℕ)). stop part p plain.words.words (targets_by plain.tool.run_to plain.tool.plan.soft) cs) g.comparators

  -- one step more
  after_next : (n : ℕ) (r : Run) → after part r (suc n) ≡ (onward part (run_after part r n)).start
  after_next zero r = refl
  after_next (suc n) r = after_next n (onward part r)

  stepped_by : (q : Run) (ws : List ℕ) → q.fresh ≡ false → q.first ≡ ws → (onward part q).start ≡ step part q.start ws
  stepped_by q ws f e = by_fresh q.fresh f ∙ ap (λ (w : List ℕ). step part q.start w) e
    where
      by_fresh : (b : Bool) → b ≡ false →
          (if b then go_on part q.start q.first else step part q.start q.first) ≡ step part q.start q.first
      by_fresh true h = cc
      by_fresh false h = refl

  pub after_more : (n : ℕ) (r : Run) → IsUnderWay part plain r → after part r (suc n) ≡ step part (after part r n) plain.words.words
  after_more n r u = let g = goes_on n r u in after_next n r ∙ stepped_by (run_after part r n) plain.words.words g.fresh g.first

-- with one boundary more that it passes
pub runs_more : (before middle after_ : Plain) (n next : ℕ) → next ≡ suc n → RunsOn before n middle →
    ((part : Chip) (p : Machine) → middle.core ≡ kept part p →
    (after_.core ≡ kept part (step part p before.words.words)) × (stop_in part p before ≡ None)) → RunsOn before next after_
runs_more before middle after_ n next count runs passes = λ part r u.
    let so_far = runs part r u in
    let here = passes part (after part r n) so_far.0 in
    subst (λ (k : ℕ). (after_.core ≡ kept part (after part r k)) × ((j : ℕ) → j < k → stop_after part r j ≡ None)) (sym count) (
      here.0 ∙ ap (λ (q : Machine). kept part q) (sym (after_more part before n r u)),
      λ j less. elim (cases_lt j n) [
        | inl earlier ↦ so_far.1 j earlier
        | inr last ↦ (let is : j ≡ n = omega (arith, less, last) in
            ap (λ (k : ℕ). stop_after part r k) is ∙ stop_there part before n r u ∙ here.1)
      ],
    )

-- at the next boundary it stops
pub stops_there : (before middle : Plain) (n all : ℕ) → n < all → RunsOn before n middle →
    ((part : Chip) (p : Machine) → middle.core ≡ kept part p → stop_in part p before ≡ None → ⊥) → Stops before all
stops_there before middle n all less runs stops = λ part r u.
    let so_far = runs part r u in
    (n, less, λ none. stops part (after part r n) so_far.0 (sym (stop_there part before n r u) ∙ none))

-- a single step
pub stepped_yes : (u : Bool) (part : Chip) (p : Machine) (ws : List ℕ) (core : Kept) → true ≡ not u → core ≡ kept part (go_on part p ws) →
    SteppedBy u part p ws by_step core
stepped_yes true part p ws core e h = cc
stepped_yes false part p ws core e h = (refl, h)

pub stepped_no : (u : Bool) (part : Chip) (p : Machine) (ws : List ℕ) (core : Kept) → false ≡ not u → core ≡ kept part p →
    SteppedBy u part p ws undefined core
stepped_no true part p ws core e h = (refl, h)
stepped_no false part p ws core e h = cc
