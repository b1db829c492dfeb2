-- A clean run is the same under the planted words and under the program.
use Rattle.std.proofs.Common.{◌≡◌, ℕ, zero, suc, ◌<◌, ◌≤◌, ◌||◌, ◌&&◌, cond, Bool, true, false, List, length, Option, Some, None, refl, sym}
use Rattle.std.proofs.Common.{◌∙◌, ap, ap₂, subst, arith, ◌⊎◌, inl, inr}
use Rattle.std.specs.Prelude.{◌↔◌, MatchOption}
use Rattle.std.proofs.lemmas.Bool.{and_parts, and_from}
use Rattle.part_spec.specs.Chip.{Chip, words_of}
use Rattle.avr_spec.specs.declared.target.Vector.{Vector}
use Rattle.avr_spec.specs.declared.target.Ahead.{Ahead}
use Rattle.avr_spec.specs.Machine.{Machine}
use Rattle.avr_spec.specs.Decode.{decode}
use Rattle.avr_spec.specs.Step.{word_at, due, step, go_on, seen, ahead}
use Rattle.avr_spec.proofs.StepLemmas.{ahead_sees_one_word}
use Rattle.debug_spec.specs.Patch.{has, without, patch}
use Rattle.debug_spec.specs.Stop.{Cause, breakpoint, undefined, failed_write, compared, word_stop, stop}
use Rattle.debug_spec.specs.Run.{Run, stepped, onward, run_after, after, stop_here, stop_after, End, is_undefined, early_end, IsCauseOf}
use Rattle.debug_spec.specs.Run.{IsTestedEnd, IsEnd, one_later, natural_end, end_within, run_of}
use Rattle.debug_spec.specs.Clean.{clean_step, planted_now, clean_for, clean_run}
use Rattle.debug_spec.specs.RunLaws.{StepsAlike, AllPlantable, RunsAlike, CleanRunsAlike, CleanEndsAlike}
use Rattle.debug_spec.proofs.Sets.{has-without, has-within, patch-kept}
use Rattle.debug_spec.proofs.StepAlike.{due_steps_alike, clean_steps_alike, stops_agree, stop_due, stop-is}
use Rattle.debug_spec.proofs.RunEnds.{end_at, tested_one, tested_more, tested_rest, early_or, forced_by, natural_by, natural_ends}

-- the run with the set of its stops planted
abbrev pub planted_run : List ℕ → Run → Run
planted_run prog r = record r { first = patch prog (planted_now r); later = patch prog r.stops }

-- the run is one of the program
abbrev pub IsOf : List ℕ → Run → Type 0
IsOf prog r = (r.first ≡ prog) × (r.later ≡ prog)

-- the next step does not begin at a planted word, or takes an interrupt
abbrev pub Goes : Chip → Run → Type 0
Goes part r = (has (planted_now r) r.start.pc ≡ false) ⊎ ((v : Vector) × (due part r.start ≡ Some v))

-- a fresh run goes, and so does one that nothing stops
goes_first : (part : Chip) (r : Run) → r.fresh ≡ true → Goes part r
goes_first part r e =
    inl (ap (λ (b : Bool). has (cond b (without r.start.pc r.stops) r.stops) r.start.pc) e ∙ has-without r.start.pc r.stops)

goes_on : (part : Chip) (p : Machine) (flash set : List ℕ) (comparators : List (Option ℕ)) → stop part p flash set comparators ≡ None →
    (has set p.pc ≡ false) ⊎ ((v : Vector) × (due part p ≡ Some v))
goes_on part p flash set comparators h = by_due (due part p) refl (sym (stop-is part p flash set comparators) ∙ h)
  where
    by_hit : (t : Bool) (o : Option Cause) → (cond (t || compared comparators p.pc) (Some breakpoint) o) ≡ None → t ≡ false
    by_hit false o e = refl
    by_hit true o e = cc

    by_due : (o : Option Vector) → due part p ≡ o → stop_due p flash set comparators o ≡ None → (has set p.pc ≡ false) ⊎
        ((v : Vector) × (due part p ≡ Some v))
    by_due (Some v) e h = inr (v, e)
    by_due None e h = inl (by_hit (has set p.pc) (word_stop (seen (decode (word_at flash p.pc) 0))) h)

module _ (part : Chip) (prog : List ℕ) (whole : length prog ≡ words_of part) where
  planted_now_plantable : (r : Run) → AllPlantable part prog r.stops → AllPlantable part prog (planted_now r)
  planted_now_plantable r plants = by_fresh r.fresh
    where
      by_fresh : (b : Bool) → AllPlantable part prog (cond b (without r.start.pc r.stops) r.stops)
      by_fresh true = λ a h. plants a (has-within r.start.pc a r.stops h)
      by_fresh false = plants

  step_alike : (r : Run) → IsOf prog r → AllPlantable part prog r.stops → Goes part r →
      clean_step part r.start r.first (planted_now r) ≡ true → stepped part (planted_run prog r) ≡ stepped part r
  step_alike r of plants goes clean =
      by_fresh r.fresh ∙ ap (λ (w : List ℕ). cond r.fresh (go_on part r.start w) (step part r.start w)) (sym of.0)
    where
      by_goes : Goes part r → StepsAlike part r.start (patch prog (planted_now r)) prog
      by_goes (inl here) = clean_steps_alike part r.start prog (planted_now r) whole (planted_now_plantable r plants) here
          (ap (λ (w : List ℕ). clean_step part r.start w (planted_now r)) (sym of.0) ∙ clean)
      by_goes (inr taken) = due_steps_alike part r.start (patch prog (planted_now r)) prog taken.0 taken.1

      by_fresh : (b : Bool) → cond b (go_on part r.start (patch prog (planted_now r))) (step part r.start (patch prog (planted_now r)))
          ≡ cond b (go_on part r.start prog) (step part r.start prog)
      by_fresh true = (by_goes goes).1
      by_fresh false = (by_goes goes).0

  onward_alike : (r : Run) → IsOf prog r → AllPlantable part prog r.stops → Goes part r →
      clean_step part r.start r.first (planted_now r) ≡ true → onward part (planted_run prog r) ≡ planted_run prog (onward part r)
  onward_alike r of plants goes clean =
      ap (λ (p : Machine). record {
        start = p;
        fresh = false;
        replants = false;
        first = patch prog r.stops;
        later = patch prog r.stops;
        stops = r.stops;
        comparators = r.comparators;
      })
      (step_alike r of plants goes clean)

  IsOf-onward : (r : Run) → IsOf prog r → IsOf prog (onward part r)
  IsOf-onward r of = (of.1, of.1)

  -- behind a step the same stops the run
  stop_alike : (r : Run) → IsOf prog r → stop_here part (planted_run prog (onward part r)) ≡ stop_here part (onward part r)
  stop_alike r of =
      stops_agree part (stepped part r) prog r.stops r.comparators ∙
      ap (λ (w : List ℕ). stop part (stepped part r) w r.stops r.comparators) (sym of.1)

  goes_onward : (r : Run) → stop_here part (onward part r) ≡ None → Goes part (onward part r)
  goes_onward r none = goes_on part (stepped part r) r.later r.stops r.comparators none

  -- the steps of an end, or so many
  abbrev extent : Option End → ℕ → ℕ
  extent o n = elim o [ Some e ↦ e.steps | None ↦ n ]

  extent-later : (o : Option End) (n : ℕ) → extent (one_later o) (suc n) ≡ suc (extent o n)
  extent-later (Some e) n = refl
  extent-later None n = refl

  natural_alike : (n : ℕ) (r : Run) → IsOf prog r → AllPlantable part prog r.stops → Goes part r →
      clean_for part r (extent (natural_end part r n) n) ≡ true → natural_end part (planted_run prog r) n ≡ natural_end part r n
  natural_alike zero r of plants goes clean = refl
  natural_alike (suc n) r of plants goes clean =
      by_stop (stop_here part (onward part r)) refl clean (natural_alike n (onward part r) (IsOf-onward r of) plants)
    where
      same : clean_step part r.start r.first (planted_now r) ≡ true → onward part (planted_run prog r) ≡ planted_run prog (onward part r)
      same first = onward_alike r of plants goes first

      by_stop : (o : Option Cause) → stop_here part (onward part r) ≡ o →
          clean_for part r (extent (natural_by part o (natural_end part (onward part r) n)) (suc n)) ≡ true →
          (Goes part (onward part r) → clean_for part (onward part r) (extent (natural_end part (onward part r) n) n) ≡ true →
          natural_end part (planted_run prog (onward part r)) n ≡ natural_end part (onward part r) n) →
          natural_end part (planted_run prog r) (suc n) ≡ natural_end part r (suc n)
      by_stop (Some cause) s clean ih =
          let first = (and_parts (clean_step part r.start r.first (planted_now r)) true clean).0 in
          ap (λ (q : Run). natural_by part (stop_here part q) (natural_end part q n)) (same first) ∙
          ap (λ (o : Option Cause). natural_by part o (natural_end part (planted_run prog (onward part r)) n)) (stop_alike r of ∙ s) ∙
          ap (λ (o : Option Cause). natural_by part o (natural_end part (onward part r) n)) (sym s)
      by_stop None s clean ih =
          let later : clean_for part r (suc (extent (natural_end part (onward part r) n) n)) ≡ true =
          ap (clean_for part r) (sym (extent-later (natural_end part (onward part r) n) n)) ∙ clean in
          let parts = and_parts (clean_step part r.start r.first (planted_now r))
          (clean_for part (onward part r) (extent (natural_end part (onward part r) n) n)) later in
          ap (λ (q : Run). natural_by part (stop_here part q) (natural_end part q n)) (same parts.0) ∙
          ap₂ (natural_by part) (stop_alike r of) (ih (goes_onward r s) parts.1)

  -- through the same states, up to a boundary with a stop
  run_alike : (k : ℕ) (r : Run) → IsOf prog r → AllPlantable part prog r.stops → (0 < k → Goes part r) →
      ((j : ℕ) → 0 < j → j < k → stop_after part r j ≡ None) → clean_for part r k ≡ true →
      run_after part (planted_run prog r) k ≡ planted_run prog (run_after part r k)
  run_alike zero r of plants goes none clean = refl
  run_alike (suc k) r of plants goes none clean =
      let parts = and_parts (clean_step part r.start r.first (planted_now r)) (clean_for part (onward part r) k) clean in
      ap (λ (q : Run). run_after part q k) (onward_alike r of plants (goes (omega arith)) parts.0) ∙
      run_alike k (onward part r) (IsOf-onward r of) plants (λ some. goes_onward r (none 1 (omega arith) (omega arith)))
      (λ j low high. none (suc j) (omega arith) (omega arith)) parts.1

  clean_less : (k n : ℕ) (r : Run) → k ≤ n → clean_for part r n ≡ true → clean_for part r k ≡ true
  clean_less zero n r h clean = refl
  clean_less (suc k) zero r h clean = absurd (omega arith)
  clean_less (suc k) (suc n) r h clean =
      let parts = and_parts (clean_step part r.start r.first (planted_now r)) (clean_for part (onward part r) n) clean in
      and_from (clean_step part r.start r.first (planted_now r)) (clean_for part (onward part r) k) parts.0
      (clean_less k n (onward part r) (omega arith) parts.1)

  -- tested ends, in both directions
  tested_alike : (steps : ℕ) (r : Run) (cause : Cause) → IsOf prog r → AllPlantable part prog r.stops → Goes part r →
      clean_for part r steps ≡ true →
      IsTestedEnd part (planted_run prog r) (end_at steps cause) ↔ IsTestedEnd part r (end_at steps cause)
  tested_alike zero r cause of plants goes clean = (λ t. absurd (omega (arith, t.some_step)), λ t. absurd (omega (arith, t.some_step)))
  tested_alike (suc zero) r cause of plants goes clean =
      let same = onward_alike r of plants goes (and_parts (clean_step part r.start r.first (planted_now r)) true clean).0 in
      let stop_same : stop_here part (onward part (planted_run prog r)) ≡ stop_here part (onward part r) =
      ap (stop_here part) same ∙ stop_alike r of in (
        λ t. tested_one part r cause (subst (λ (o : Option Cause). IsCauseOf o cause) stop_same t.here),
        λ t. tested_one part (planted_run prog r) cause (subst (λ (o : Option Cause). IsCauseOf o cause) (sym stop_same) t.here),
      )
  tested_alike (suc (suc steps)) r cause of plants goes clean =
      let parts = and_parts (clean_step part r.start r.first (planted_now r)) (clean_for part (onward part r) (suc steps)) clean in
      let same = onward_alike r of plants goes parts.0 in
      let stop_same : stop_here part (onward part (planted_run prog r)) ≡ stop_here part (onward part r) =
      ap (stop_here part) same ∙ stop_alike r of in
      let P : Run → Type 0 = λ q. IsTestedEnd part q (end_at (suc steps) cause) in
      let ih : stop_here part (onward part r) ≡ None →
      (IsTestedEnd part (planted_run prog (onward part r)) (end_at (suc steps) cause) ↔ IsTestedEnd part (onward part r)
      (end_at (suc steps) cause)) =
      λ none. tested_alike (suc steps) (onward part r) cause (IsOf-onward r of) plants (goes_onward r none) parts.1 in (
        λ t. let rest = tested_rest part (planted_run prog r) steps cause t in
            let none : stop_here part (onward part r) ≡ None = sym stop_same ∙ rest.0 in
            tested_more part r (suc steps) cause none ((ih none).0 (subst P same rest.1)),
        λ t. let rest = tested_rest part r steps cause t in
            tested_more part (planted_run prog r) (suc steps) cause (stop_same ∙ rest.0) (subst P (sym same) ((ih rest.0).1 rest.1)),
      )

  module _ (p : Machine) (set : List ℕ) (comparators : List (Option ℕ)) (write_failed : Bool) (plants : AllPlantable part prog set) where
    abbrev plain : Run
    plain = run_of false prog p set comparators

    abbrev patched : Run
    patched = run_of true prog p set comparators

    -- a run that starts at a word that does not run does so under both
    early_alike : early_end part patched write_failed ≡ early_end part plain write_failed
    early_alike =
        ap (λ (a : Ahead). cond (is_undefined a) (Some (end_at 0 undefined))
        (cond (has set p.pc && write_failed) (Some (end_at 1 failed_write)) None))
        (ahead_sees_one_word part p (patch prog (without p.pc set)) prog (patch-kept prog (without p.pc set) p.pc (has-without p.pc set)))

    plain_goes : Goes part plain
    plain_goes = goes_first part plain refl

    -- a clean run, told its early end
    abbrev steps_by : Option End → ℕ → ℕ
    steps_by o n = (forced_by (early_or o (natural_end part plain n)) n).steps

    steps-natural : (o : Option End) (n : ℕ) → (forced_by o n).steps ≡ extent o n
    steps-natural (Some e) n = refl
    steps-natural None n = refl

    early_steps : (early : End) → early_end part plain write_failed ≡ Some early → early.steps ≤ 1
    early_steps early h = by_tests (is_undefined (ahead part p prog)) (has set p.pc && write_failed) h
      where
        by_tests : (a b : Bool) → (cond a (Some (end_at 0 undefined)) (cond b (Some (end_at 1 failed_write)) None)) ≡ Some early →
            early.steps ≤ 1
        by_tests true b h = let same : end_at 0 undefined ≡ early = cc in subst (λ (e : End). e.steps ≤ 1) same (omega arith)
        by_tests false true h = let same : end_at 1 failed_write ≡ early = cc in subst (λ (e : End). e.steps ≤ 1) same (omega arith)
        by_tests false false h = cc

    ends_alike : (n : ℕ) (o : Option End) → early_end part plain write_failed ≡ o → clean_for part plain (steps_by o n) ≡ true →
        end_within part patched write_failed n ≡ end_within part plain write_failed n
    ends_alike n o early clean =
        ap (λ (o : Option End). early_or o (natural_end part patched n)) (early_alike ∙ early) ∙
        by_early o clean ∙
        ap (λ (o : Option End). early_or o (natural_end part plain n)) (sym early)
      where
        by_early : (o : Option End) → clean_for part plain (steps_by o n) ≡ true →
            early_or o (natural_end part patched n) ≡ early_or o (natural_end part plain n)
        by_early (Some early) clean = refl
        by_early None clean = natural_alike n plain (refl, refl) plants plain_goes
            (ap (clean_for part plain) (sym (steps-natural (natural_end part plain n) n)) ∙ clean)

    -- no stop stands before a boundary within a run's steps
    none_within : (n : ℕ) (o : Option End) → early_end part plain write_failed ≡ o → (k : ℕ) → k ≤ steps_by o n → (j : ℕ) → 0 < j → j < k →
        stop_after part plain j ≡ None
    none_within n (Some early) e k high j low below = absurd (omega (arith, early_steps early e))
    none_within n None e k high j low below = by_natural (natural_end part plain n) refl high
      where
        by_natural : (m : Option End) → natural_end part plain n ≡ m → k ≤ (forced_by m n).steps → stop_after part plain j ≡ None
        by_natural (Some e) h high = ((natural_ends part plain n).found e h).1.no_stop_before j low (omega arith)
        by_natural None h high = (natural_ends part plain n).none h j low (omega arith)

    states_alike : (n : ℕ) (o : Option End) → early_end part plain write_failed ≡ o → clean_for part plain (steps_by o n) ≡ true → (k : ℕ) →
        k ≤ steps_by o n →
        after part patched k ≡ after part plain k
    states_alike n o early clean k high =
        ap (λ (q : Run). q.start)
        (run_alike k plain (refl, refl) plants (λ some. plain_goes) (none_within n o early k high)
        (clean_less k (steps_by o n) plain high clean))

    runs_alike : (n : ℕ) → clean_run part plain write_failed n ≡ true → RunsAlike part prog p set comparators write_failed n
    runs_alike n clean = record {
      same_end = ends_alike n (early_end part plain write_failed) refl clean;
      same_states = states_alike n (early_end part plain write_failed) refl clean;
    }

    abbrev IsEndBy : Run → End → Option End → Type 0
    IsEndBy r e o = MatchOption o (IsTestedEnd part r e) (λ early. e ≡ early)

    is_end_alike : (e : End) → clean_for part plain e.steps ≡ true → IsEnd part patched write_failed e ↔ IsEnd part plain write_failed e
    is_end_alike e clean =
        let both = by_early (early_end part plain write_failed) in
        (λ t. both.0 (subst (IsEndBy patched e) early_alike t), λ t. subst (IsEndBy patched e) (sym early_alike) (both.1 t))
      where
        by_early : (o : Option End) → IsEndBy patched e o ↔ IsEndBy plain e o
        by_early (Some early) = (λ t. t, λ t. t)
        by_early None = tested_alike e.steps plain e.cause (refl, refl) plants plain_goes clean

    end_states_alike : (e : End) → clean_for part plain e.steps ≡ true → IsEnd part plain write_failed e →
        after part patched e.steps ≡ after part plain e.steps
    end_states_alike e clean t =
        ap (λ (q : Run). q.start)
        (run_alike e.steps plain (refl, refl) plants (λ some. plain_goes) (by_early (early_end part plain write_failed) refl t) clean)
      where
        by_early : (o : Option End) → early_end part plain write_failed ≡ o → IsEndBy plain e o → (j : ℕ) → 0 < j → j < e.steps →
            stop_after part plain j ≡ None
        by_early (Some early) h same j low high = absurd (omega (arith, early_steps early h, ap (λ (f : End). f.steps) same))
        by_early None h t j low high = t.no_stop_before j low high

pub clean_runs_alike : CleanRunsAlike
clean_runs_alike part prog p set comparators write_failed n whole plants clean =
    runs_alike part prog whole p set comparators write_failed plants n clean

pub clean_ends_alike : CleanEndsAlike
clean_ends_alike part prog p set comparators write_failed e whole plants clean = (
  is_end_alike part prog whole p set comparators write_failed plants e clean,
  end_states_alike part prog whole p set comparators write_failed plants e clean,
)
