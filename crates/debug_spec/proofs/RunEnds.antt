-- The first stop of a run is its natural end, and what a run is made to end by is an end.
use Rattle.std.proofs.Common.{◌≡◌, ◌≢◌, ℕ, zero, suc, ◌<◌, ◌≤◌, ◌||◌, cond, Bool, true, false, List, Option, Some, None, refl, sym, ◌∙◌, ap}
use Rattle.std.proofs.Common.{subst, arith, ◌+◌}
use Rattle.std.specs.Prelude.{MatchOption}
use Rattle.part_spec.specs.Chip.{Chip}
use Rattle.avr_spec.specs.declared.target.Ahead.{Ahead}
use Rattle.avr_spec.specs.declared.target.Ahead.TheVariants.{Interrupt, Ready, Break as BreakAhead, Undefined as UndefinedAhead}
use Rattle.avr_spec.specs.Step.{ahead}
use Rattle.debug_spec.specs.Patch.{has}
use Rattle.debug_spec.specs.Stop.{Cause, breakpoint, forced, by_step, by_reset, own_break, undefined, failed_write, compared, stop_by}
use Rattle.debug_spec.specs.Run.{Run, onward, run_after, stop_here, stop_after, End, early_end, IsCauseOf, IsTestedEnd, IsEnd, one_later}
use Rattle.debug_spec.specs.Run.{natural_end, end_by}
use Rattle.debug_spec.specs.RunLaws.{OneEnd, NaturalEnds, NaturalEndIsFirst, EndByIsEnd, RunsGoOn}

-- an end of so many steps for a cause
abbrev pub end_at : ℕ → Cause → End
end_at steps cause = record { steps = steps; cause = cause }

-- no stop is a forced one
is_forced : Cause → Bool
is_forced forced = true
is_forced breakpoint = false
is_forced by_step = false
is_forced by_reset = false
is_forced own_break = false
is_forced undefined = false
is_forced failed_write = false

stops_forced : Option Cause → Bool
stops_forced None = false
stops_forced (Some cause) = is_forced cause

never_forced : (pc : ℕ) (set : List ℕ) (comparators : List (Option ℕ)) (a : Ahead) → stops_forced (stop_by pc set comparators a) ≡ false
unfolding stops_forced is_forced
never_forced pc set comparators Interrupt = refl
never_forced pc set comparators Ready = by_hit (has set pc || compared comparators pc)
  where
    by_hit : (t : Bool) → stops_forced (cond t (Some breakpoint) None) ≡ false
    by_hit true = refl
    by_hit false = refl
never_forced pc set comparators BreakAhead = by_hit (has set pc || compared comparators pc)
  where
    by_hit : (t : Bool) → stops_forced (cond t (Some breakpoint) (Some own_break)) ≡ false
    by_hit true = refl
    by_hit false = refl
never_forced pc set comparators UndefinedAhead = by_hit (has set pc || compared comparators pc)
  where
    by_hit : (t : Bool) → stops_forced (cond t (Some breakpoint) (Some undefined)) ≡ false
    by_hit true = refl
    by_hit false = refl

pub stop_not_forced : (part : Chip) (r : Run) (cause : Cause) → stop_here part r ≡ Some cause → cause ≢ forced
unfolding stops_forced is_forced
stop_not_forced part r cause e f =
    let t : stops_forced (Some forced) ≡ stops_forced (stop_here part r) =
    ap (λ (c : Cause). stops_forced (Some c)) (sym f) ∙ ap stops_forced (sym e) in
    let h : stops_forced (Some forced) ≡ false = t ∙ never_forced r.start.pc r.stops r.comparators (ahead part r.start r.first) in
    cc

-- an early end, or the natural one; and the end that a run comes to or is forced to
abbrev pub early_or : Option End → Option End → Option End
early_or o natural = elim o [ Some early ↦ Some early | None ↦ natural ]

abbrev pub forced_by : Option End → ℕ → End
forced_by o n = elim o [ Some e ↦ e | None ↦ end_at n forced ]

module _ (part : Chip) where
  -- the ends of a run, by those of the run behind its next step
  pub tested_one : (r : Run) (cause : Cause) → IsCauseOf (stop_here part (onward part r)) cause → IsTestedEnd part r (end_at 1 cause)
  tested_one r cause h = record {
    some_step = omega arith;
    no_stop_before = λ k low high. absurd (omega arith);
    here = h;
  }

  pub tested_more : (r : Run) (steps : ℕ) (cause : Cause) → stop_here part (onward part r) ≡ None →
      IsTestedEnd part (onward part r) (end_at steps cause) → IsTestedEnd part r (end_at (suc steps) cause)
  tested_more r steps cause none later = record {
    some_step = omega arith;
    no_stop_before = before;
    here = later.here;
  }
    where
      before : (k : ℕ) → 0 < k → k < suc steps → stop_after part r k ≡ None
      before zero low high = absurd (omega arith)
      before (suc zero) low high = none
      before (suc (suc k)) low high = later.no_stop_before (suc k) (omega arith) (omega arith)

  pub tested_rest : (r : Run) (steps : ℕ) (cause : Cause) → IsTestedEnd part r (end_at (suc (suc steps)) cause) →
      (stop_here part (onward part r) ≡ None) × IsTestedEnd part (onward part r) (end_at (suc steps) cause)
  tested_rest r steps cause t = (
    t.no_stop_before 1 (omega arith) (omega arith),
    record {
      some_step = omega arith;
      no_stop_before = λ k low high. t.no_stop_before (suc k) (omega arith) (omega arith);
      here = t.here;
    },
  )

  -- a natural end, by what stops the run behind its next step and by its natural end from there on
  abbrev pub natural_by : Option Cause → Option End → Option End
  natural_by o later = elim o [ Some cause ↦ Some (record { steps = 1; cause = cause }) | None ↦ one_later later ]

  abbrev IsFound : Run → ℕ → Option End → Type 0
  IsFound r n o = (e : End) → o ≡ Some e → (e.steps ≤ n) × IsTestedEnd part r e × (e.cause ≢ forced)

  found : (n : ℕ) (r : Run) → IsFound r n (natural_end part r n)
  found zero r e h = cc
  found (suc n) r e h = by_stop (stop_here part (onward part r)) refl (natural_end part (onward part r) n) (found n (onward part r)) h
    where
      by_stop : (o : Option Cause) → stop_here part (onward part r) ≡ o → (m : Option End) → IsFound (onward part r) n m →
          natural_by o m ≡ Some e → (e.steps ≤ suc n) × IsTestedEnd part r e × (e.cause ≢ forced)
      by_stop (Some cause) s m ih h =
          let same : end_at 1 cause ≡ e = cc in
          let P : End → Type 0 = λ e. (e.steps ≤ suc n) × IsTestedEnd part r e × (e.cause ≢ forced) in
          subst P same (
            omega arith,
            tested_one r cause (subst (λ (o : Option Cause). IsCauseOf o cause) (sym s) refl),
            stop_not_forced part (onward part r) cause s,
          )
      by_stop None s None ih h = cc
      by_stop None s (Some f) ih h =
          let same : end_at (suc f.steps) f.cause ≡ e = cc in
          let P : End → Type 0 = λ e. (e.steps ≤ suc n) × IsTestedEnd part r e × (e.cause ≢ forced) in
          let later = ih f refl in
          subst P same (omega (arith, later.0), tested_more r f.steps f.cause s later.1, later.2)

  abbrev HasNone : Run → ℕ → Option End → Type 0
  HasNone r n o = o ≡ None → (k : ℕ) → 0 < k → k ≤ n → stop_after part r k ≡ None

  none : (n : ℕ) (r : Run) → HasNone r n (natural_end part r n)
  none zero r h k low high = absurd (omega arith)
  none (suc n) r h k low high =
      by_stop (stop_here part (onward part r)) refl (natural_end part (onward part r) n) (none n (onward part r)) h k low high
    where
      by_stop : (o : Option Cause) → stop_here part (onward part r) ≡ o → (m : Option End) → HasNone (onward part r) n m →
          natural_by o m ≡ None → (k : ℕ) → 0 < k → k ≤ suc n → stop_after part r k ≡ None
      by_stop (Some cause) s m ih h k low high = cc
      by_stop None s (Some f) ih h k low high = cc
      by_stop None s None ih h zero low high = absurd (omega arith)
      by_stop None s None ih h (suc zero) low high = s
      by_stop None s None ih h (suc (suc k)) low high = ih refl (suc k) (omega arith) (omega arith)

  each : (n : ℕ) (r : Run) (steps : ℕ) (cause : Cause) → IsTestedEnd part r (end_at steps cause) → cause ≢ forced → steps ≤ n →
      natural_end part r n ≡ Some (end_at steps cause)
  each zero r steps cause t apart high = absurd (omega (arith, t.some_step))
  each (suc n) r zero cause t apart high = absurd (omega (arith, t.some_step))
  each (suc n) r (suc zero) cause t apart high = by_stop (stop_here part (onward part r)) t.here
    where
      by_stop : (o : Option Cause) → IsCauseOf o cause → natural_by o (natural_end part (onward part r) n) ≡ Some (end_at 1 cause)
      by_stop None h = absurd (apart h)
      by_stop (Some stopped) h = ap (λ (c : Cause). Some (end_at 1 c)) (sym h)
  each (suc n) r (suc (suc steps)) cause t apart high =
      let rest = tested_rest r steps cause t in
      ap (λ (o : Option Cause). natural_by o (natural_end part (onward part r) n)) rest.0 ∙
      ap one_later (each n (onward part r) (suc steps) cause rest.1 apart (omega arith))

  pub natural_ends : (r : Run) (n : ℕ) → NaturalEnds part r n
  natural_ends r n = record {
    found = found n r;
    none = none n r;
    each = λ e t apart high. each n r e.steps e.cause t apart high;
  }

  pub end_by_is_end : (r : Run) (write_failed : Bool) (n : ℕ) → 0 < n → IsEnd part r write_failed (end_by part r write_failed n)
  end_by_is_end r write_failed n some = by_early (early_end part r write_failed)
    where
      by_natural : (m : Option End) → natural_end part r n ≡ m → IsTestedEnd part r (forced_by m n)
      by_natural (Some e) h = ((natural_ends r n).found e h).1
      by_natural None h = record {
        some_step = some;
        no_stop_before = λ k low high. (natural_ends r n).none h k low (omega arith);
        here = subst (λ (o : Option Cause). IsCauseOf o forced) (sym ((natural_ends r n).none h n some (omega arith))) refl;
      }

      by_early : (o : Option End) → MatchOption o (IsTestedEnd part r (forced_by (early_or o (natural_end part r n)) n))
          (λ early. forced_by (early_or o (natural_end part r n)) n ≡ early)
      by_early (Some early) = refl
      by_early None = by_natural (natural_end part r n) refl

pub natural_end_is_first : NaturalEndIsFirst
natural_end_is_first part r n = natural_ends part r n

pub end_by_is_an_end : EndByIsEnd
end_by_is_an_end part r write_failed n some = end_by_is_end part r write_failed n some

-- a run that is under way has no early end
no_early : (part : Chip) (k : ℕ) (r : Run) (f : Bool) → 0 < k → early_end part (run_after part r k) f ≡ None
no_early part zero r f some = absurd (omega arith)
no_early part (suc zero) r f some = refl
no_early part (suc (suc k)) r f some = no_early part (suc k) (onward part r) f (omega arith)

later_end : (part : Chip) (k : ℕ) (r : Run) (steps : ℕ) (cause : Cause) → ((j : ℕ) → 0 < j → j ≤ k → stop_after part r j ≡ None) →
    IsTestedEnd part (run_after part r k) (end_at steps cause) → IsTestedEnd part r (end_at (k + steps) cause)
later_end part zero r steps cause none t =
    let e : steps ≡ 0 + steps = omega arith in subst (λ (n : ℕ). IsTestedEnd part r (end_at n cause)) e t
later_end part (suc k) r steps cause none t =
    let e : suc (k + steps) ≡ suc k + steps = omega arith in
    subst (λ (n : ℕ). IsTestedEnd part r (end_at n cause)) e
    (tested_more part r (k + steps) cause (none 1 (omega arith) (omega arith))
    (later_end part k (onward part r) steps cause (λ j low high. none (suc j) (omega arith) (omega arith)) t))

abbrev IsEndBy : Chip → Run → End → Option End → Type 0
IsEndBy part r e o = MatchOption o (IsTestedEnd part r e) (λ early. e ≡ early)

pub runs_go_on : RunsGoOn
runs_go_on part r write_failed later_failed k e early none some h =
    subst (IsEndBy part r (end_at (k + e.steps) e.cause)) (sym early)
    (later_end part k r e.steps e.cause none (subst (IsEndBy part (run_after part r k) e) (no_early part k r later_failed some) h))

pub one_end : OneEnd
one_end part r write_failed e f h k apart other = by_early (early_end part r write_failed) h k
  where
    both : IsTestedEnd part r e → IsTestedEnd part r f → e ≡ f
    both s t =
        let x : natural_end part r (e.steps + f.steps) ≡ Some e = (natural_ends part r (e.steps + f.steps)).each e s apart (omega arith) in
        let y : natural_end part r (e.steps + f.steps) ≡ Some f = (natural_ends part r (e.steps + f.steps)).each f t other (omega arith) in
        cc

    by_early : (o : Option End) → MatchOption o (IsTestedEnd part r e) (λ early. e ≡ early) →
        MatchOption o (IsTestedEnd part r f) (λ early. f ≡ early) → e ≡ f
    by_early (Some early) s t = s ∙ sym t
    by_early None s t = both s t
