-- Runs that are made some steps at a time.
use Rattle.std.proofs.Common.{◌≡◌, ℕ, zero, suc, ◌+◌, ◌<◌, ◌≤◌, cond, Bool, true, false, List, Option, Some, None, refl, sym, ◌∙◌, ap}
use Rattle.std.proofs.Common.{subst, arith}
use Rattle.std.specs.Prelude.{MatchOption}
use Rattle.part_spec.specs.Chip.{Chip}
use Rattle.debug_spec.specs.Patch.{has}
use Rattle.debug_spec.specs.Stop.{Cause, breakpoint, forced, by_step, by_reset, own_break, undefined, failed_write}
use Rattle.debug_spec.specs.Run.{Run, onward, run_after, after, stop_here, stop_after, End, early_end, IsCauseOf, IsTestedEnd, one_later}
use Rattle.debug_spec.specs.RunLaws.{named_cause}
use Rattle.debug_spec.specs.Debugger.{targets, run_out}
use Rattle.debug_spec.specs.Running.{replant_failed}
use Rattle.debug_spec.specs.DeviceRuns.{device_run}
use Rattle.debug_spec.specs.Looks.{next_look, later_looks, looks_after, look_at, cause_at, looked_end, later_by, RunsAreAdvanced}
use Rattle.debug_spec.proofs.RunEnds.{end_at, early_or, stop_not_forced, tested_one, tested_more}
use Rattle.debug_spec.proofs.EndsNow.{early_not_forced}
use Rattle.debug_spec.proofs.DeviceRunLemmas.{device_makes_runs}

-- an end within some steps, by what stops the run at its next boundary, the look there, and its end from there on
abbrev cause_or : Option Cause → Option End → Option End
cause_or o later = elim o [ Some cause ↦ Some (record { steps = 1; cause = cause }) | None ↦ one_later later ]

abbrev looked_by : Option Cause → Bool → Option End → Option End
looked_by o look later = cause_or (cause_at o look) later

module _ (part : Chip) where
  abbrev IsLookedEnd : Run → List Bool → End → Type 0
  IsLookedEnd r looks e = IsTestedEnd part r e × (e.cause ≡ forced → look_at looks e.steps ≡ true)

  abbrev AreEnds : Run → List Bool → Option End → Type 0
  AreEnds r looks o = (e : End) → o ≡ Some e → IsLookedEnd r looks e

  -- the look at a later boundary
  look_later : (looks : List Bool) (steps : ℕ) → 0 < steps → look_at looks (suc steps) ≡ look_at (later_looks looks) steps
  look_later looks zero some = absurd (omega arith)
  look_later looks (suc steps) some = refl

  ends : (n : ℕ) (r : Run) (looks : List Bool) → AreEnds r looks (looked_end part r looks n)
  ends zero r looks e h = cc
  ends (suc n) r looks e h =
      by_stop (stop_here part (onward part r)) refl (next_look looks) refl (looked_end part (onward part r) (later_looks looks) n)
      (ends n (onward part r) (later_looks looks)) h
    where
      by_stop : (o : Option Cause) → stop_here part (onward part r) ≡ o → (look : Bool) → next_look looks ≡ look → (m : Option End) →
          AreEnds (onward part r) (later_looks looks) m → looked_by o look m ≡ Some e → IsLookedEnd r looks e
      by_stop (Some cause) s look seen m ih h =
          let same : end_at 1 cause ≡ e = cc in
          subst (IsLookedEnd r looks) same (
            tested_one part r cause (subst (λ (o : Option Cause). IsCauseOf o cause) (sym s) refl),
            λ c. absurd (stop_not_forced part (onward part r) cause s c),
          )
      by_stop None s true seen m ih h =
          let same : end_at 1 forced ≡ e = cc in
          subst (IsLookedEnd r looks) same (
            tested_one part r forced (subst (λ (o : Option Cause). IsCauseOf o forced) (sym s) refl),
            λ c. seen,
          )
      by_stop None s false seen None ih h = cc
      by_stop None s false seen (Some f) ih h =
          let same : end_at (suc f.steps) f.cause ≡ e = cc in
          let later = ih f refl in
          subst (IsLookedEnd r looks) same (
            tested_more part r f.steps f.cause s later.0,
            λ c. look_later looks f.steps later.0.some_step ∙ later.1 c,
          )

  abbrev AreNone : Run → List Bool → ℕ → Option End → Type 0
  AreNone r looks n o = o ≡ None → (k : ℕ) → 0 < k → k ≤ n → (stop_after part r k ≡ None) × (look_at looks k ≡ false)

  none : (n : ℕ) (r : Run) (looks : List Bool) → AreNone r looks n (looked_end part r looks n)
  none zero r looks h k low high = absurd (omega arith)
  none (suc n) r looks h k low high =
      by_stop (stop_here part (onward part r)) refl (next_look looks) refl (looked_end part (onward part r) (later_looks looks) n)
      (none n (onward part r) (later_looks looks)) h k low high
    where
      by_stop : (o : Option Cause) → stop_here part (onward part r) ≡ o → (look : Bool) → next_look looks ≡ look → (m : Option End) →
          AreNone (onward part r) (later_looks looks) n m → looked_by o look m ≡ None → (k : ℕ) → 0 < k → k ≤ suc n →
          (stop_after part r k ≡ None) × (look_at looks k ≡ false)
      by_stop (Some cause) s look seen m ih h k low high = cc
      by_stop None s true seen m ih h k low high = cc
      by_stop None s false seen (Some f) ih h k low high = cc
      by_stop None s false seen None ih h zero low high = absurd (omega arith)
      by_stop None s false seen None ih h (suc zero) low high = (s, seen)
      by_stop None s false seen None ih h (suc (suc k)) low high = ih refl (suc k) (omega arith) (omega arith)

  -- a run goes on from a boundary
  joined : (n m : ℕ) (r : Run) (looks : List Bool) → looked_end part r looks n ≡ None →
      looked_end part r looks (n + m) ≡ later_by n (looked_end part (run_after part r n) (looks_after looks n) m)
  joined zero m r looks h = let e : 0 + m ≡ m = omega arith in ap (looked_end part r looks) e
  joined (suc n) m r looks h =
      let e : suc n + m ≡ suc (n + m) = omega arith in
      ap (looked_end part r looks) e ∙
      by_stop (cause_at (stop_here part (onward part r)) (next_look looks)) (looked_end part (onward part r) (later_looks looks) n) h
      (joined n m (onward part r) (later_looks looks))
    where
      rest : Option End
      rest = looked_end part (run_after part r (suc n)) (looks_after looks (suc n)) m

      by_stop : (c : Option Cause) (o : Option End) → cause_or c o ≡ None →
          (o ≡ None → looked_end part (onward part r) (later_looks looks) (n + m) ≡ later_by n rest) →
          cause_or c (looked_end part (onward part r) (later_looks looks) (n + m)) ≡ one_later (later_by n rest)
      by_stop (Some cause) o h ih = cc
      by_stop None (Some f) h ih = cc
      by_stop None None h ih = ap one_later (ih refl)

  module _ (r : Run) (write_failed : Bool) (looks : List Bool) where
    abbrev IsEndBy : Option End → End → Type 0
    IsEndBy early e = MatchOption early (IsTestedEnd part r e) (λ early. e ≡ early)

    advance_ends : (n : ℕ) (o : Option End) → early_end part r write_failed ≡ o → (e : End) →
        early_or o (looked_end part r looks n) ≡ Some e →
        IsEndBy o e × (e.cause ≡ forced → look_at looks e.steps ≡ true)
    advance_ends n (Some early) at e h =
        let same : early ≡ e = cc in (sym same, λ c. absurd (early_not_forced part r write_failed e (at ∙ h) c))
    advance_ends n None at e h = ends n r looks e h

    advance_none : (n : ℕ) (o : Option End) → early_or o (looked_end part r looks n) ≡ None → looked_end part r looks n ≡ None
    advance_none n (Some early) h = cc
    advance_none n None h = h

    advance_joined : (n m : ℕ) (o : Option End) → early_or o (looked_end part r looks n) ≡ None →
        early_or o (looked_end part r looks (n + m)) ≡ later_by n (looked_end part (run_after part r n) (looks_after looks n) m)
    advance_joined n m (Some early) h = cc
    advance_joined n m None h = joined n m r looks h

-- no end is forced but where its look was true, also by its name
named_forced : (set : List ℕ) (pc : ℕ) (cause : Cause) → named_cause set pc cause ≡ forced → cause ≡ forced
named_forced set pc forced h = refl
named_forced set pc own_break h = by_hit (has set pc) h
  where
    by_hit : (b : Bool) → cond b breakpoint own_break ≡ forced → own_break ≡ forced
    by_hit true h = cc
    by_hit false h = h
named_forced set pc breakpoint h = cc
named_forced set pc by_step h = cc
named_forced set pc by_reset h = cc
named_forced set pc undefined h = cc
named_forced set pc failed_write h = cc

pub runs_are_advanced : RunsAreAdvanced
runs_are_advanced = record {
  advances = λ part r write_failed looks n. record {
    ends = λ e h. advance_ends part r write_failed looks n (early_end part r write_failed) refl e h;
    none = λ h k low high. none part n r looks (advance_none part r write_failed looks n (early_end part r write_failed) h) k low high;
    joined = λ m h. advance_joined part r write_failed looks n m (early_end part r write_failed) h;
  };
  by_device = λ part s looks n e sound out looked h.
      let found = advance_ends part (device_run s) (replant_failed s) looks n (early_end part (device_run s) (replant_failed s)) refl e h in
      record {
        out = out;
        is_end = (device_makes_runs part s sound out).ends e found.0;
        asked = λ c. looked e.steps (found.1 (named_forced (targets s) (after part (run_out true s) e.steps).pc e.cause c));
      };
}
