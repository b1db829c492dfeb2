-- The run under the device's words is the run that is out.
use Rattle.std.proofs.Common.{◌≡◌, ℕ, zero, suc, ◌<◌, ◌≤◌, ◌&&◌, not, cond, Bool, true, false, List, [], length, Option, Some, None, ltb}
use Rattle.std.proofs.Common.{refl, sym, ◌∙◌, ap, ap₂, subst, arith}
use Rattle.std.specs.Prelude.{MatchOption}
use Rattle.std.proofs.lemmas.Bool.{and_parts, ltb-true, true≢false}
use Rattle.part_spec.specs.Chip.{Chip, words_of}
use Rattle.avr_spec.specs.Decode.{two_word, is_skip}
use Rattle.avr_spec.specs.Step.{word_at, ahead, go_on}
use Rattle.debug_spec.specs.Patch.{has, patch, before}
use Rattle.debug_spec.specs.Stop.{Cause, undefined, failed_write, stop}
use Rattle.debug_spec.specs.Run.{Run, End, onward, run_after, after, stop_here, stop_after, is_undefined, early_end, IsCauseOf, IsTestedEnd}
use Rattle.debug_spec.specs.Run.{natural_end}
use Rattle.debug_spec.specs.RunLaws.{named_cause, named}
use Rattle.debug_spec.specs.Debugger.{Debugger, is_out, targets, run_out}
use Rattle.debug_spec.specs.Running.{replant, replant_failed}
use Rattle.debug_spec.specs.SessionLaws.{IsSound}
use Rattle.debug_spec.specs.DeviceRuns.{device_run, named_end, named_end_if, DeviceMakesRuns}
use Rattle.debug_spec.proofs.StepAlike.{planted_words_stop}
use Rattle.debug_spec.proofs.RunEnds.{end_at, early_or, natural_by}
use Rattle.debug_spec.proofs.Moving.{replant_by, runs_are_planted}

-- the run with no set in mind
abbrev unnamed : Run → Run
unnamed r = record r { stops = [] }

-- an end, named by the set of a run
abbrev name_end : Chip → Run → Option End → Option End
name_end part r o = elim o [ Some e ↦ Some (end_at e.steps (named_cause r.stops (after part r e.steps).pc e.cause)) | None ↦ None ]

module _ (part : Chip) (prog : List ℕ) where
  -- the addresses lie in the program
  abbrev Inside : Run → Type 0
  Inside r = (address : ℕ) → has r.stops address ≡ true → address < length prog

  unnamed-after : (k : ℕ) (r : Run) → run_after part (unnamed r) k ≡ unnamed (run_after part r k)
  unnamed-after zero r = refl
  unnamed-after (suc k) r = unnamed-after k (onward part r)

  same_states : (k : ℕ) (r : Run) → after part (unnamed r) k ≡ after part r k
  same_states k r = ap (λ (q : Run). q.start) (unnamed-after k r)

  -- at a boundary under the planted words
  named_stop : (k : ℕ) (r : Run) → Inside r → r.first ≡ patch prog r.stops → r.later ≡ patch prog r.stops →
      stop_after part r k ≡ named r.stops (after part r k).pc (stop_after part (unnamed r) k)
  named_stop zero r inside first later =
      ap (λ (w : List ℕ). stop part r.start w r.stops r.comparators) first ∙
      planted_words_stop part r.start prog r.stops r.comparators inside ∙
      ap (λ (w : List ℕ). named r.stops r.start.pc (stop part r.start w [] r.comparators)) (sym first)
  named_stop (suc k) r inside first later = named_stop k (onward part r) inside later later

  -- behind the first step a run is under the planted words
  named_stop_later : (k : ℕ) (r : Run) → 0 < k → Inside r → r.later ≡ patch prog r.stops →
      stop_after part r k ≡ named r.stops (after part r k).pc (stop_after part (unnamed r) k)
  named_stop_later zero r some inside later = absurd (omega arith)
  named_stop_later (suc k) r some inside later = named_stop k (onward part r) inside later later

  named_natural : (n : ℕ) (r : Run) → Inside r → r.later ≡ patch prog r.stops →
      natural_end part r n ≡ name_end part r (natural_end part (unnamed r) n)
  named_natural zero r inside later = refl
  named_natural (suc n) r inside later =
      ap₂ (natural_by part) (named_stop zero (onward part r) inside later later) (named_natural n (onward part r) inside later) ∙
      by_ends (stop_here part (unnamed (onward part r))) (natural_end part (unnamed (onward part r)) n)
    where
      by_ends : (o : Option Cause) (m : Option End) →
          natural_by part (named r.stops (onward part r).start.pc o) (name_end part (onward part r) m) ≡ name_end part r
          (natural_by part o m)
      by_ends (Some cause) m = refl
      by_ends None (Some e) = refl
      by_ends None None = refl

  named_tested : (r : Run) (e : End) → Inside r → r.later ≡ patch prog r.stops → IsTestedEnd part (unnamed r) e →
      IsTestedEnd part r (end_at e.steps (named_cause r.stops (after part r e.steps).pc e.cause))
  named_tested r e inside later t = record {
    some_step = t.some_step;
    no_stop_before = λ k low high. named_stop_later k r low inside later ∙
        ap (named r.stops (after part r k).pc) (t.no_stop_before k low high);
    here = subst (λ (o : Option Cause). IsCauseOf o (named_cause r.stops (after part r e.steps).pc e.cause))
        (sym (named_stop_later e.steps r t.some_step inside later))
        (by_stop (stop_after part (unnamed r) e.steps) t.here);
  }
    where
      by_stop : (o : Option Cause) → IsCauseOf o e.cause →
          IsCauseOf (named r.stops (after part r e.steps).pc o) (named_cause r.stops (after part r e.steps).pc e.cause)
      by_stop None h = ap (named_cause r.stops (after part r e.steps).pc) h
      by_stop (Some cause) h = ap (named_cause r.stops (after part r e.steps).pc) h

module _ (part : Chip) (s : Debugger) (sound : IsSound part s) (out : is_out s.mode ≡ true) where
  -- the addresses of the run lie in the program
  inside : (address : ℕ) → has (targets s) address ≡ true → address < length s.prog
  inside a h =
      let may = and_parts (ltb a (words_of part)) (not (two_word (word_at s.prog a) && is_skip (word_at s.prog (before part a))))
      (sound.plants a h) in
      omega (arith, ltb-true a (words_of part) may.0, sound.program)

  abbrev patched : Run
  patched = run_out true s

  -- where the replant did not fail, the device's words are the planted ones
  same_run : (replant s).ok ≡ true → device_run s ≡ unnamed patched
  same_run ok =
      let at = runs_are_planted part s sound out in
      ap₂ (λ (w v : List ℕ). record {
        start = s.machine;
        fresh = true;
        replants = has (targets s) s.machine.pc;
        first = w;
        later = v;
        stops = [];
        comparators = s.comparators;
      })
      at.first (at.later ok)

  -- an early end is the same, whatever the later words
  same_early : (f : Bool) → early_end part (device_run s) f ≡ early_end part patched f
  same_early f =
      ap (λ (w : List ℕ). cond (is_undefined (ahead part s.machine w)) (Some (end_at 0 undefined))
      (cond (has (targets s) s.machine.pc && f) (Some (end_at 1 failed_write)) None))
      (runs_are_planted part s sound out).first

  -- an early end needs no name and comes within the first step
  record IsEarly (e : End) : Type 0 where
    steps : e.steps ≤ 1
    name : (pc : ℕ) → named_cause (targets s) pc e.cause ≡ e.cause

  early_is : (f : Bool) (e : End) → early_end part patched f ≡ Some e → IsEarly e
  early_is f e h = by_tests (is_undefined (ahead part s.machine patched.first)) (has (targets s) s.machine.pc && f) h
    where
      by_tests : (a b : Bool) → cond a (Some (end_at 0 undefined)) (cond b (Some (end_at 1 failed_write)) None) ≡ Some e → IsEarly e
      by_tests true b h = let same : end_at 0 undefined ≡ e = cc in subst IsEarly same (record { steps = omega arith; name = λ pc. refl })
      by_tests false true h = let same : end_at 1 failed_write ≡ e =
          cc in subst IsEarly same (record { steps = omega arith; name = λ pc. refl })
      by_tests false false h = cc

  -- a replant that failed is an early end
  early_if_failed : (ok : Bool) → (replant s).ok ≡ ok → early_end part patched (not ok) ≡ None → (replant s).ok ≡ true
  early_if_failed true at none = at
  early_if_failed false at none = by_hit (has (targets s) s.machine.pc) refl at
    where
      by_tests : (a b : Bool) → b ≡ true →
          cond a (Some (end_at 0 undefined)) (cond (b && true) (Some (end_at 1 failed_write)) None) ≡ None → ⊥
      by_tests true b h e = cc
      by_tests false true h e = cc
      by_tests false false h e = absurd (true≢false (sym h))

      by_hit : (b : Bool) → has (targets s) s.machine.pc ≡ b → (replant_by b s).ok ≡ false → (replant s).ok ≡ true
      by_hit true h bad = absurd (by_tests (is_undefined (ahead part s.machine patched.first)) (has (targets s) s.machine.pc) h none)
      by_hit false h bad = absurd (true≢false bad)

  replant_made : early_end part patched (replant_failed s) ≡ None → (replant s).ok ≡ true
  replant_made none = early_if_failed (replant s).ok refl none

  -- the state behind at most one step
  first_state : (k : ℕ) → k ≤ 1 → after part (device_run s) k ≡ after part patched k
  first_state zero h = refl
  first_state (suc zero) h = ap (λ (w : List ℕ). go_on part s.machine w) (runs_are_planted part s sound out).first
  first_state (suc (suc k)) h = absurd (omega (arith, h))

  abbrev IsEndBy : Run → End → Option End → Type 0
  IsEndBy r e o = MatchOption o (IsTestedEnd part r e) (λ early. e ≡ early)

  ends : (e : End) (o : Option End) → early_end part patched (replant_failed s) ≡ o → IsEndBy (device_run s) e o →
      IsEndBy patched (named_end part s e) o
  ends e (Some early) at same =
      let early_e = subst IsEarly (sym same) (early_is (replant_failed s) early at) in
      ap (λ (c : Cause). end_at e.steps c) (early_e.name (after part patched e.steps).pc) ∙ same
  ends e None at tested =
      named_tested part s.prog patched e inside refl (subst (λ (r : Run). IsTestedEnd part r e) (same_run (replant_made at)) tested)

  states : (e : End) (o : Option End) → early_end part patched (replant_failed s) ≡ o → IsEndBy (device_run s) e o →
      after part (device_run s) e.steps ≡ after part patched e.steps
  states e (Some early) at same = first_state e.steps (subst IsEarly (sym same) (early_is (replant_failed s) early at)).steps
  states e None at tested = ap (λ (r : Run). after part r e.steps) (same_run (replant_made at)) ∙ same_states part s.prog e.steps patched

  within : (n : ℕ) (o : Option End) → early_end part patched (replant_failed s) ≡ o →
      early_or o (natural_end part patched n) ≡ named_end_if part s (early_or o (natural_end part (device_run s) n))
  within n (Some early) at =
      ap (λ (c : Cause). Some (end_at early.steps c))
      (sym ((early_is (replant_failed s) early at).name (after part patched early.steps).pc))
  within n None at =
      named_natural part s.prog n patched inside refl ∙ by_end (natural_end part (unnamed patched) n) ∙
      ap (λ (r : Run). named_end_if part s (natural_end part r n)) (sym (same_run (replant_made at)))
    where
      by_end : (o : Option End) → name_end part patched o ≡ named_end_if part s o
      by_end (Some e) = refl
      by_end None = refl

pub device_makes_runs : DeviceMakesRuns
device_makes_runs part s sound out = record {
  states = λ e h. states part s sound out e (early_end part (run_out true s) (replant_failed s)) refl
      (subst (λ (o : Option End). MatchOption o (IsTestedEnd part (device_run s) e) (λ early. e ≡ early))
      (same_early part s sound out (replant_failed s)) h);
  ends = λ e h. ends part s sound out e (early_end part (run_out true s) (replant_failed s)) refl
      (subst (λ (o : Option End). MatchOption o (IsTestedEnd part (device_run s) e) (λ early. e ≡ early))
      (same_early part s sound out (replant_failed s)) h);
  within = λ n. within part s sound out n (early_end part (run_out true s) (replant_failed s)) refl ∙
      ap (λ (o : Option End). named_end_if part s (early_or o (natural_end part (device_run s) n)))
      (sym (same_early part s sound out (replant_failed s)));
}
