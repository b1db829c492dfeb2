-- The ends of runs in a replay are ends that runs may have.
use Rattle.std.proofs.Common.{◌≡◌, ◌≢◌, ℕ, ◌&&◌, cond, Bool, true, false, Option, Some, None, refl, ◌∙◌, ap, subst}
use Rattle.part_spec.specs.Chip.{Chip}
use Rattle.avr_spec.specs.Step.{ahead}
use Rattle.debug_spec.specs.Stop.{forced, undefined, failed_write}
use Rattle.debug_spec.specs.Run.{Run, End, is_undefined, early_end, IsEnd, natural_end, end_within}
use Rattle.debug_spec.specs.Debugger.{run_out}
use Rattle.debug_spec.specs.Running.{replant_failed, MayEnd}
use Rattle.debug_spec.specs.SessionLaws.{EndsNowMayCome}
use Rattle.debug_spec.proofs.RunEnds.{end_at, early_or, forced_by, natural_ends, end_by_is_end}
use Rattle.debug_spec.proofs.Sessions.{end_by_ask}

-- the causes of early ends are no forced ones
not_forced_undefined : undefined ≡ forced → ⊥
not_forced_undefined e = cc

not_forced_write : failed_write ≡ forced → ⊥
not_forced_write e = cc

-- no run is forced to end by itself
pub early_not_forced : (part : Chip) (r : Run) (f : Bool) (e : End) → early_end part r f ≡ Some e → e.cause ≢ forced
early_not_forced part r f e h g = by_tests (r.fresh && is_undefined (ahead part r.start r.first)) (r.replants && f) h
  where
    by_tests : (a b : Bool) → cond a (Some (end_at 0 undefined)) (cond b (Some (end_at 1 failed_write)) None) ≡ Some e → ⊥
    by_tests true b h = let same : end_at 0 undefined ≡ e = cc in not_forced_undefined (ap (λ (x : End). x.cause) same ∙ g)
    by_tests false true h = let same : end_at 1 failed_write ≡ e = cc in not_forced_write (ap (λ (x : End). x.cause) same ∙ g)
    by_tests false false h = cc

within_not_forced : (part : Chip) (r : Run) (f : Bool) (n : ℕ) (e : End) → end_within part r f n ≡ Some e → e.cause ≢ forced
within_not_forced part r f n e h = by_early (early_end part r f) refl h
  where
    by_early : (o : Option End) → early_end part r f ≡ o → early_or o (natural_end part r n) ≡ Some e → e.cause ≢ forced
    by_early (Some early) at h = early_not_forced part r f e (at ∙ h)
    by_early None at h = ((natural_ends part r n).found e h).2

pub ends_now_may_come : EndsNowMayCome
ends_now_may_come planted part steps s e some out h =
    by_end (end_within part (run_out planted s) (replant_failed s) steps) refl s.stop_asked refl h
  where
    is_end : (o : Option End) → end_within part (run_out planted s) (replant_failed s) steps ≡ o →
        IsEnd part (run_out planted s) (replant_failed s) (forced_by o steps)
    is_end o at = subst (λ (x : Option End). IsEnd part (run_out planted s) (replant_failed s) (forced_by x steps)) at
        (end_by_is_end part (run_out planted s) (replant_failed s) steps some)

    by_end : (o : Option End) → end_within part (run_out planted s) (replant_failed s) steps ≡ o → (asked : Bool) → s.stop_asked ≡ asked →
        end_by_ask o asked steps ≡ Some e → MayEnd planted part s e
    by_end (Some f) at asked asked_is h =
        let same : f ≡ e = cc in
        subst (MayEnd planted part s) same (record {
          out = out;
          is_end = is_end (Some f) at;
          asked = λ g. absurd (within_not_forced part (run_out planted s) (replant_failed s) steps f at g);
        })
    by_end None at true asked_is h =
        let same : end_at steps forced ≡ e = cc in
        subst (MayEnd planted part s) same (record { out = out; is_end = is_end None at; asked = λ g. asked_is })
    by_end None at false asked_is h = cc
