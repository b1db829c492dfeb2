-- An advance: its first step, and the boundaries behind it.
use Rattle.std.proofs.Common.{◌≡◌, ℕ, zero, suc, ◌<◌, ◌≤◌, ◌&&◌, ◌≢◌, Bool, true, false, not, if◌then◌else◌, is_some}
use Rattle.std.proofs.Common.{Option, Some, None, [], ◌∷◌}
use Rattle.std.proofs.Common.{refl, sym, ap, ◌∙◌, subst, arith}
use Rattle.part_spec.specs.declared.part.Part.{Part}
use Rattle.part_spec.specs.Chip.{Chip}
use Rattle.avr_spec.specs.Kept.{kept}
use Rattle.avr_spec.specs.Step.{ahead}
use Rattle.debug_spec.specs.Stop.{forced, undefined, failed_write}
use Rattle.debug_spec.specs.Moved.{Flash}
use Rattle.debug_spec.specs.Run.{Run, End, is_undefined, onward, after, stop_here, early_end, natural_end, end_within, IsEnd}
use Rattle.debug_spec.proofs.RunEnds.{early_or, forced_by, end_by_is_an_end}
use Rattle.debug_spec.specs.Looks.{looked_end, advance_end}
use Rattle.run_control.specs.Looking.{Looked, IsLooked, looks_made}
use Rattle.run_control.specs.Runs.{run_of_job, end_of, IsReplanted, IsBehind, IsBegun, RunsThrough, AdvancesJob}
use Rattle.run_control.specs.declared.job.Halt.{Halt}
use Rattle.run_control.specs.declared.job.Halt.TheVariants.{Comparator, Word, Undefined, Forced, Single, FlashFault}
use Rattle.run_control.specs.declared.job.Turn.{Turn}
use Rattle.run_control.specs.declared.job.Turn.TheVariants.{Halted, NotYet}
use Rattle.run_control.specs.declared.job.Job.{Job}
use Rattle.run_control.specs.declared.runner.Done.{Done}
use Rattle.run_control.specs.Ends.{EndsWithin, EndsJob, IsGiven, is_ended, seat_of}
use Rattle.run_control.proofs.Boundaries.{turn_is_end, by_stop}

-- an early end, by what the run is at its start
abbrev early_by : (fresh none replants failed : Bool) → Option End
early_by fresh none replants failed =
    if fresh && none then Some (record { steps = 0; cause = undefined }) else
    if replants && failed then Some (record { steps = 1; cause = failed_write }) else
    None

none_ahead : (fresh none replants failed : Bool) → fresh ≡ true → none ≡ true →
    early_by fresh none replants failed ≡ Some (record { steps = 0; cause = undefined })
none_ahead true true replants failed f n = refl
none_ahead false none replants failed f n = cc
none_ahead true false replants failed f n = cc

write_failed : (fresh none replants failed : Bool) → (fresh ≡ true → none ≡ false) → replants ≡ true → failed ≡ true →
    early_by fresh none replants failed ≡ Some (record { steps = 1; cause = failed_write })
write_failed true true replants failed n r f = let clash : true ≡ false = n refl in cc
write_failed false none false failed n r f = cc
write_failed true false false failed n r f = cc
write_failed false none true false n r f = cc
write_failed true false true false n r f = cc
write_failed false none true true n r f = refl
write_failed true false true true n r f = refl

no_early : (fresh none replants failed : Bool) → (fresh ≡ true → none ≡ false) → failed ≡ false → early_by fresh none replants failed ≡ None
no_early true true replants failed n f = let clash : true ≡ false = n refl in cc
no_early false none replants true n f = cc
no_early true false replants true n f = cc
no_early false none false false n f = refl
no_early true false false false n f = refl
no_early false none true false n f = refl
no_early true false true false n f = refl

module _ {F M : Type 0} (flash : Flash F) (budget : ℕ) (some : 1 ≤ budget) (looking : Looked M) where
  -- the run ended before any boundary
  pub ends_early : (before job : Job F) (halt : Halt) → IsBegun flash before (Some halt) job → job.comparators ≡ before.comparators →
      job.core.part ≡ before.core.part → AdvancesJob flash before budget (Halted halt) job looking looking
  ends_early before job Undefined begun comparators part =
      subst (λ (j : Job F). AdvancesJob flash before budget (Halted Undefined) j looking looking) (sym begun.0) (record {
        steps = 0;
        ok = true;
        told = false;
        within = omega arith;
        run = λ part p h. (
          ap (λ (o : Option End).
              early_or o (looked_end part (run_of_job before p (flash.words before.flash) (flash.words before.flash)) [] budget))
              (none_ahead before.fresh (is_undefined (ahead part p (flash.words before.flash))) (is_some before.replant) false
              begun.1 (begun.2 part p h)),
          h,
        );
        spent = λ e. cc;
        forced = λ e. cc;
        looks = refl;
        mute = λ e. refl;
        none = λ e. (refl, refl, refl);
        some = λ less. absurd (omega (arith, less));
        comparators = refl;
        part = refl;
      })
  ends_early before job FlashFault begun comparators part = record {
    steps = 1;
    ok = false;
    told = false;
    within = some;
    run = λ part p h. (
      ap (λ (o : Option End). early_or o (looked_end part (run_of_job before p (flash.words before.flash) (flash.words job.flash))
          (false ∷ []) budget))
          (write_failed before.fresh (is_undefined (ahead part p (flash.words before.flash))) (is_some before.replant) true
          (begun.0.3 part p h).0 begun.2 refl),
      (begun.0.3 part p h).1,
    );
    spent = λ e. cc;
    forced = λ e. cc;
    looks = refl;
    mute = λ e. refl;
    none = λ e. absurd (omega (arith, e));
    some = λ less. (begun.0.0, begun.0.1, begun.0.2);
    comparators = comparators;
    part = part;
  }
  ends_early before job Comparator begun comparators part = absurd begun
  ends_early before job Word begun comparators part = absurd begun
  ends_early before job Forced begun comparators part = absurd begun
  ends_early before job Single begun comparators part = absurd begun

  -- it stood behind its first step, and went on
  pub ends_later : (before between job : Job F) (turn : Turn) (looked : Looked M) → IsBehind flash before true between →
      between.comparators ≡ before.comparators → between.core.part ≡ before.core.part →
      RunsThrough (flash.words between.flash) between.comparators budget between.core turn job.core looking looked →
      job ≡ record between { core = job.core } → job.core.part ≡ between.core.part →
      AdvancesJob flash before budget turn job looking looked
  ends_later before between job turn looked begun comparators part on rest same =
      let steps = suc on.quiet in
      let flashes : job.flash ≡ between.flash = ap (λ (j : Job F). j.flash) rest in
      record {
        steps = steps;
        ok = true;
        told = on.told;
        within = omega (arith, on.within);
        run = λ part p h.
            let r = run_of_job before p (flash.words before.flash) (flash.words between.flash) in
            let first = begun.3 part p h in
            let made = on.run part r first.1 refl refl (sym comparators) in
            subst (λ (f : F). let q = run_of_job before p (flash.words before.flash) (flash.words f) in
            (advance_end part q false (looks_made steps on.told) budget ≡ end_of turn steps) × (job.core ≡ kept part (after part q steps)))
            (sym flashes) (
              ap (λ (o : Option End). early_or o (looked_end part r (looks_made steps on.told) budget))
                  (no_early before.fresh (is_undefined (ahead part p (flash.words before.flash))) (is_some before.replant) false
                  first.0 refl) ∙
                  turn_is_end part turn on.quiet budget r on.told made.0 made.2 on.within on.spent,
              made.1,
            );
        spent = on.spent;
        forced = on.forced;
        looks = on.looks;
        mute = λ e. cc;
        none = λ e. absurd (omega (arith, e));
        some = λ less. (
          subst (λ (f : F). IsReplanted flash before.replant before.flash true f) (sym flashes) begun.0,
          ap (λ (j : Job F). j.replant) rest ∙ begun.1,
          ap (λ (j : Job F). j.fresh) rest ∙ begun.2,
        );
        comparators = ap (λ (j : Job F). j.comparators) rest ∙ comparators;
        part = same ∙ part;
      }

module _ (part : Chip) where
  -- with no look that tells so, a run comes to its end by itself or to none
  looked_quietly : (k n : ℕ) (r : Run) → looked_end part r (looks_made k false) n ≡ natural_end part r n
  looked_quietly k zero r = refl
  looked_quietly zero (suc n) r =
      by_stop (stop_here part (onward part r)) (looked_end part (onward part r) [] n) (natural_end part (onward part r) n)
      (looked_quietly zero n (onward part r))
  looked_quietly (suc zero) (suc n) r =
      by_stop (stop_here part (onward part r)) (looked_end part (onward part r) [] n) (natural_end part (onward part r) n)
      (looked_quietly zero n (onward part r))
  looked_quietly (suc (suc k)) (suc n) r =
      by_stop (stop_here part (onward part r)) (looked_end part (onward part r) (looks_made (suc k) false) n)
      (natural_end part (onward part r) n) (looked_quietly (suc k) n (onward part r))

  quietly : (k n : ℕ) (r : Run) (failed : Bool) → advance_end part r failed (looks_made k false) n ≡ end_within part r failed n
  quietly k n r failed = ap (early_or (early_end part r failed)) (looked_quietly k n r)

-- no look told so where the newest did not
pub untold : {F M : Type 0} (flash : Flash F) (before : Job F) (budget : ℕ) (turn : Turn) (job : Job F) (looking looked : Looked M) →
    looked.last ≡ false → (a : AdvancesJob flash before budget turn job looking looked) → a.told ≡ false
untold flash before budget turn job looking looked last a = by_steps a.steps refl a.ok refl
  where
    by_steps : (n : ℕ) → a.steps ≡ n → (b : Bool) → a.ok ≡ b → a.told ≡ false
    by_steps zero e b o = (a.none e).2
    by_steps (suc n) e false o = a.mute o
    by_steps (suc n) e true o =
        let looks : IsLooked (suc n) a.told looking looked =
        subst (λ (m : ℕ). IsLooked m a.told looking looked) (ap (λ (b : Bool). if b then a.steps else 0) o ∙ e) a.looks in
        sym looks.2 ∙ last

-- an advance without a look that told so came to the end of a job that is given so many steps
pub ends_by : {F M : Type 0} (flash : Flash F) (part_of : F → Part) (before : Job F) (budget : ℕ) (turn : Turn) (job : Job F)
    (looking looked : Looked M) → looked.last ≡ false → AdvancesJob flash before budget turn job looking looked →
    turn ≢ Halted Single → part_of job.flash ≡ part_of before.flash → flash.faults before.flash ≤ flash.faults job.flash →
    (done : Done F) → IsGiven (seat_of turn job) done →
    EndsWithin flash part_of before done budget (is_ended (seat_of turn job)) × (is_ended (seat_of turn job) ≡ true → done.halt ≢ Forced)
ends_by {F = F} flash part_of before budget NotYet job looking looked last a single part counts done is = (
  subst (λ (d : Done F). EndsWithin flash part_of before d budget false) (sym is) (record {
    steps = a.steps;
    ok = a.ok;
    run = λ part p h.
        let r = run_of_job before p (flash.words before.flash) (flash.words job.flash) in
        let to = sym (quietly part a.steps budget r (not a.ok)) ∙
        ap (λ (b : Bool). advance_end part r (not a.ok) (looks_made a.steps b) budget) (sym quiet) ∙ (a.run part p h).0 in (
          (
            ap (λ (o : Option End). forced_by o budget) to ∙
                ap (λ (n : ℕ). record { steps = n; cause = forced }) (sym (a.spent refl).0),
            ap is_some to,
          ),
          (a.run part p h).1,
        );
    none = λ e. ((a.none e).0, (a.none e).1);
    some = a.some;
    comparators = a.comparators;
    core_part = a.part;
    flash_part = part;
    counts = counts;
    halt = λ e. cc;
  }),
  λ e. cc,
)
  where
    quiet : a.told ≡ false
    quiet = untold flash before budget NotYet job looking looked last a
ends_by {F = F} flash part_of before budget (Halted halt) job looking looked last a single part counts done is = (
  subst (λ (d : Done F). EndsWithin flash part_of before d budget true) (sym is) (record {
    steps = a.steps;
    ok = a.ok;
    run = λ part p h.
        let r = run_of_job before p (flash.words before.flash) (flash.words job.flash) in
        let to = sym (quietly part a.steps budget r (not a.ok)) ∙
        ap (λ (b : Bool). advance_end part r (not a.ok) (looks_made a.steps b) budget) (sym quiet) ∙ (a.run part p h).0 in (
          (ap (λ (o : Option End). forced_by o budget) to, ap is_some to),
          (a.run part p h).1,
        );
    none = λ e. ((a.none e).0, (a.none e).1);
    some = a.some;
    comparators = a.comparators;
    core_part = a.part;
    flash_part = part;
    counts = counts;
    halt = λ e. single (ap Halted e);
  }),
  λ e f. let told : a.told ≡ true = a.forced (ap Halted (sym (ap (λ (d : Done F). d.halt) is) ∙ f)) in
      let clash : true ≡ false = sym told ∙ quiet in cc,
)
  where
    quiet : a.told ≡ false
    quiet = untold flash before budget (Halted halt) job looking looked last a

-- the end of a job that is given some steps is an end of it
pub ends_job : {F : Type 0} (flash : Flash F) (part_of : F → Part) (job : Job F) (done : Done F) (number : ℕ) (by_itself : Bool) →
    0 < number →
    EndsWithin flash part_of job done number by_itself → EndsJob flash part_of job done
ends_job flash part_of job done number by_itself some e = record {
  steps = e.steps;
  ok = e.ok;
  run = λ part p h.
      let r = run_of_job job p (flash.words job.flash) (flash.words done.job.flash) in
      let made = e.run part p h in
      (subst (IsEnd part r (not e.ok)) made.0.0 (end_by_is_an_end part r (not e.ok) number some), made.1);
  none = e.none;
  some = e.some;
  comparators = e.comparators;
  core_part = e.core_part;
  flash_part = e.flash_part;
  counts = e.counts;
  halt = e.halt;
}
