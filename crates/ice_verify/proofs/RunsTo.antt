-- The end to which the run that is out may come.
use Rattle.std.proofs.Common.{◌≡◌, ℕ, zero, suc, ◌<◌, Bool, true, false, ◌&&◌, List, [], Option, Some, None, if◌then◌else◌, refl, sym, ap, ◌∙◌, subst, arith}
use Rattle.std.specs.Prelude.{MatchOption}
use Rattle.part_spec.specs.declared.part.Part.{Part}
use Rattle.part_spec.specs.Chip.{Chip, chip_of}
use Rattle.avr_spec.specs.Machine.{Machine}
use Rattle.avr_spec.specs.Kept.{kept}
use Rattle.avr_spec.specs.Step.{ahead, go_on}
use Rattle.debug_spec.specs.Stop.{Cause, forced, undefined, failed_write}
use Rattle.debug_spec.specs.Run.{Run, End, onward, after, stop_after, is_undefined, IsCauseOf, IsTestedEnd, IsEnd}
use Rattle.debug_spec.specs.Debugger.{Debugger, is_out, run_out, targets_by}
use Rattle.debug_spec.specs.Running.{replant_failed, MayEnd}
use Rattle.ice_answer.specs.Kept.{ToolState}
use Rattle.ice_answer.specs.Does.{IsAt}
use Rattle.ice_verify.specs.Kept.{WordsState}
use Rattle.ice_verify.specs.Well.{IsGood}
use Rattle.ice_verify.specs.Standing.{IsReady, at_of}
use Rattle.ice_verify.specs.Going.{stop_in, IsUnderWay, MayStop, RunsOn, Stops}
use Rattle.ice_verify.specs.declared.plain.Plain.{Plain}
use Rattle.ice_verify.proofs.Good.{replant_works}
use Rattle.ice_verify.proofs.RunningOn.{stop_there}

-- the words that the target runs are the program's
pub words_are : (p : Plain) (part : Part) (sent before : List ℕ) (s : Debugger) → IsReady p → IsAt part before (at_of p sent) s →
    p.words.words ≡ s.prog
words_are p part sent before s ready e = ap (λ (w : WordsState). w.words) ready.words ∙ ap (λ (k : ToolState). k.plan.prog) e.tool

module _ (part : Chip) (s : Debugger) where
  abbrev r : Run
  r = run_out false s

  none_ahead : Bool
  none_ahead = is_undefined (ahead part s.machine s.prog)

  early_by : (u replants failed : Bool) → Option End
  early_by u replants failed =
      if true && u then Some (record { steps = 0; cause = undefined }) else
      if replants && failed then Some (record { steps = 1; cause = failed_write }) else
      None

  early_some : (u replants failed : Bool) → u ≡ true → early_by u replants failed ≡ Some (record { steps = 0; cause = undefined })
  unfolding early_by
  early_some true replants failed h = refl
  early_some false replants failed h = cc

  early_none : (u replants failed : Bool) → u ≡ false → failed ≡ false → early_by u replants failed ≡ None
  unfolding early_by
  early_none true replants failed h k = cc
  early_none false true true h k = cc
  early_none false true false h k = refl
  early_none false false failed h k = refl

  -- a run that starts at a word that does not run
  pub ends_early : (e : End) → is_undefined (ahead part s.machine s.prog) ≡ true → IsEnd part r (replant_failed s) e →
      e ≡ record { steps = 0; cause = undefined }
  unfolding early_by
  ends_early e u h = subst (λ (o : Option End). MatchOption o (IsTestedEnd part r e) (λ early. e ≡ early))
      (early_some (is_undefined (ahead part s.machine s.prog)) r.replants (replant_failed s) u) h

  pub may_end_early : is_undefined (ahead part s.machine s.prog) ≡ true → IsEnd part r (replant_failed s) (record { steps = 0; cause = undefined })
  unfolding early_by
  may_end_early u = subst (λ (o : Option End). MatchOption o (IsTestedEnd part r (record { steps = 0; cause = undefined })) (λ early. record { steps = 0; cause = undefined } ≡ early))
      (sym (early_some (is_undefined (ahead part s.machine s.prog)) r.replants (replant_failed s) u)) refl

  -- any other run
  pub ends_late : (e : End) → IsGood s → is_undefined (ahead part s.machine s.prog) ≡ false → IsEnd part r (replant_failed s) e → IsTestedEnd part r e
  unfolding early_by
  ends_late e good u h = subst (λ (o : Option End). MatchOption o (IsTestedEnd part r e) (λ early. e ≡ early))
      (early_none (is_undefined (ahead part s.machine s.prog)) r.replants (replant_failed s) u (replant_works s good)) h

  pub may_end_late : (e : End) → IsGood s → is_undefined (ahead part s.machine s.prog) ≡ false → IsTestedEnd part r e → IsEnd part r (replant_failed s) e
  unfolding early_by
  may_end_late e good u h = subst (λ (o : Option End). MatchOption o (IsTestedEnd part r e) (λ early. e ≡ early))
      (sym (early_none (is_undefined (ahead part s.machine s.prog)) r.replants (replant_failed s) u (replant_works s good))) h

  -- no end comes behind no step of such a run
  pub none_at_once : (cause : Cause) → IsTestedEnd part r (record { steps = 0; cause = cause }) → ⊥
  none_at_once cause t = absurd (omega (arith, t.some_step))

  -- behind its first step the code's target stands in a run that is under way
  module _ (own : Part) (same : part ≡ chip_of own) (p0 p1 : Plain) (before : List ℕ) (e : IsAt own before (at_of p0 []) s) (ready : IsReady p0)
      (rest : p1 ≡ record p0 { core = p1.core }) (gone : p1.core ≡ kept part (go_on part s.machine p0.words.words)) where
    words0 : p0.words.words ≡ s.prog
    words0 = words_are p0 own [] before s ready e

    words1 : p1.words.words ≡ s.prog
    words1 = ap (λ (p : Plain). p.words.words) rest ∙ words0

    pub under_way : IsUnderWay part p1 (onward part r)
    under_way = record {
      start = gone ∙ ap (λ (ws : List ℕ). kept part (go_on part s.machine ws)) words0;
      fresh = refl;
      first = sym words1;
      later = sym words1;
      stops = ap (λ (k : ToolState). targets_of k) (sym e.tool) ∙ ap (λ (p : Plain). targets_of p.tool) (sym rest);
      comparators = sym e.comparators ∙ ap (λ (p : Plain). p.comparators) (sym rest);
    }
      where
        targets_of : ToolState → List ℕ
        targets_of k = targets_by k.run_to k.plan.soft

  module _ (p1 : Plain) (u : IsUnderWay part p1 (onward part r)) where
    -- through quiet boundaries to one where it may stop
    pub tested : (n : ℕ) (cause : Cause) → ((j : ℕ) → j < n → stop_after part (onward part r) j ≡ None) →
        IsCauseOf (stop_in part (after part (onward part r) n) p1) cause → IsTestedEnd part r (record { steps = suc n; cause = cause })
    tested n cause quiet here = record {
      some_step = omega arith;
      no_stop_before = before_it;
      here = subst (λ (o : Option Cause). IsCauseOf o cause) (sym (stop_there part p1 n (onward part r) u)) here;
    }
      where
        before_it : (k : ℕ) → 0 < k → k < suc n → stop_after part r k ≡ None
        before_it zero some less = absurd (omega (arith, some))
        before_it (suc j) some less = quiet j (omega (arith, less))

    -- a stop on the way
    pub not_past : (n j : ℕ) (cause : Cause) → j < n → (stop_after part (onward part r) j ≡ None → ⊥) →
        IsTestedEnd part r (record { steps = suc n; cause = cause }) → ⊥
    not_past n j cause less stops t = stops (t.no_stop_before (suc j) (omega arith) (omega (arith, less)))

    -- what a run may end for
    pub here_so : (n : ℕ) (cause : Cause) → IsTestedEnd part r (record { steps = suc n; cause = cause }) →
        IsCauseOf (stop_in part (after part (onward part r) n) p1) cause
    here_so n cause t = subst (λ (o : Option Cause). IsCauseOf o cause) (stop_there part p1 n (onward part r) u) t.here

-- whether the words at the start run, in the program's own words
module _ (own : Part) (sent : List ℕ) (s : Debugger) (p0 : Plain) (ready : IsReady p0) (e : IsAt own sent (at_of p0 []) s) where
  pub in_prog : (b : Bool) → is_undefined (ahead (chip_of own) s.machine p0.words.words) ≡ b → is_undefined (ahead (chip_of own) s.machine s.prog) ≡ b
  in_prog b h = ap (λ (ws : List ℕ). is_undefined (ahead (chip_of own) s.machine ws)) (sym (words_are p0 own [] sent s ready e)) ∙ h

  pub in_words : (b : Bool) → is_undefined (ahead (chip_of own) s.machine s.prog) ≡ b → is_undefined (ahead (chip_of own) s.machine p0.words.words) ≡ b
  in_words b h = ap (λ (ws : List ℕ). is_undefined (ahead (chip_of own) s.machine ws)) (words_are p0 own [] sent s ready e) ∙ h

  -- an end before the first step
  pub early_comes : (steps : ℕ) (cause : Cause) → steps ≡ 0 → is_out s.mode ≡ true →
      (is_undefined (ahead (chip_of own) s.machine p0.words.words) ≡ true) × (cause ≡ undefined) →
      MayEnd false (chip_of own) s (record { steps = steps; cause = cause }) × (p0.core ≡ kept (chip_of own) (after (chip_of own) (run_out false s) steps))
  early_comes steps cause none out h =
      let P : ℕ → Cause → Type 0 = λ k why. MayEnd false (chip_of own) s (record { steps = k; cause = why }) ×
      (p0.core ≡ kept (chip_of own) (after (chip_of own) (run_out false s) k)) in
      subst (λ (k : ℕ). P k cause) (sym none) (subst (λ (why : Cause). P 0 why) (sym h.1) (
        record { out = out; is_end = may_end_early (chip_of own) s (in_prog true h.0); asked = λ f. absurd (apart f) },
        e.core,
      ))
    where
      apart : undefined ≡ forced → ⊥
      apart f = cc

  pub early_not : (steps : ℕ) (cause : Cause) → steps ≡ 0 → IsGood s →
      ((is_undefined (ahead (chip_of own) s.machine p0.words.words) ≡ true) × (cause ≡ undefined) → ⊥) →
      MayEnd false (chip_of own) s (record { steps = steps; cause = cause }) → ⊥
  early_not steps cause none good never may = by_ahead (is_undefined (ahead (chip_of own) s.machine s.prog)) refl
    where
      by_ahead : (b : Bool) → is_undefined (ahead (chip_of own) s.machine s.prog) ≡ b → ⊥
      by_ahead true h = never (in_words true h, ap (λ (x : End). x.cause) (ends_early (chip_of own) s (record { steps = steps; cause = cause }) h may.is_end))
      by_ahead false h =
          let t = ends_late (chip_of own) s (record { steps = steps; cause = cause }) good h may.is_end in
          absurd (omega (arith, t.some_step, none))

  -- and behind it
  module _ (p1 : Plain) (steps n : ℕ) (cause : Cause) (count : steps ≡ suc n) (good : IsGood s)
      (u : is_undefined (ahead (chip_of own) s.machine p0.words.words) ≡ false) (rest : p1 ≡ record p0 { core = p1.core })
      (gone : p1.core ≡ kept (chip_of own) (go_on (chip_of own) s.machine p0.words.words)) where
    under : IsUnderWay (chip_of own) p1 (onward (chip_of own) (run_out false s))
    under = under_way (chip_of own) s own refl p0 p1 sent e ready rest gone

    late : MayEnd false (chip_of own) s (record { steps = steps; cause = cause }) →
        IsTestedEnd (chip_of own) (run_out false s) (record { steps = suc n; cause = cause })
    late may = subst (λ (k : ℕ). IsTestedEnd (chip_of own) (run_out false s) (record { steps = k; cause = cause })) count
        (ends_late (chip_of own) s (record { steps = steps; cause = cause }) good (in_prog false u) may.is_end)

    pub stopped_before : Stops p1 n → MayEnd false (chip_of own) s (record { steps = steps; cause = cause }) → ⊥
    stopped_before stops may =
        let at_ = stops (chip_of own) (onward (chip_of own) (run_out false s)) under in
        not_past (chip_of own) s p1 under n at_.0 cause at_.1 at_.2 (late may)

    module _ (p2 : Plain) (rest2 : p2 ≡ record p1 { core = p2.core }) (runs : RunsOn p1 n p2) where
      there : Machine
      there = after (chip_of own) (onward (chip_of own) (run_out false s)) n

      pub stands_there : p2.core ≡ kept (chip_of own) (after (chip_of own) (onward (chip_of own) (run_out false s)) n)
      stands_there = (runs (chip_of own) (onward (chip_of own) (run_out false s)) under).0

      same_stop : stop_in (chip_of own) (after (chip_of own) (onward (chip_of own) (run_out false s)) n) p2 ≡
          stop_in (chip_of own) (after (chip_of own) (onward (chip_of own) (run_out false s)) n) p1
      same_stop = ap (λ (p : Plain). stop_in (chip_of own) (after (chip_of own) (onward (chip_of own) (run_out false s)) n) p) rest2

      same_asked : p2.tool.stop_asked ≡ s.stop_asked
      same_asked = ap (λ (p : Plain). p.tool.stop_asked) rest2 ∙ ap (λ (p : Plain). p.tool.stop_asked) rest ∙ ap (λ (k : ToolState). k.stop_asked) e.tool

      pub comes_there : is_out s.mode ≡ true →
          MayStop (chip_of own) (after (chip_of own) (onward (chip_of own) (run_out false s)) n) p2 cause →
          MayEnd false (chip_of own) s (record { steps = steps; cause = cause }) × (p2.core ≡ kept (chip_of own) (after (chip_of own) (run_out false s) steps))
      comes_there out may =
          let quiet = (runs (chip_of own) (onward (chip_of own) (run_out false s)) under).1 in
          subst (λ (k : ℕ). MayEnd false (chip_of own) s (record { steps = k; cause = cause }) ×
          (p2.core ≡ kept (chip_of own) (after (chip_of own) (run_out false s) k))) (sym count) (
            record {
              out = out;
              is_end = may_end_late (chip_of own) s (record { steps = suc n; cause = cause }) good (in_prog false u)
                  (tested (chip_of own) s p1 under n cause quiet (subst (λ (o : Option Cause). IsCauseOf o cause) same_stop may.0));
              asked = λ f. sym same_asked ∙ may.1 f;
            },
            stands_there,
          )

      pub not_there : (MayStop (chip_of own) (after (chip_of own) (onward (chip_of own) (run_out false s)) n) p2 cause → ⊥) →
          MayEnd false (chip_of own) s (record { steps = steps; cause = cause }) → ⊥
      not_there never may = never (
        subst (λ (o : Option Cause). IsCauseOf o cause) (sym same_stop) (here_so (chip_of own) s p1 under n cause (late may)),
        λ f. same_asked ∙ may.asked f,
      )
