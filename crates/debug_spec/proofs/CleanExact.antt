-- What makes a step unclean, and what a clean run is made of.
use Rattle.std.proofs.Common.{◌≡◌, ◌≢◌, ◌↔◌, ℕ, zero, suc, ◌+◌, ◌/◌, ◌%◌, ◌<◌, ◌==◌, ◌&&◌, ◌||◌, not, Bool, true, false, List, []}
use Rattle.std.proofs.Common.{◌∷◌, Option, Some, None, is_some, refl, sym, ◌∙◌, ap, subst, arith}
use Rattle.std.specs.Prelude.{Contains}
use Rattle.std.proofs.lemmas.Bool.{and_parts, and_from, or_left, or_right, not-false, eqb-true, eq-eqb, true≢false}
use Rattle.std.proofs.Math.Bool.{and-true}
use Rattle.part_spec.specs.Chip.{Chip, words_of, flash_bytes}
use Rattle.avr_spec.specs.declared.instruction.Instr.{Instr}
use Rattle.avr_spec.specs.declared.instruction.Instr.TheVariants.{Lds, Sts, Jmp, Call, LpmR0, LpmZ, LpmZInc}
use Rattle.avr_spec.specs.declared.target.Vector.{Vector}
use Rattle.avr_spec.specs.Machine.{Machine}
use Rattle.avr_spec.specs.Memory.{pair, pointer_z}
use Rattle.avr_spec.specs.Step.{due, instr_at, step, go_on}
use Rattle.debug_spec.specs.Patch.{has, without}
use Rattle.debug_spec.specs.Run.{Run, after, end_by, run_of}
use Rattle.debug_spec.specs.Clean.{is_clean, clean_step, clean_for}
use Rattle.debug_spec.specs.CleanLaws.{TakesWordOf, UncleanStepsTakePlanted, StepsAreClean, CleanForEachStep, CleanToItsEnd}
use Rattle.debug_spec.specs.CleanLaws.{SetsHaveElements}
use Rattle.debug_spec.proofs.Sets.{has-without, has-without_other, has-within}

-- a set has the addresses of its list
contained : (set : List ℕ) (a : ℕ) → has set a ≡ true → Contains set a
contained [] a h = absurd (true≢false (sym h))
contained (b ∷ set) a h = by_test (a == b) refl (contained set a)
  where
    by_test : (t : Bool) → (a == b) ≡ t → (has set a ≡ true → Contains set a) → Contains (b ∷ set) a
    by_test true e inner = (zero, omega arith, sym (eqb-true a b e))
    by_test false e inner =
        let found = inner (subst (λ (t : Bool). (t || has set a) ≡ true) e h) in (suc found.0, omega (arith, found.1), found.2)

had : (set : List ℕ) (a : ℕ) → Contains set a → has set a ≡ true
had [] a (k, below, e) = absurd (omega (arith, below))
had (b ∷ set) a (zero, below, e) = or_left (a == b) (has set a) (eq-eqb a b (sym e))
had (b ∷ set) a (suc k, below, e) = or_right (a == b) (has set a) (had set a (k, omega (arith, below), e))

pub sets_have_elements : SetsHaveElements
sets_have_elements = record {
  has = λ set a. (contained set a, had set a);
  without = λ set a other. (
    (λ h. let inside = had (without a set) other h in (contained set other (has-within a other set inside), left_out set a other inside)),
    (λ h. contained (without a set) other (has-without_other a other set (λ e. h.1 (sym e)) ∙ had set other h.0)),
  );
}
  where
    left_out : (set : List ℕ) (a other : ℕ) → has (without a set) other ≡ true → other ≢ a
    left_out set a other inside e = true≢false (sym inside ∙ subst (λ (c : ℕ). has (without a set) c ≡ false) (sym e) (has-without a set))

-- that an address is not out of a set says that it is in it
in_set : (set : List ℕ) (a : ℕ) → (not (has set a) ≡ false) ↔ Contains set a
in_set set a = ((λ h. contained set a (not-false (has set a) h)), (λ h. ap not (had set a h)))

-- the same where nothing else is asked
in_set_alone : (set : List ℕ) (a : ℕ) → ((not (has set a) && true) ≡ false) ↔ Contains set a
in_set_alone set a = subst (λ (t : Bool). (t ≡ false) ↔ Contains set a) (sym (and-true (not (has set a)))) (in_set set a)

unclean_instr : (part : Chip) (p : Machine) (set : List ℕ) (instr : Instr) →
    (is_clean part p set instr ≡ false) ↔ TakesWordOf set part p instr
unclean_instr part p set (Lds d address) = in_set_alone set ((p.pc + 1) % words_of part)
unclean_instr part p set (Sts r address) = in_set_alone set ((p.pc + 1) % words_of part)
unclean_instr part p set (Jmp k) = in_set_alone set ((p.pc + 1) % words_of part)
unclean_instr part p set (Call k) = in_set_alone set ((p.pc + 1) % words_of part)
unclean_instr part p set LpmR0 = in_set set (pair p pointer_z % flash_bytes part / 2)
unclean_instr part p set (LpmZ d) = in_set set (pair p pointer_z % flash_bytes part / 2)
unclean_instr part p set (LpmZInc d) = in_set set (pair p pointer_z % flash_bytes part / 2)
unclean_instr part p set _ = (λ h. true≢false h, λ h. absurd h)

pub unclean_steps_take_planted : UncleanStepsTakePlanted
unclean_steps_take_planted part p prog set = by_due (due part p)
  where
    by_due : (o : Option Vector) →
        ((elim o [ Some v ↦ true | None ↦ is_clean part p set (instr_at part prog p.pc) ]) ≡ false) ↔
        ((o ≡ None) × TakesWordOf set part p (instr_at part prog p.pc))
    by_due None =
        let exact = unclean_instr part p set (instr_at part prog p.pc) in ((λ h. (refl, exact.0 h)), (λ h. exact.1 h.1))
    by_due (Some v) = ((λ h. absurd (true≢false h)), (λ h. absurd (true≢false (ap is_some h.0))))

module _ (part : Chip) (prog set : List ℕ) (comparators : List (Option ℕ)) where
  -- a run of the program that has its first step behind it
  abbrev under_way : Machine → Run
  under_way p = record {
    start = p;
    fresh = false;
    replants = false;
    first = prog;
    later = prog;
    stops = set;
    comparators = comparators;
  }

  -- each of the next n steps of such a run is clean
  abbrev Each : ℕ → Machine → Type 0
  Each n p = (k : ℕ) → k < n → clean_step part (after part (under_way p) k) prog set ≡ true

  clean_later : (n : ℕ) (p : Machine) → (clean_for part (under_way p) n ≡ true) ↔ Each n p
  clean_later zero p = ((λ h k below. absurd (omega (arith, below))), (λ h. refl))
  clean_later (suc n) p = (onto (clean_later n (step part p prog)).0, from (clean_later n (step part p prog)).1)
    where
      onto : (clean_for part (under_way (step part p prog)) n ≡ true → Each n (step part p prog)) →
          clean_for part (under_way p) (suc n) ≡ true → Each (suc n) p
      onto inner h zero below = (and_parts (clean_step part p prog set) (clean_for part (under_way (step part p prog)) n) h).0
      onto inner h (suc k) below =
          inner (and_parts (clean_step part p prog set) (clean_for part (under_way (step part p prog)) n) h).1 k (omega (arith, below))

      from : (Each n (step part p prog) → clean_for part (under_way (step part p prog)) n ≡ true) →
          Each (suc n) p → clean_for part (under_way p) (suc n) ≡ true
      from inner h =
          and_from (clean_step part p prog set) (clean_for part (under_way (step part p prog)) n) (h zero (omega arith))
          (inner (λ k below. h (suc k) (omega (arith, below))))

  clean_each : (p : Machine) (n : ℕ) →
      (clean_for part (run_of false prog p set comparators) n ≡ true) ↔ StepsAreClean part prog p set comparators n
  clean_each p zero = (
    (λ h. record { first = λ some. absurd (omega (arith, some)); later = λ k some below. absurd (omega (arith, below)) }),
    (λ h. refl),
  )
  clean_each p (suc n) = ((λ h. record { first = λ some. (parts h).0; later = behind h }), from)
    where
      parts : clean_for part (run_of false prog p set comparators) (suc n) ≡ true →
          (clean_step part p prog (without p.pc set) ≡ true) × (clean_for part (under_way (go_on part p prog)) n ≡ true)
      parts h = and_parts (clean_step part p prog (without p.pc set)) (clean_for part (under_way (go_on part p prog)) n) h

      behind : clean_for part (run_of false prog p set comparators) (suc n) ≡ true →
          (k : ℕ) → 0 < k → k < suc n → clean_step part (after part (run_of false prog p set comparators) k) prog set ≡ true
      behind h zero some below = absurd (omega (arith, some))
      behind h (suc k) some below = (clean_later n (go_on part p prog)).0 (parts h).1 k (omega (arith, below))

      from : StepsAreClean part prog p set comparators (suc n) → clean_for part (run_of false prog p set comparators) (suc n) ≡ true
      from each =
          and_from (clean_step part p prog (without p.pc set)) (clean_for part (under_way (go_on part p prog)) n) (each.first (omega arith))
          ((clean_later n (go_on part p prog)).1 (λ k below. each.later (suc k) (omega arith) (omega (arith, below))))

pub clean_for_each_step : CleanForEachStep
clean_for_each_step part prog p set comparators n = clean_each part prog set comparators p n

pub clean_to_its_end : CleanToItsEnd
clean_to_its_end part prog p set comparators failed n =
    clean_each part prog set comparators p (end_by part (run_of false prog p set comparators) failed n).steps
