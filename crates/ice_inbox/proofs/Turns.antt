-- A job that is advanced turn by turn goes through one run.
use Rattle.std.proofs.Common.{◌≡◌, ◌≢◌, ℕ, zero, suc, ◌+◌, ◌≤◌, ◌%◌, ◌^◌, Bool, true, false, not, ◌&&◌, if◌then◌else◌, is_some}
use Rattle.std.proofs.Common.{Option, Some, None, List, [], refl, sym, ap, ◌∙◌, subst, arith}
use Rattle.part_spec.specs.declared.part.Part.{Part}
use Rattle.part_spec.specs.Chip.{Chip}
use Rattle.avr_spec.specs.Machine.{Machine}
use Rattle.avr_spec.specs.Kept.{kept}
use Rattle.avr_spec.specs.Step.{ahead}
use Rattle.avr_core.specs.Stands.{StandsForSome}
use Rattle.debug_spec.specs.Stop.{Cause, undefined, failed_write}
use Rattle.debug_spec.specs.Moved.{Flash}
use Rattle.debug_spec.specs.Run.{Run, End, is_undefined, onward, run_after, after, stop_here, early_end, one_later}
use Rattle.debug_spec.specs.Looks.{next_look, later_looks, looks_after, cause_at, looked_end, advance_end, later_by}
use Rattle.debug_spec.proofs.LookLemmas.{runs_are_advanced}
use Rattle.debug_spec.proofs.RunEnds.{early_or}
use Rattle.run_control.specs.Looking.{Looked, IsLooked, looks_made}
use Rattle.run_control.specs.Runs.{cause_of_halt, run_of_job, end_of, IsReplanted, AdvancesJob}
use Rattle.run_control.specs.declared.job.Halt.{Halt}
use Rattle.run_control.specs.declared.job.Halt.TheVariants.{Single}
use Rattle.run_control.specs.declared.job.Turn.{Turn}
use Rattle.run_control.specs.declared.job.Turn.TheVariants.{Halted, NotYet}
use Rattle.run_control.specs.declared.job.Job.{Job}
use Rattle.ice_inbox.specs.Targets.{EndsLooked}

-- the looks behind the first of several
looks_behind : (k : ℕ) (told : Bool) → later_looks (looks_made (suc k) told) ≡ looks_made k told
looks_behind zero told = refl
looks_behind (suc k) told = refl

-- and behind the first n
looks_left : (n k : ℕ) (told : Bool) → looks_after (looks_made (n + k) told) n ≡ looks_made k told
looks_left zero k told = let e : 0 + k ≡ k = omega arith in ap (λ (m : ℕ). looks_made m told) e
looks_left (suc n) k told =
    let e : suc n + k ≡ suc (n + k) = omega arith in
    ap (λ (m : ℕ). looks_after (later_looks (looks_made m told)) n) e ∙
    ap (λ (l : List Bool). looks_after l n) (looks_behind (n + k) told) ∙
    looks_left n k told

-- the end that comes n steps later
end_later : (n k : ℕ) (turn : Turn) → later_by n (end_of turn k) ≡ end_of turn (n + k)
end_later zero k turn = let e : k ≡ 0 + k = omega arith in ap (end_of turn) e
end_later (suc n) k NotYet = ap one_later (end_later n k NotYet)
end_later (suc n) k (Halted halt) =
    let e : suc (n + k) ≡ suc n + k = omega arith in
    ap one_later (end_later n k (Halted halt)) ∙ ap (λ (m : ℕ). Some (record { steps = m; cause = cause_of_halt halt })) e

-- looks in two parts
looked_on : {M : Type 0} (n k : ℕ) (told : Bool) (first between last : Looked M) → 1 ≤ n → IsLooked n false first between →
    IsLooked k told between last → (k ≡ 0 → told ≡ false) → IsLooked (n + k) told first last
looked_on zero k told first between last some a b none = absurd (omega (arith, some))
looked_on (suc n) zero told first between last some a b none =
    let e : suc n ≡ suc n + 0 = omega arith in
    subst (λ (m : ℕ). IsLooked m told first last) e
    (subst (λ (t : Bool). IsLooked (suc n) t first last) (sym (none refl)) (subst (IsLooked (suc n) false first) (sym b) a))
looked_on (suc n) (suc k) told first between last some a b none =
    let e : suc (n + suc k) ≡ suc n + suc k = omega arith in
    subst (λ (m : ℕ). IsLooked m told first last) e (
      omega (arith, a.0, b.0),
      b.1 ∙ yes_on (if told then 1 else 0) a.1,
      b.2,
      b.3 ∙ a.3,
    )
  where
    yes_on : (more : ℕ) → between.yes ≡ (first.yes + 0) % 2 ^ 64 → (between.yes + more) % 2 ^ 64 ≡ (first.yes + more) % 2 ^ 64
    yes_on more h = omega (arith, h)

-- the end within some steps, by why a run ends at its next boundary
abbrev cause_or : Option Cause → Option End → Option End
cause_or o later = elim o [ Some cause ↦ Some (record { steps = 1; cause = cause }) | None ↦ one_later later ]

-- the look at the next boundary told nothing, where it is not the last or the last told nothing
next_untold : (m : ℕ) (told : Bool) → (m ≡ 0 → told ≡ false) → next_look (looks_made (suc m) told) ≡ false
next_untold zero told none = none refl
next_untold (suc m) told none = refl

module _ (part : Chip) where
  -- only the looks up to a boundary tell whether the run ends there
  looks_ahead : (n k : ℕ) (told : Bool) (r : Run) → (k ≡ 0 → told ≡ false) →
      looked_end part r (looks_made (n + k) told) n ≡ looked_end part r (looks_made n false) n
  looks_ahead zero k told r none = refl
  looks_ahead (suc n) k told r none =
      let e : suc n + k ≡ suc (n + k) = omega arith in
      let here = stop_here part (onward part r) in
      let all : List Bool = looks_made (suc (n + k)) told in
      let front : List Bool = looks_made (suc n) false in
      let rest : List Bool → Option End = λ looks. looked_end part (onward part r) looks n in
      ap (λ (m : ℕ). looked_end part r (looks_made m told) (suc n)) e ∙
      ap (λ (b : Bool). cause_or (cause_at here b) (rest (later_looks all))) (next_untold (n + k) told (λ z. none (omega (arith, z)))) ∙
      ap (λ (looks : List Bool). cause_or (cause_at here false) (rest looks)) (looks_behind (n + k) told) ∙
      ap (cause_or (cause_at here false)) (looks_ahead n k told (onward part r) none) ∙
      ap (λ (looks : List Bool). cause_or (cause_at here false) (rest looks)) (sym (looks_behind n false)) ∙
      ap (λ (b : Bool). cause_or (cause_at here b) (rest (later_looks front))) (sym (next_untold n false (λ z. refl)))

  -- the run from a boundary on, behind its first step
  run_behind : (k : ℕ) (r : Run) →
      run_after part r (suc k) ≡ record r { start = after part r (suc k); fresh = false; replants = false; first = r.later }
  run_behind zero r = refl
  run_behind (suc k) r = run_behind k (onward part r)

  behind_run : (n : ℕ) (r : Run) → 1 ≤ n →
      run_after part r n ≡ record r { start = after part r n; fresh = false; replants = false; first = r.later }
  behind_run zero r some = absurd (omega (arith, some))
  behind_run (suc k) r some = run_behind k r

  -- the run from a later boundary on
  run_further : (n k : ℕ) (r : Run) → run_after part r (n + k) ≡ run_after part (run_after part r n) k
  run_further zero k r = let e : 0 + k ≡ k = omega arith in ap (run_after part r) e
  run_further (suc n) k r =
      let e : suc n + k ≡ suc (n + k) = omega arith in ap (run_after part r) e ∙ run_further n k (onward part r)

  -- an advance that came to no end, and one from its boundary on, are one advance
  one_advance : (n k m : ℕ) (told : Bool) (turn : Turn) (r : Run) → (k ≡ 0 → told ≡ false) →
      advance_end part r false (looks_made n false) n ≡ None → looked_end part (run_after part r n) (looks_made k told) m ≡ end_of turn k →
      advance_end part r false (looks_made (n + k) told) (n + m) ≡ end_of turn (n + k)
  one_advance n k m told turn r none first then_ =
      let all : List Bool = looks_made (n + k) told in
      (runs_are_advanced.advances part r false all n).joined m
      (ap (early_or (early_end part r false)) (looks_ahead n k told r none) ∙ first) ∙
      ap (λ (looks : List Bool). later_by n (looked_end part (run_after part r n) looks m)) (looks_left n k told) ∙
      ap (later_by n) then_ ∙ end_later n k turn

-- an early end, by what the run is at its start
abbrev early_by : (fresh none replants failed : Bool) → Option End
early_by fresh none replants failed =
    if fresh && none then Some (record { steps = 0; cause = undefined }) else
    if replants && failed then Some (record { steps = 1; cause = failed_write }) else
    None

-- a page whose write failed ends the run
no_failure : (fresh none replants failed : Bool) (later : Option End) → replants ≡ true → failed ≡ true →
    early_or (early_by fresh none replants failed) later ≡ None → ⊥
no_failure fresh none false failed later r f h = cc
no_failure fresh none true false later r f h = cc
no_failure true true true true later r f h = cc
no_failure true false true true later r f h = cc
no_failure false none true true later r f h = cc

-- the run of a job that is under way
job_run : {F : Type 0} (job : Job F) (q : Machine) (words : List ℕ) (comparators : List (Option ℕ)) →
    job.fresh ≡ false → job.replant ≡ None →
    job.comparators ≡ comparators →
    run_of_job job q words words ≡
    record { start = q; fresh = false; replants = false; first = words; later = words; stops = []; comparators = comparators }
job_run job q words comparators f p c = λ i. record {
  start = q;
  fresh = f i;
  replants = is_some (p i);
  first = words;
  later = words;
  stops = [];
  comparators = c i;
}

-- looks are counted, and leave the mark
counted : {M : Type 0} (count : ℕ) (told : Bool) (first looked : Looked M) → IsLooked count told first looked → first.looks ≡ 0 →
    looked.looks ≡ count % 2 ^ 64
counted {M = M} zero told first looked is none = ap (λ (l : Looked M). l.looks) is ∙ none
counted (suc n) told first looked is none = omega (arith, is.0, none)

marked : {M : Type 0} (count : ℕ) (told : Bool) (first looked : Looked M) → IsLooked count told first looked → looked.mark ≡ first.mark
marked {M = M} zero told first looked is = ap (λ (l : Looked M). l.mark) is
marked (suc n) told first looked is = is.3

module _ {F M : Type 0} (flash : Flash F) where
  -- where a page is to be written behind no step, none was written
  pub unwritten : (between job : Job F) (m : ℕ) (turn : Turn) (looking looked : Looked M) → between.replant ≡ None →
      (b : AdvancesJob flash between m turn job looking looked) → (b.ok ≡ true) × (job.flash ≡ between.flash) ×
      (job.replant ≡ None) × (between.fresh ≡ false → job.fresh ≡ false)
  unwritten between job m turn looking looked none b = by_steps b.steps refl
    where
      by_steps : (k : ℕ) → b.steps ≡ k → (b.ok ≡ true) × (job.flash ≡ between.flash) ×
          (job.replant ≡ None) × (between.fresh ≡ false → job.fresh ≡ false)
      by_steps zero e =
          let same = (b.none e).0 in (
            (b.none e).1,
            ap (λ (j : Job F). j.flash) same,
            ap (λ (j : Job F). j.replant) same ∙ none,
            λ f. ap (λ (j : Job F). j.fresh) same ∙ f,
          )
      by_steps (suc k) e =
          let made = b.some (omega (arith, e)) in
          let written = subst (λ (o : Option (ℕ × List ℕ)). IsReplanted flash o between.flash b.ok job.flash) none made.0 in
          (written.0, written.1, made.1, λ f. made.2)

  module _ (before between : Job F) (n : ℕ) (first looking : Looked M) (some : 1 ≤ n) (stands : StandsForSome before.core)
      (a : AdvancesJob flash before n NotYet between first looking) where
    -- the page behind the first step has its words, since the run goes on
    written : a.ok ≡ true
    written = by_page before.replant refl a.ok refl
      where
        by_page : (o : Option (ℕ × List ℕ)) → before.replant ≡ o → (ok : Bool) → a.ok ≡ ok → a.ok ≡ true
        by_page o page true e = e
        by_page None page false e =
            (subst (λ (q : Option (ℕ × List ℕ)). IsReplanted flash q before.flash a.ok between.flash) page
            (a.some (omega (arith, (a.spent refl).0, some))).0).0
        by_page (Some asked) page false e =
            let part = before.core.part in
            let r = run_of_job before stands.state (flash.words before.flash) (flash.words between.flash) in
            absurd (no_failure before.fresh (is_undefined (ahead part stands.state (flash.words before.flash))) (is_some before.replant)
            (not a.ok) (looked_end part r (looks_made a.steps a.told) n) (ap is_some page) (ap not e) (a.run part stands.state stands.is).0)

    -- a turn more goes on with the run
    pub turn_more : (job : Job F) (m : ℕ) (turn : Turn) (looked : Looked M) → AdvancesJob flash between m turn job looking looked →
        AdvancesJob flash before (n + m) turn job first looked
    turn_more job m turn looked b =
        let steps : a.steps ≡ n = (a.spent refl).0 in
        let quiet : a.told ≡ false = (a.spent refl).1 in
        let made = a.some (omega (arith, steps, some)) in
        let rest = unwritten between job m turn looking looked made.1 b in
        let none : b.steps ≡ 0 → b.told ≡ false = λ e. (b.none e).2 in
        record {
          steps = n + b.steps;
          ok = true;
          told = b.told;
          within = omega (arith, b.within);
          run = λ part p h.
              let w = flash.words between.flash in
              let r = run_of_job before p (flash.words before.flash) w in
              let q = after part r n in
              let looks = looks_made b.steps b.told in
              let head = a.run part p h in
              let began : advance_end part r false (looks_made n false) n ≡ None =
              ap (λ (x : Bool). advance_end part r (not x) (looks_made n false) n) (sym written) ∙
              ap (λ (t : Bool). advance_end part r (not a.ok) (looks_made n t) n) (sym quiet) ∙
              ap (λ (k : ℕ). advance_end part r (not a.ok) (looks_made k a.told) n) (sym steps) ∙ head.0 in
              let at : between.core ≡ kept part q = head.1 ∙ ap (λ (k : ℕ). kept part (after part r k)) steps in
              let tail = subst (λ (f : F). let s = run_of_job between q w (flash.words f) in
              (advance_end part s (not b.ok) looks m ≡ end_of turn b.steps) × (job.core ≡ kept part (after part s b.steps)))
              rest.1 (b.run part q at) in
              let here = behind_run part n r some in
              let same = job_run between q w before.comparators made.2 made.1 a.comparators in
              let ended : looked_end part (run_after part r n) looks m ≡ end_of turn b.steps =
              ap (λ (s : Run). looked_end part s looks m) here ∙
              ap (λ (s : Run). advance_end part s (not b.ok) looks m) (sym same) ∙ tail.0 in
              subst (λ (f : F). let s = run_of_job before p (flash.words before.flash) (flash.words f) in
              (advance_end part s false (looks_made (n + b.steps) b.told) (n + m) ≡ end_of turn (n + b.steps)) ×
              (job.core ≡ kept part (after part s (n + b.steps)))) (sym rest.1) (
                one_advance part n b.steps m b.told turn r none began ended,
                tail.1 ∙ ap (λ (s : Run). kept part (after part s b.steps)) (same ∙ sym here) ∙
                    ap (λ (s : Run). kept part s.start) (sym (run_further part n b.steps r)),
              );
          spent = λ e. (omega (arith, (b.spent e).0), (b.spent e).1);
          forced = b.forced;
          looks = looked_on n b.steps b.told first looking looked some
              (subst (λ (t : Bool). IsLooked n t first looking) quiet
              (subst (λ (k : ℕ). IsLooked k a.told first looking) (ap (λ (x : Bool). if x then a.steps else 0) written ∙ steps) a.looks))
              (subst (λ (k : ℕ). IsLooked k b.told looking looked) (ap (λ (x : Bool). if x then b.steps else 0) rest.0) b.looks) none;
          mute = λ e. cc;
          none = λ e. absurd (omega (arith, e, some));
          some = λ less. (
            subst (λ (f : F). IsReplanted flash before.replant before.flash true f) (sym rest.1)
                (subst (λ (x : Bool). IsReplanted flash before.replant before.flash x between.flash) written made.0),
            rest.2,
            rest.3 made.2,
          );
          comparators = b.comparators ∙ a.comparators;
          part = b.part ∙ a.part;
        }

  -- a job has gone so many steps, through turns that did not end its run
  abbrev pub Went : Job F → Looked M → ℕ → Job F → Looked M → Type 0
  Went before first zero job looked = (job ≡ before) × (looked ≡ first)
  Went before first (suc n) job looked = AdvancesJob flash before (suc n) NotYet job first looked

  pub went_further : (before : Job F) (first : Looked M) (n : ℕ) (between : Job F) (looking : Looked M) (m : ℕ) (turn : Turn) (job : Job F)
      (looked : Looked M) → StandsForSome before.core → Went before first n between looking →
      AdvancesJob flash between m turn job looking looked →
      AdvancesJob flash before (n + m) turn job first looked
  went_further before first zero between looking m turn job looked stands went b =
      let e : m ≡ 0 + m = omega arith in
      subst (λ (k : ℕ). AdvancesJob flash before k turn job first looked) e
      (subst (λ (j : Job F). AdvancesJob flash j m turn job first looked) went.0
      (subst (λ (l : Looked M). AdvancesJob flash between m turn job l looked) went.1 b))
  went_further before first (suc n) between looking m turn job looked stands went b =
      turn_more before between (suc n) first looking (omega arith) stands went job m turn looked b

  pub went_on : (before : Job F) (first : Looked M) (n : ℕ) (job : Job F) (looked : Looked M) → 1 ≤ n →
      AdvancesJob flash before n NotYet job first looked → Went before first n job looked
  went_on before first zero job looked some a = absurd (omega (arith, some))
  went_on before first (suc n) job looked some a = a

  -- a run that an advance ended, with its looks
  pub ends_looked : (part_of : F → Part) (before : Job F) (n : ℕ) (halt : Halt) (job : Job F) (first looked : Looked M) →
      AdvancesJob flash before n (Halted halt) job first looked → Halted halt ≢ Halted Single → part_of job.flash ≡ part_of before.flash →
      flash.faults before.flash ≤ flash.faults job.flash → first.looks ≡ 0 →
      EndsLooked flash part_of before (record { job = job; halt = halt }) looked.looks looked.last × (looked.mark ≡ first.mark)
  ends_looked part_of before n halt job first looked a single part counts none = (
    record {
      ends = record {
        steps = a.steps;
        ok = a.ok;
        run = λ part p h.
            let r = run_of_job before p (flash.words before.flash) (flash.words job.flash) in
            let made = a.run part p h in (
              ((runs_are_advanced.advances part r (not a.ok) (looks_made a.steps a.told) n).ends
                  (record { steps = a.steps; cause = cause_of_halt halt }) made.0).0,
              made.1,
            );
        none = λ e. ((a.none e).0, (a.none e).1);
        some = a.some;
        comparators = a.comparators;
        core_part = a.part;
        flash_part = part;
        counts = counts;
        halt = λ e. single (ap Halted e);
      };
      looked = counted (if a.ok then a.steps else 0) a.told first looked a.looks none;
      forced = λ f. last_told a.steps refl a.ok refl (a.forced (ap Halted f));
    },
    marked (if a.ok then a.steps else 0) a.told first looked a.looks,
  )
    where
      last_told : (k : ℕ) → a.steps ≡ k → (ok : Bool) → a.ok ≡ ok → a.told ≡ true → looked.last ≡ true
      last_told zero e ok o told = let clash : true ≡ false = sym told ∙ (a.none e).2 in cc
      last_told (suc k) e false o told = let clash : true ≡ false = sym told ∙ a.mute o in cc
      last_told (suc k) e true o told =
          (subst (λ (c : ℕ). IsLooked c a.told first looked) (ap (λ (x : Bool). if x then a.steps else 0) o ∙ e) a.looks).2 ∙ told
