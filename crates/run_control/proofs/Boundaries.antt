-- A run from boundary to boundary, of any part.
use Rattle.std.proofs.Common.{◌≡◌, ℕ, zero, suc, ◌+◌, ◌<◌, ◌%◌, ◌^◌, Bool, false, List, [], Option, Some, None}
use Rattle.std.proofs.Common.{refl, sym, ap, ◌∙◌, arith}
use Rattle.part_spec.specs.Chip.{Chip}
use Rattle.avr_spec.specs.Machine.{Machine}
use Rattle.avr_spec.specs.Kept.{Kept, kept}
use Rattle.avr_spec.specs.Step.{step}
use Rattle.debug_spec.specs.Stop.{Cause, stop}
use Rattle.debug_spec.specs.Run.{Run, End, onward, run_after, after, stop_here, stop_after, one_later, natural_end}
use Rattle.debug_spec.specs.Looks.{cause_at, looked_end}
use Rattle.run_control.specs.Looking.{looks_made}
use Rattle.run_control.specs.Runs.{cause_of_halt, end_of, Turns, IsTurn}
use Rattle.run_control.specs.declared.job.Turn.{Turn}
use Rattle.run_control.specs.declared.job.Turn.TheVariants.{Halted, NotYet}

-- the end of a run, by why it ends behind its next step
abbrev natural_by : Option Cause → Option End → Option End
natural_by o later = elim o [ Some cause ↦ Some (record { steps = 1; cause = cause }) | None ↦ one_later later ]

none_first : (o : Option Cause) (later : Option End) → natural_by o later ≡ None → o ≡ None
none_first None later h = refl
none_first (Some cause) later h = cc

none_later : (o : Option Cause) (later : Option End) → natural_by o later ≡ None → later ≡ None
none_later None None h = refl
none_later None (Some e) h = cc
none_later (Some cause) later h = cc

-- a look that does not tell so changes nothing
pub by_stop : (o : Option Cause) (looked natural : Option End) → looked ≡ natural →
    natural_by (cause_at o false) looked ≡ natural_by o natural
by_stop None looked natural same = ap one_later same
by_stop (Some cause) looked natural same = refl

module _ (part : Chip) where
  -- behind k quiet boundaries one more is quiet too
  pub none_next : (k : ℕ) (r : Run) → natural_end part r k ≡ None → stop_after part r (suc k) ≡ None → natural_end part r (suc k) ≡ None
  none_next zero r h s = ap (λ (o : Option Cause). natural_by o None) s
  none_next (suc k) r h s =
      ap (λ (o : Option Cause). natural_by o (natural_end part (onward part r) (suc k)))
      (none_first (stop_here part (onward part r)) (natural_end part (onward part r) k) h) ∙
      ap one_later (none_next k (onward part r) (none_later (stop_here part (onward part r)) (natural_end part (onward part r) k) h) s)

  -- the run from a boundary on, behind its first step
  run_behind : (k : ℕ) (r : Run) →
      run_after part r (suc k) ≡ record r { start = after part r (suc k); fresh = false; replants = false; first = r.later }
  run_behind zero r = refl
  run_behind (suc k) r = run_behind k (onward part r)

  -- one step more
  after_more : (k : ℕ) (r : Run) → after part r (suc (suc k)) ≡ step part (after part r (suc k)) r.later
  after_more zero r = refl
  after_more (suc k) r = after_more k (onward part r)

  -- what stops the run at a boundary behind its first step
  stop_behind : (k : ℕ) (r : Run) (later : List ℕ) (comparators : List (Option ℕ)) → r.later ≡ later → r.stops ≡ [] →
      r.comparators ≡ comparators → stop_after part r (suc k) ≡ stop part (after part r (suc k)) later [] comparators
  stop_behind k r later comparators l s c =
      ap (λ (q : Run). stop_here part q) (run_behind k r) ∙
      ap (λ (ws : List ℕ). stop part (after part r (suc k)) ws r.stops r.comparators) l ∙
      ap (λ (xs : List ℕ). stop part (after part r (suc k)) later xs r.comparators) s ∙
      ap (λ (cs : List (Option ℕ)). stop part (after part r (suc k)) later [] cs) c

  module _ (k m : ℕ) (count : suc k ≡ m) (r : Run) (core next : Kept) (later : List ℕ) (comparators : List (Option ℕ)) (told : Bool)
      (left : ℕ) (l : r.later ≡ later) (s : r.stops ≡ []) (c : r.comparators ≡ comparators) (quiet : natural_end part r k ≡ None)
      (at : core ≡ kept part (after part r (suc k))) where
    abbrev Makes : Option Turn → Type 0
    Makes turn = (p : Machine) → core ≡ kept part p → Turns part p later comparators told left turn next

    -- the run goes on by a step
    pub goes_on : Makes None → (natural_end part r m ≡ None) × (next ≡ kept part (after part r (suc m)))
    goes_on makes = let made = makes (after part r (suc k)) at in (
      ap (natural_end part r) (sym count) ∙ none_next k r quiet (stop_behind k r later comparators l s c ∙ made.0),
      made.3 ∙ ap (λ (ws : List ℕ). kept part (step part (after part r (suc k)) ws)) (sym l) ∙
          ap (λ (p : Machine). kept part p) (sym (after_more k r)) ∙ ap (λ (n : ℕ). kept part (after part r (suc n))) count,
    )

    -- or comes to a turn
    pub turns : (turn : Turn) → Makes (Some turn) → (next ≡ kept part (after part r (suc k))) × IsTurn part r (suc k) told turn
    turns NotYet makes = let made = makes (after part r (suc k)) at in (made.3, stop_behind k r later comparators l s c ∙ made.0)
    turns (Halted halt) makes = let made = makes (after part r (suc k)) at in (
      made.1,
      ap (λ (o : Option Cause). cause_at o told) (stop_behind k r later comparators l s c) ∙ made.0,
    )

  -- behind k quiet boundaries a run ends at one with a cause
  ends_next : (k n : ℕ) (r : Run) (told : Bool) (cause : Cause) → natural_end part r k ≡ None →
      cause_at (stop_after part r (suc k)) told ≡ Some cause → k < n →
      looked_end part r (looks_made (suc k) told) n ≡ Some (record { steps = suc k; cause = cause })
  ends_next zero zero r told cause h s less = absurd (omega (arith, less))
  ends_next (suc k) zero r told cause h s less = absurd (omega (arith, less))
  ends_next zero (suc n) r told cause h s less = ap (λ (o : Option Cause). natural_by o (looked_end part (onward part r) [] n)) s
  ends_next (suc k) (suc n) r told cause h s less =
      ap (λ (o : Option Cause). natural_by (cause_at o false) (looked_end part (onward part r) (looks_made (suc k) told) n))
      (none_first (stop_here part (onward part r)) (natural_end part (onward part r) k) h) ∙
      ap one_later (ends_next k n (onward part r) told cause
      (none_later (stop_here part (onward part r)) (natural_end part (onward part r) k) h) s (omega (arith, less)))

  -- and through quiet boundaries alone it comes to none
  never_ends : (k : ℕ) (r : Run) → natural_end part r k ≡ None → looked_end part r (looks_made k false) k ≡ None
  never_ends zero r h = refl
  never_ends (suc zero) r h =
      ap (λ (o : Option Cause). natural_by (cause_at o false) None) (none_first (stop_here part (onward part r)) None h)
  never_ends (suc (suc k)) r h =
      ap (λ (o : Option Cause). natural_by (cause_at o false) (looked_end part (onward part r) (looks_made (suc k) false) (suc k)))
      (none_first (stop_here part (onward part r)) (natural_end part (onward part r) (suc k)) h) ∙
      ap one_later (never_ends (suc k) (onward part r)
      (none_later (stop_here part (onward part r)) (natural_end part (onward part r) (suc k)) h))

  -- a turn tells the end that the run comes to
  pub turn_is_end : (turn : Turn) (k n : ℕ) (r : Run) (told : Bool) → natural_end part r k ≡ None → IsTurn part r (suc k) told turn →
      k < n → (turn ≡ NotYet → (suc k ≡ n) × (told ≡ false)) → looked_end part r (looks_made (suc k) told) n ≡ end_of turn (suc k)
  turn_is_end NotYet k n r told h t less spent =
      ap (λ (m : ℕ). looked_end part r (looks_made (suc k) told) m) (sym (spent refl).0) ∙
      ap (λ (b : Bool). looked_end part r (looks_made (suc k) b) (suc k)) (spent refl).1 ∙
      never_ends (suc k) r (none_next k r h t)
  turn_is_end (Halted halt) k n r told h t less spent = ends_next k n r told (cause_of_halt halt) h t less

-- looks are counted modulo 2^64
pub counts_on : (before behind now next : ℕ) → now % 2 ^ 64 ≡ (before + behind) % 2 ^ 64 → next ≡ (now + 1) % 2 ^ 64 →
    (next ≡ (before + suc behind) % 2 ^ 64) × (next % 2 ^ 64 ≡ (before + (behind + 1)) % 2 ^ 64)
counts_on before behind now next h n = (omega (arith, h, n), omega (arith, h, n))

-- and so are those that told something
pub tells_on : (before now next more : ℕ) → now % 2 ^ 64 ≡ before % 2 ^ 64 → next ≡ (now + more) % 2 ^ 64 →
    (next ≡ (before + more) % 2 ^ 64) × (more ≡ 0 → next % 2 ^ 64 ≡ before % 2 ^ 64)
tells_on before now next more h n = (omega (arith, h, n), λ z. omega (arith, h, n, z))
