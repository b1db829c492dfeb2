-- Breakpoints, set and cleared.
use Rattle.std.proofs.Common.{◌≡◌, Bool, true, false, not, ◌&&◌, ◌||◌, nat_lt, ℕ, suc, List, Option, Some, None, if◌then◌else◌, refl, sym, ap, ◌∙◌}
use Rattle.std.specs.Prelude.{slice_get, slice_set, length}
use Rattle.part_spec.specs.declared.part.Part.{Part}
use Rattle.part_spec.specs.Chip.{chip_of, words_of}
use Rattle.avr_spec.specs.Decode.{two_word, is_skip}
use Rattle.avr_spec.specs.Step.{word_at}
use Rattle.avr_spec.specs.Kept.{Kept}
use Rattle.line_spec.specs.Messages.{okay, refused, response_body}
use Rattle.line_spec.specs.declared.refusal.Refusal.TheVariants.{IllegalBreakpoint}
use Rattle.debug_spec.specs.Patch.{has, before as address_before}
use Rattle.debug_spec.specs.Debugger.{Debugger, replied}
use Rattle.debug_spec.specs.Breakpoints.{inserted, may_set, set_numbered, break_cleared, no_breakpoint, is_set, soft_limit}
use Rattle.flash_patch.specs.State.{PlanState}
use Rattle.flash_patch.specs.Setting.{refusal}
use Rattle.flash_patch.specs.declared.plan.Refused.{Refused}
use Rattle.flash_patch.specs.declared.plan.Refused.TheVariants.{Range, AfterSkip, Full}
use Rattle.ice_answer.specs.Kept.{ToolState, kept_tool}
use Rattle.ice_answer.specs.Does.{at, Does, Sends}
use Rattle.ice_answer.proofs.Doing.{changed_then_sent, in_words, yes_if, no_if}

abbrev refusal_by : (low plain room : Bool) → Option Refused
refusal_by low plain room = if low then (if (low && plain) then (if room then None else Some Full) else Some AfterSkip) else Some Range

none_may : (low plain room : Bool) → refusal_by low plain room ≡ None → ((low && plain) && room) ≡ true
none_may true true true h = refl
none_may true true false h = cc
none_may true false room h = cc
none_may false plain room h = cc

some_may_not : (low plain room : Bool) (r : Refused) → refusal_by low plain room ≡ Some r → ((low && plain) && room) ≡ false
some_may_not true true true r h = cc
some_may_not true true false r h = refl
some_may_not true false room r h = refl
some_may_not false plain room r h = refl

module _ (tool : ToolState) (part : Part) (s : Debugger) (address : ℕ) (e : tool ≡ kept_tool part s) where
  abbrev low : Bool
  low = nat_lt address (words_of (chip_of part))

  abbrev plain : Bool
  plain = not (two_word (word_at s.prog address) && is_skip (word_at s.prog (address_before (chip_of part) address)))

  abbrev room : Bool
  room = has s.soft address || nat_lt (length s.soft) soft_limit

  pub may : refusal tool.plan address ≡ None → may_set (chip_of part) s address ≡ true
  may h = none_may low plain room (ap (λ (k : ToolState). refusal k.plan address) (sym e) ∙ h)

  pub may_not : (r : Refused) → refusal tool.plan address ≡ Some r → may_set (chip_of part) s address ≡ false
  may_not r h = some_may_not low plain room r (ap (λ (k : ToolState). refusal k.plan address) (sym e) ∙ h)

module _ (tool : ToolState) (core : Kept) (comparators : List (Option ℕ)) (frame address : ℕ) (out more : List ℕ) where
  -- a software breakpoint is set
  pub soft_set : (plan : PlanState) → refusal tool.plan address ≡ None → plan ≡ record tool.plan { soft = inserted address tool.plan.soft } →
      Sends frame (response_body okay) out more →
      Does (λ part. set_numbered part frame 0 address) (at tool core comparators out) (at (record tool { plan = plan }) core comparators more)
  soft_set plan fits is sends = λ part before s e.
      let t : Debugger = record s { soft = inserted address s.soft } in
      in_words part before (at (record tool { plan = plan }) core comparators more) s (replied frame okay t)
      (set_numbered (chip_of part) frame 0 address s)
      (yes_if (may_set (chip_of part) s address) (replied frame okay t) (no_breakpoint frame s) (may tool part s address e.tool fits))
      (changed_then_sent frame (response_body okay) out more (record tool { plan = plan }) core comparators sends part before s t
      (record {
        tool = ap (λ (p : PlanState). record tool { plan = p }) is ∙
            ap (λ (k : ToolState). record k { plan = record k.plan { soft = inserted address k.plan.soft } }) e.tool;
        core = e.core;
        comparators = e.comparators;
        sent = e.sent;
      }) (record { device = refl; launches = refl }))

  -- it is not
  pub soft_refused : (plan : PlanState) (r : Refused) → refusal tool.plan address ≡ Some r → plan ≡ tool.plan →
      Sends frame (response_body (refused IllegalBreakpoint)) out more →
      Does (λ part. set_numbered part frame 0 address) (at tool core comparators out) (at (record tool { plan = plan }) core comparators more)
  soft_refused plan r fits is sends = λ part before s e.
      in_words part before (at (record tool { plan = plan }) core comparators more) s (no_breakpoint frame s) (set_numbered (chip_of part) frame 0 address s)
      (no_if (may_set (chip_of part) s address) (replied frame okay (record s { soft = inserted address s.soft })) (no_breakpoint frame s)
      (may_not tool part s address e.tool r fits))
      (changed_then_sent frame (response_body (refused IllegalBreakpoint)) out more (record tool { plan = plan }) core comparators sends part
      before s s
      (record {
        tool = ap (λ (p : PlanState). record tool { plan = p }) is ∙ e.tool;
        core = e.core;
        comparators = e.comparators;
        sent = e.sent;
      }) (record { device = refl; launches = refl }))

  -- a comparator is cleared
  pub comparator_cleared : (index : ℕ) → is_set (slice_get comparators index) ≡ true → Sends frame (response_body okay) out more →
      Does (λ part. break_cleared frame (suc index) address) (at tool core comparators out) (at tool core (slice_set comparators index None) more)
  comparator_cleared index there sends = λ part before s e.
      let t : Debugger = record s { comparators = slice_set s.comparators index None } in
      in_words part before (at tool core (slice_set comparators index None) more) s (replied frame okay t)
      (break_cleared frame (suc index) address s)
      (yes_if (is_set (slice_get s.comparators index)) (replied frame okay t) (no_breakpoint frame s)
      (ap (λ (cs : List (Option ℕ)). is_set (slice_get cs index)) (sym e.comparators) ∙ there))
      (changed_then_sent frame (response_body okay) out more tool core (slice_set comparators index None) sends part before s t
      (record {
        tool = e.tool;
        core = e.core;
        comparators = ap (λ (cs : List (Option ℕ)). slice_set cs index None) e.comparators;
        sent = e.sent;
      }) (record { device = refl; launches = refl }))

  -- there is none that is set
  pub comparator_not_there : (index : ℕ) → is_set (slice_get comparators index) ≡ false →
      Sends frame (response_body (refused IllegalBreakpoint)) out more →
      Does (λ part. break_cleared frame (suc index) address) (at tool core comparators out) (at tool core comparators more)
  comparator_not_there index there sends = λ part before s e.
      in_words part before (at tool core comparators more) s (no_breakpoint frame s) (break_cleared frame (suc index) address s)
      (no_if (is_set (slice_get s.comparators index)) (replied frame okay (record s { comparators = slice_set s.comparators index None }))
      (no_breakpoint frame s) (ap (λ (cs : List (Option ℕ)). is_set (slice_get cs index)) (sym e.comparators) ∙ there))
      (changed_then_sent frame (response_body (refused IllegalBreakpoint)) out more tool core comparators sends part before s s e
      (record { device = refl; launches = refl }))
