-- What is said of a debugger once pages were programmed.
use Rattle.std.proofs.Common.{◌≡◌, ℕ, Bool, true, false, List, [], Option, if◌then◌else◌, sym, ap, ◌∙◌, subst}
use Rattle.part_spec.specs.declared.part.Part.{Part}
use Rattle.part_spec.specs.Chip.{Chip, chip_of}
use Rattle.avr_spec.specs.Kept.{Kept}
use Rattle.line_spec.specs.Messages.{okay, refused, response_body}
use Rattle.line_spec.specs.declared.refusal.Refusal.TheVariants.{Failed}
use Rattle.debug_spec.specs.Device.{Device, Tried}
use Rattle.debug_spec.specs.Programming.{Programmed}
use Rattle.debug_spec.specs.Moved.{Flash, asked_of}
use Rattle.debug_spec.specs.Debugger.{Debugger, programming}
use Rattle.debug_spec.specs.MemoryTypes.{programming_told}
use Rattle.debug_spec.specs.Commands.{entered_by}
use Rattle.flash_patch.specs.State.{PlanState}
use Rattle.flash_patch.specs.Asking.{Asks, Programs}
use Rattle.ice_answer.specs.Kept.{ToolState, kept_tool}
use Rattle.ice_answer.specs.Does.{IsAt, at, Sends}
use Rattle.ice_emul.specs.Asking.{DoesAsking}
use Rattle.ice_answer.proofs.Doing.{does-send}

-- the tool once its plan has another program
programmed_tool : (seen tool : ToolState) (plan : PlanState) → seen ≡ tool → plan ≡ record seen.plan { prog = plan.prog } →
    record seen { plan = plan } ≡ record tool { plan = record tool.plan { prog = plan.prog } }
programmed_tool seen tool plan is rest =
    ap (λ (p : PlanState). record seen { plan = p }) rest ∙
    ap (λ (k : ToolState). record k { plan = record k.plan { prog = plan.prog } }) is

module _ {F : Type 0} (flash : Flash F) (number : ℕ) (core : Kept) (comparators : List (Option ℕ)) (sent more : List ℕ) (from to : F) where
  -- pages were programmed, and the frame was answered whether all were
  pub programming_does : (done : Device → Programmed) (change : Chip → Debugger → Debugger) (seen tool : ToolState) (plan : PlanState)
      (ok : Bool) →
      ((part : Part) (s : Debugger) → seen ≡ kept_tool part s → change (chip_of part) s ≡ programming_told number (done s.device) s) →
      seen ≡ tool → plan ≡ record seen.plan { prog = plan.prog } → Programs flash done from ok plan.prog to →
      Sends number (response_body (if ok then okay else refused Failed)) sent more →
      DoesAsking flash change (at tool core comparators sent) from (at (record seen { plan = plan }) core comparators more) to
  programming_does done change seen tool plan ok same is rest programs sends = record {
    asks = programs.asks;
    moved = programs.moved;
    leads = λ part before s left e words answered.
        let d : Device = asked_of s.device (flash.words to) programs.asks left in
        let t : Debugger = record s { prog = plan.prog; device = d } in
        let kept : record seen { plan = plan } ≡ kept_tool part t =
        programmed_tool seen tool plan is rest ∙ ap (λ (k : ToolState). record k { plan = record k.plan { prog = plan.prog } }) e.tool in
        let told = does-send number (response_body (if ok then okay else refused Failed)) sent more (record seen { plan = plan }) core
        comparators
        sends part before t (record { tool = kept; core = e.core; comparators = e.comparators; sent = e.sent }) in
        let after : ToolState = record seen { plan = plan } in
        let P : Debugger → Type 0 = λ u. IsAt part before (at after core comparators more) u × (u.device ≡ d) × (u.launches ≡ s.launches) in
        subst P
        (sym (same part s (is ∙ e.tool) ∙ ap (λ (q : Programmed). programming_told number q s)
        (programs.leads s.device left words answered)))
        (told.0, told.1.device, told.1.launches);
  }

  -- the flash was made the program, and is programmed from then on
  pub entering_made : (does : Device → Tried) (change : Chip → Debugger → Debugger) (tool after : ToolState) →
      ((part : Part) (s : Debugger) → tool ≡ kept_tool part s → change (chip_of part) s ≡ entered_by number (does s.device) s) →
      after ≡ record tool { mode = programming; plan = record tool.plan { soft = [] } } → Asks flash does from true to →
      Sends number (response_body okay) sent more →
      DoesAsking flash change (at tool core comparators sent) from (at after core comparators more) to
  entering_made does change tool after same is asks sends = record {
    asks = asks.asks;
    moved = asks.moved;
    leads = λ part before s left e words answered.
        let d : Device = asked_of s.device (flash.words to) asks.asks left in
        let t : Debugger = record s { mode = programming; soft = []; device = d } in
        let kept : after ≡ kept_tool part t =
        is ∙ ap (λ (k : ToolState). record k { mode = programming; plan = record k.plan { soft = [] } }) e.tool in
        let told = does-send number (response_body okay) sent more after core comparators sends part before t
        (record { tool = kept; core = e.core; comparators = e.comparators; sent = e.sent }) in
        let P : Debugger → Type 0 = λ u. IsAt part before (at after core comparators more) u × (u.device ≡ d) × (u.launches ≡ s.launches) in
        subst P
        (sym (same part s e.tool ∙ ap (λ (q : Tried). entered_by number q s) (asks.leads s.device left words answered)))
        (told.0, told.1.device, told.1.launches);
  }

  -- a page write failed
  pub entering_failed : (does : Device → Tried) (change : Chip → Debugger → Debugger) (tool after : ToolState) →
      ((part : Part) (s : Debugger) → tool ≡ kept_tool part s → change (chip_of part) s ≡ entered_by number (does s.device) s) →
      after ≡ tool → Asks flash does from false to → Sends number (response_body (refused Failed)) sent more →
      DoesAsking flash change (at tool core comparators sent) from (at after core comparators more) to
  entering_failed does change tool after same is asks sends = record {
    asks = asks.asks;
    moved = asks.moved;
    leads = λ part before s left e words answered.
        let d : Device = asked_of s.device (flash.words to) asks.asks left in
        let t : Debugger = record s { device = d } in
        let told = does-send number (response_body (refused Failed)) sent more after core comparators sends part before t
        (record { tool = is ∙ e.tool; core = e.core; comparators = e.comparators; sent = e.sent }) in
        let P : Debugger → Type 0 = λ u. IsAt part before (at after core comparators more) u × (u.device ≡ d) × (u.launches ≡ s.launches) in
        subst P
        (sym (same part s e.tool ∙ ap (λ (q : Tried). entered_by number q s) (asks.leads s.device left words answered)))
        (told.0, told.1.device, told.1.launches);
  }
