-- What the code of the debugger is at any moment stays so.
use Rattle.std.proofs.Common.{◌≡◌, ◌⊎◌, inl, inr, ℕ, Bool, true, false, [], None, refl, sym, ap, ◌∙◌}
use Rattle.part_spec.specs.Chip.{chip_of}
use Rattle.debug_spec.specs.Debugger.{Mode, stopped, launching, running, programming, leaving, closed}
use Rattle.debug_spec.specs.Take.{goes_on}
use Rattle.flash_patch.specs.State.{PlanState}
use Rattle.ice_answer.specs.Kept.{ToolState, prepared_number, dropping_held}
use Rattle.ice_verify.specs.declared.plain.Plain.{Plain}
use Rattle.ice_verify.specs.Standing.{IsReady}

-- where only breakpoints change, and the flash is not programmed
pub ready_plan : (p : Plain) (tool : ToolState) (comparators : _) → tool ≡ record p.tool { plan = tool.plan } →
    tool.plan ≡ record p.tool.plan { soft = tool.plan.soft } → (p.tool.mode ≡ programming → ⊥) → IsReady p →
    IsReady (record p { tool = tool; comparators = comparators })
ready_plan p tool comparators rest plan away h = record {
  words = h.words ∙ ap (λ (k : PlanState). record { part = k.part; words = k.prog }) (sym plan);
  core = h.core ∙ ap (λ (k : PlanState). chip_of k.part) (sym plan);
  soft = λ m. absurd (away (ap (λ (k : ToolState). k.mode) (sym rest) ∙ m));
}

-- where the tool alone changes, and the plan stays
pub ready_tool : (p q : Plain) → q ≡ record p { tool = q.tool } → q.tool.plan ≡ p.tool.plan → (q.tool.mode ≡ programming → q.tool.plan.soft ≡ []) →
    IsReady p → IsReady q
ready_tool p q rest plan soft h = record {
  words = ap (λ (k : Plain). k.words) rest ∙ h.words ∙ ap (λ (k : PlanState). record { part = k.part; words = k.prog }) (sym plan);
  core = ap (λ (k : Plain). k.core.part) rest ∙ h.core ∙ ap (λ (k : PlanState). chip_of k.part) (sym plan);
  soft = soft;
}

-- a session that is over prepares no run, and programs nothing
pub over_calm : (m : Mode) → goes_on m ≡ false → prepared_number m ≡ None
over_calm stopped h = refl
over_calm (launching number) h = cc
over_calm running h = refl
over_calm programming h = refl
over_calm leaving h = refl
over_calm (closed restored) h = refl

pub over_home : (m : Mode) → goes_on m ≡ false → m ≡ programming → ⊥
over_home m h is = apart (sym h ∙ ap goes_on is)
  where
    apart : false ≡ true → ⊥
    apart k = cc

-- nor does one whose run has ended
pub idle_home : (m : Mode) → (m ≡ stopped) ⊎ (m ≡ closed true) → m ≡ programming → ⊥
idle_home m (inl h) is = apart (sym h ∙ is)
  where
    apart : stopped ≡ programming → ⊥
    apart k = cc
idle_home m (inr h) is = apart (sym h ∙ is)
  where
    apart : closed true ≡ programming → ⊥
    apart k = cc

-- bytes that are dropped leave the mode and the plan
pub dropping_mode : (b : Bool) (count : ℕ) (tool : ToolState) → (dropping_held b count tool).mode ≡ tool.mode
dropping_mode true count tool = refl
dropping_mode false count tool = refl

pub dropping_plan : (b : Bool) (count : ℕ) (tool : ToolState) → (dropping_held b count tool).plan ≡ tool.plan
dropping_plan true count tool = refl
dropping_plan false count tool = refl

-- where the target alone moves
pub ready_core : (p q : Plain) → q ≡ record p { core = q.core } → q.core.part ≡ p.core.part → IsReady p → IsReady q
ready_core p q rest part h = record {
  words = ap (λ (k : Plain). k.words) rest ∙ h.words ∙
      ap (λ (k : Plain). record { part = k.tool.plan.part; words = k.tool.plan.prog }) (sym rest);
  core = part ∙ h.core ∙ ap (λ (k : Plain). chip_of k.tool.plan.part) (sym rest);
  soft = λ m. ap (λ (k : Plain). k.tool.plan.soft) rest ∙ h.soft (sym (ap (λ (k : Plain). k.tool.mode) rest) ∙ m);
}
