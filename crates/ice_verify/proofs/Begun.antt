-- A verifier at the beginning of a record.
use Rattle.std.proofs.Common.{◌≡◌, ℕ, Bool, true, false, List, [], None, replicate, refl, sym, ap, ◌∙◌}
use Rattle.part_spec.specs.declared.part.Part.{Part}
use Rattle.part_spec.specs.Chip.{chip_of}
use Rattle.avr_spec.specs.Machine.{machine_start}
use Rattle.avr_spec.specs.Kept.{kept}
use Rattle.line_spec.specs.Parameters.{parameters_at_start}
use Rattle.ice_recv.specs.Received.{Received}
use Rattle.debug_spec.specs.Debugger.{stopped}
use Rattle.flash_patch.specs.State.{PlanState}
use Rattle.record_spec.specs.Fits.{beginning, good_device}
use Rattle.ice_answer.specs.Kept.{ToolState}
use Rattle.ice_verify.specs.Checking.{StandsAt, owed_by}
use Rattle.ice_verify.specs.declared.verifier.Verifier.{Verifier}
use Rattle.ice_verify.proofs.Good.{synced_made}

-- the tool of a plan
abbrev pub tool_at_start : PlanState → ToolState
tool_at_start plan =
    record { mode = stopped; plan = plan; run_to = None; parameters = parameters_at_start; dropped = 0; stop_asked = false }

plan_is : (part : Part) (prog : List ℕ) (plan : PlanState) → plan.part ≡ part → plan.prog ≡ prog → plan.soft ≡ [] →
    plan ≡ record { part = part; prog = prog; soft = [] }
plan_is part prog plan own program soft =
    ap (λ (k : Part). record plan { part = k }) own ∙ ap (λ (k : List ℕ). record plan { part = part; prog = k }) program ∙
    ap (λ (k : List ℕ). record plan { part = part; prog = prog; soft = k }) soft

pub begun : (part : Part) (prog : List ℕ) (plan : PlanState) (v : Verifier) → plan.part ≡ part → plan.prog ≡ prog → plan.soft ≡ [] →
    v.plain.tool ≡ tool_at_start plan → v.plain.core ≡ kept (chip_of part) (machine_start (chip_of part)) → v.plain.comparators ≡ replicate 4 None →
    v.receiver ≡ record { held = []; dropped = 0 } → v.owes ≡ false → v.steps ≡ 0 → StandsAt part v (beginning (chip_of part) prog)
begun part prog plan v own program soft tool core comparators held owes steps = record {
  stands = record {
    tool = tool ∙ ap tool_at_start (plan_is part prog plan own program soft);
    core = core;
    comparators = comparators;
    held = sym (ap (λ (r : Received). r.held) held);
    good = (synced_made (chip_of part) prog (good_device prog) refl).good;
    owed = nothing v.owes v.sent.items owes;
  };
  steps = steps;
}
  where
    nothing : (b : Bool) (sent : List ℕ) → b ≡ false → None ≡ owed_by b sent
    nothing true sent h = cc
    nothing false sent h = refl
