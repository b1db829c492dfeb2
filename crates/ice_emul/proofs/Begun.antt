-- A session begins.
use Rattle.std.proofs.Common.{◌≡◌, ℕ, true, false, List, [], Some, None, refl, sym, ap, ◌∙◌, subst}
use Rattle.std.specs.Prelude.{length, replicate}
use Rattle.part_spec.specs.declared.part.Part.{Part}
use Rattle.part_spec.specs.Chip.{chip_of, words_of}
use Rattle.avr_spec.specs.Machine.{machine_start}
use Rattle.avr_spec.specs.Kept.{Kept, kept}
use Rattle.line_spec.specs.Parameters.{parameters_at_start}
use Rattle.ice_recv.specs.Received.{Received}
use Rattle.debug_spec.specs.Device.{Device, Tried, synced}
use Rattle.debug_spec.specs.Moved.{Flash, asked_of}
use Rattle.debug_spec.specs.SessionLaws.{IsFit}
use Rattle.debug_spec.specs.Debugger.{stopped, opened}
use Rattle.debug_spec.specs.Opening.{IsOpened}
use Rattle.debug_spec.proofs.Moving.{opened_is_sound}
use Rattle.flash_patch.specs.State.{PlanState}
use Rattle.flash_patch.specs.Asking.{Asks}
use Rattle.run_control.specs.declared.job.Job.{Job}
use Rattle.ice_answer.specs.Kept.{ToolState}
use Rattle.ice_emul.specs.Standing.{held, StandsFor}
use Rattle.ice_emul.specs.Session.{Begins}

module _ {F : Type 0} (flash : Flash F) (part_of : F → Part) (prog : List ℕ) (from to : F) (part : Part) (is_part : part ≡ part_of from)
    (receiver : Received) (core : Kept) (receiver_is : receiver ≡ record { held = []; dropped = 0 })
    (core_is : core ≡ kept (chip_of part) (machine_start (chip_of part))) (size : length prog ≡ words_of (chip_of part))
    (asks : Asks flash (synced (chip_of part) prog) from true to) (words : flash.words to ≡ prog) where
  abbrev tool : ToolState
  tool = record {
    mode = stopped;
    plan = record { part = part; prog = prog; soft = [] };
    run_to = None;
    parameters = parameters_at_start;
    dropped = 0;
    stop_asked = false;
  }

  abbrev own : Job F
  own = record { core = core; flash = to; comparators = replicate 4 None; replant = None; fresh = true }

  pub begun : Begins flash part_of prog from (record { receiver = receiver; tool = tool; target = Some own })
  begun = record {
    own = own;
    there = refl;
    mode = refl;
    received = receiver_is;
    part = is_part;
    words = words;
    asks = asks.asks;
    moved = asks.moved;
    leads = λ d left fit same answered.
        let P : Part → Type 0 = λ p. StandsFor flash (held (record { receiver = receiver; tool = tool; target = Some own }) own)
        (record { held = []; state = opened (chip_of p) prog d }) × ((opened (chip_of p) prog d).device ≡ asked_of d (flash.words to) asks.asks left) in
        let device : (synced (chip_of part) prog d).device ≡ asked_of d (flash.words to) asks.asks left =
        ap (λ (t : Tried). t.device) (asks.leads d left same answered) in
        let fits : IsFit (chip_of part) d = subst (λ (p : Part). IsFit (chip_of p) d) (sym is_part) fit in
        subst P is_part (
          record {
            tool = refl;
            core = core_is;
            comparators = refl;
            words = ap (λ (e : Device). e.words) (sym device);
            held = sym (ap (λ (r : Received). r.held) receiver_is);
            sound = (opened_is_sound (chip_of part) prog d size fits).0;
          },
          device,
        );
    opens = λ d left same answered.
        subst (λ (p : Part). IsOpened (chip_of p) prog d) is_part (ap (λ (t : Tried). t.ok) (asks.leads d left same answered));
  }

-- the same, by the plan and the tool that were made
pub begun_by : {F : Type 0} (flash : Flash F) (part_of : F → Part) (prog : List ℕ) (from to : F) (part : Part) → part ≡ part_of from →
    (receiver : Received) (core : Kept) → receiver ≡ record { held = []; dropped = 0 } →
    core ≡ kept (chip_of part) (machine_start (chip_of part)) → length prog ≡ words_of (chip_of part) →
    (plan : PlanState) (made : ToolState) → plan ≡ record { part = part; prog = prog; soft = [] } →
    made ≡ record { mode = stopped; plan = plan; run_to = None; parameters = parameters_at_start; dropped = 0; stop_asked = false } →
    Asks flash (synced (chip_of plan.part) plan.prog) from true to → flash.words to ≡ plan.prog →
    Begins flash part_of prog from (record { receiver = receiver; tool = made; target = Some (record { core = core; flash = to; comparators = replicate 4 None; replant = None; fresh = true }) })
begun_by {F} flash part_of prog from to part is_part receiver core receiver_is core_is size plan made plan_is made_is asks words =
    let start : PlanState → ToolState = λ p. record {
      mode = stopped;
      plan = p;
      run_to = None;
      parameters = parameters_at_start;
      dropped = 0;
      stop_asked = false;
    } in
    subst (λ (k : ToolState). Begins flash part_of prog from
    (record { receiver = receiver; tool = k; target = Some (record { core = core; flash = to; comparators = replicate 4 None; replant = None; fresh = true }) }))
    (sym (made_is ∙ ap start plan_is))
    (begun flash part_of prog from to part is_part receiver core receiver_is core_is size
    (subst (λ (p : PlanState). Asks flash (synced (chip_of p.part) p.prog) from true to) plan_is asks)
    (words ∙ ap (λ (p : PlanState). p.prog) plan_is))
