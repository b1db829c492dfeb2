use Rattle.std.proofs.Common.{◌≡◌, true, false, None, sym, ap, ◌∙◌, subst}
use Rattle.part_spec.specs.Chip.{chip_of}
use Rattle.debug_spec.specs.Stop.{Cause}
use Rattle.debug_spec.specs.Debugger.{Debugger, listens, told, stopped}
use Rattle.debug_spec.specs.Running.{stopped_at, restored, run_ended}
use Rattle.ice_answer.specs.Kept.{ToolState}
use Rattle.ice_answer.specs.Values.{why_of}
use Rattle.ice_answer.specs.Does.{IsAt}
use Rattle.ice_verify.specs.Well.{IsGood}
use Rattle.ice_verify.specs.Standing.{at_of}
use Rattle.ice_verify.specs.declared.plain.Plain.{Plain}
use Rattle.ice_verify.proofs.DoingWell.{closed_well, well_in_words, tool_well}
use Rattle.ice_verify.proofs.Ending.{ended_running, ended_leaving, told_well}
use Rattle.ice_verify.proofs.plain.Plain.end_run.Goals as goal

pub returns-then-listens-clause-ends : goal.returns-then-listens-clause-ends
returns-then-listens-clause-ends c = λ part sent s end out is e good.
    let p = c.args.self.now in
    let t : Debugger = record (stopped_at false (chip_of part) end s) { mode = stopped; run_to = None } in
    let on : listens s.mode ≡ true = ap (λ (k : ToolState). listens k.mode) (sym e.tool) ∙ sym c.listens.ensures ∙ c.if-listens.true in
    let tells = told_well (why_of c.args.cause) c.pc.result p.tool p.core p.comparators c.args.out.now.items c.tell.new.out.items c.pc.ensures.pc
    c.tell.ensures part sent (stopped_at false (chip_of part) end s) e good in
    well_in_words part sent (at_of (record p { tool = c.stay.new.self }) c.tell.new.out.items) (told (why_of c.args.cause) t)
    (run_ended false (chip_of part) end s)
    (ap (λ (k : Cause). told k t) (sym is) ∙ ended_running (chip_of part) s.mode end s on out)
    (tool_well _ c.stay.new.self p.core p.comparators c.tell.new.out.items sent part (told (why_of c.args.cause) t) c.stay.ensures tells)

pub returns-clause-ends : goal.returns-clause-ends
returns-clause-ends c = λ part sent s end out is e good.
    let p = c.args.self.now in
    let t = stopped_at false (chip_of part) end s in
    let off : listens s.mode ≡ false = ap (λ (k : ToolState). listens k.mode) (sym e.tool) ∙ sym c.listens.ensures ∙ c.if-listens.false in
    let closes = closed_well p.tool p.core p.comparators c.args.out.now.items part sent t e good in
    well_in_words part sent (at_of c.close.new.self c.args.out.now.items) (restored (chip_of part) t) (run_ended false (chip_of part) end s)
    (ended_leaving (chip_of part) s.mode end s off out)
    (subst (λ (q : Plain). IsAt part sent (at_of q c.args.out.now.items) (restored (chip_of part) t) × IsGood (restored (chip_of part) t))
    (sym c.close.ensures) closes)
