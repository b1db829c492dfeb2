use Rattle.std.proofs.Common.{◌≡◌, true, ap, ◌∙◌, sym, subst}
use Rattle.part_spec.specs.Chip.{chip_of}
use Rattle.line_spec.specs.Messages.{okay, response_body}
use Rattle.debug_spec.specs.Debugger.{Debugger, replied}
use Rattle.debug_spec.specs.Running.{restored, left}
use Rattle.ice_answer.specs.Kept.{ToolState, takes_requests}
use Rattle.ice_answer.specs.Does.{IsAt}
use Rattle.ice_verify.specs.Well.{IsGood}
use Rattle.ice_verify.specs.Standing.{at_of}
use Rattle.ice_verify.specs.declared.plain.Plain.{Plain}
use Rattle.ice_verify.proofs.DoingWell.{closed_well, sent_well, left_at_home, well_in_words}
use Rattle.ice_verify.proofs.plain.Plain.sign_off.Goals as goal

pub returns-clause-does : goal.returns-clause-does
returns-clause-does c = λ part before s e good.
    let p = c.args.self.now in
    let t : Debugger = replied c.args.number okay s in
    let sent = sent_well c.args.number (response_body okay) c.args.out.now.items c.okay.new.out.items p.tool p.core p.comparators c.okay.ensures.sends
    part before s e good in
    let home : takes_requests s.mode ≡ true = ap (λ (k : ToolState). takes_requests k.mode) (sym e.tool) ∙ c.requires.rests in
    let closes = closed_well p.tool p.core p.comparators c.okay.new.out.items part before t sent.0 sent.1 in
    well_in_words part before (at_of c.close.new.self c.okay.new.out.items) (restored (chip_of part) t) (left (chip_of part) t)
    (left_at_home (chip_of part) s.mode t home)
    (subst (λ (q : Plain). IsAt part before (at_of q c.okay.new.out.items) (restored (chip_of part) t) × IsGood (restored (chip_of part) t))
    (sym c.close.ensures) closes)
