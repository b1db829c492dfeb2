use Rattle.std.proofs.Common.{ℕ, List, false, sym, subst}
use Rattle.part_spec.specs.Chip.{chip_of}
use Rattle.avr_spec.specs.Step.{ahead}
use Rattle.debug_spec.specs.Run.{is_undefined}
use Rattle.debug_spec.specs.Running.{single_stepped}
use Rattle.ice_answer.specs.Values.{why_of}
use Rattle.ice_answer.specs.Does.{IsAt}
use Rattle.ice_verify.specs.Well.{IsGood}
use Rattle.ice_verify.specs.Standing.{at_of}
use Rattle.ice_verify.specs.Going.{SteppedBy}
use Rattle.ice_verify.specs.declared.plain.Plain.{Plain}
use Rattle.ice_verify.proofs.RunsTo.{words_are}
use Rattle.ice_verify.proofs.DoingWell.{single_well}
use Rattle.ice_verify.proofs.plain.Plain.single_step.Goals as goal

pub returns-clause-does : goal.returns-clause-does
returns-clause-does c = λ part before s e good.
    let words = words_are c.args.self.now part c.args.out.now.items before s c.requires.ready e in
    let t = single_stepped false (chip_of part) c.args.number s in
    subst (λ (p : Plain). IsAt part before (at_of p c.tell.new.out.items) t × IsGood t) (sym c.single-cause.ensures.rest)
    (single_well c.args.number (why_of c.single-cause.result) c.pc.result c.args.self.now.tool c.args.self.now.core c.single-cause.new.self.core
    c.args.self.now.comparators c.args.out.now.items c.okay.new.out.items c.tell.new.out.items c.pc.ensures.pc c.okay.ensures.sends c.tell.ensures
    part before s e good
    (subst (λ (ws : List ℕ). SteppedBy (is_undefined (ahead (chip_of part) s.machine ws)) (chip_of part) s.machine ws (why_of c.single-cause.result)
    c.single-cause.new.self.core) words (c.single-cause.ensures.steps (chip_of part) s.machine e.core)))
