use Rattle.std.proofs.Common.{◌∙◌, None, refl, sym}
use Rattle.flash_patch.specs.Asking.{seen}
use Rattle.part_spec.specs.Chip.{chip_of}
use Rattle.ice_emul.specs.Coming.{EndsBy}
use Rattle.ice_answer.specs.Values.{why_of}
use Rattle.ice_emul.proofs.LineEnds.{closed_stands, closed_rose}
use Rattle.ice_emul.proofs.Halting.{told_by, closed_by, may_come, halted_so, launched_out, MayEndThere, closed_over}
use Rattle.ice_emul.proofs.emulator.Emulator.halt.Goals as goal

pub returns-then-not-listens-clause-ends : goal.returns-then-not-listens-clause-ends
returns-then-not-listens-clause-ends g c = λ job is ends.
    let flash = seen g.F.Flash.words g.F.Flash.journal g.F.Flash.faults g.F.Flash.writes in
    let e = c.args.self.now in
    let came = may_come flash g.F.Flash.part e job c.args.done (launched_out flash g.F.Flash.part e job c.requires.sound c.requires.out is)
    ends.ends ends.asked in
    halted_so flash g.F.Flash.part e job came.0 c.args.out.now.items c.closed.result _
    (closed_by flash g.F.Flash.part e job c.args.done c.requires.out (MayEndThere e) came.0 came.1
    c.close.new.job c.close.new.tool c.args.out.now.items c.closed.result (sym c.listens.ensures ∙ c.if-not-listens.true)
    c.requires.empty (c.close.ensures.asks c.args.out.now.items) c.close.ensures.rest c.close.ensures.closed c.closed.ensures)

pub returns-clause-ends : goal.returns-clause-ends
returns-clause-ends g c = λ job is ends.
    let flash = seen g.F.Flash.words g.F.Flash.journal g.F.Flash.faults g.F.Flash.writes in
    let e = c.args.self.now in
    let came = may_come flash g.F.Flash.part e job c.args.done (launched_out flash g.F.Flash.part e job c.requires.sound c.requires.out is)
    ends.ends ends.asked in
    halted_so flash g.F.Flash.part e job came.0 c.tell.new.out.items _ _
    (told_by flash g.F.Flash.part e job c.args.done c.requires.out (MayEndThere e) came.0 came.1
    (record c.args.done.job { replant = None }) c.stay.new.self c.args.out.now.items c.tell.new.out.items
    c.pc-pc.result (why_of c.cause_of-cause.result) (sym c.listens.ensures ∙ c.if-not-listens.false)
    c.requires.empty c.pc-pc.ensures.pc c.cause_of-cause.ensures c.tell.ensures c.stay.ensures refl)

pub returns-then-not-listens-clause-halts : goal.returns-then-not-listens-clause-halts
returns-then-not-listens-clause-halts g c = λ job number by_itself asks is came.
    let flash = seen g.F.Flash.words g.F.Flash.journal g.F.Flash.faults g.F.Flash.writes in
    let e = c.args.self.now in
    closed_by flash g.F.Flash.part e job c.args.done c.requires.out (EndsBy number by_itself (chip_of e.tool.plan.part)) asks came
    c.close.new.job c.close.new.tool c.args.out.now.items c.closed.result (sym c.listens.ensures ∙ c.if-not-listens.true)
    c.requires.empty (c.close.ensures.asks c.args.out.now.items) c.close.ensures.rest c.close.ensures.closed c.closed.ensures

pub returns-clause-halts : goal.returns-clause-halts
returns-clause-halts g c = λ job number by_itself asks is came.
    let flash = seen g.F.Flash.words g.F.Flash.journal g.F.Flash.faults g.F.Flash.writes in
    let e = c.args.self.now in
    told_by flash g.F.Flash.part e job c.args.done c.requires.out (EndsBy number by_itself (chip_of e.tool.plan.part)) asks came
    (record c.args.done.job { replant = None }) c.stay.new.self c.args.out.now.items c.tell.new.out.items
    c.pc-pc.result (why_of c.cause_of-cause.result) (sym c.listens.ensures ∙ c.if-not-listens.false)
    c.requires.empty c.pc-pc.ensures.pc c.cause_of-cause.ensures c.tell.ensures c.stay.ensures refl

pub returns-then-not-listens-clause-stands : goal.returns-then-not-listens-clause-stands
returns-then-not-listens-clause-stands g c =
    closed_stands (seen g.F.Flash.words g.F.Flash.journal g.F.Flash.faults g.F.Flash.writes) g.F.Flash.part c.args.self.now _
    c.closed.result c.close.ensures.closed.0 c.close.ensures.closed.1 (c.closed.ensures c.close.ensures.closed.0 c.close.ensures.closed.1)

pub returns-then-not-listens-clause-cause : goal.returns-then-not-listens-clause-cause
returns-then-not-listens-clause-cause g c =
    closed_rose (seen g.F.Flash.words g.F.Flash.journal g.F.Flash.faults g.F.Flash.writes) g.F.Flash.part c.closed.result c.close.new.tool.mode
    c.args.done.job.flash c.close.new.job.flash c.close.ensures.closed.0 c.close.ensures.closed.1
    (c.closed.ensures c.close.ensures.closed.0 c.close.ensures.closed.1) c.close.ensures.cause

pub returns-then-not-listens-clause-over : goal.returns-then-not-listens-clause-over
returns-then-not-listens-clause-over g c =
    closed_over c.close.ensures.closed.0 c.closed.result _ _ c.close.ensures.closed.1
    (c.closed.ensures c.close.ensures.closed.0 c.close.ensures.closed.1)
