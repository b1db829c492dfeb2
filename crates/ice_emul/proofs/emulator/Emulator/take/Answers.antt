use Rattle.std.proofs.Common.{◌≡◌, sym, refl, subst, List, ℕ}
use Rattle.part_spec.specs.Chip.{chip_of}
use Rattle.debug_spec.specs.Schedule.{line_ended}
use Rattle.flash_patch.specs.Asking.{seen}
use Rattle.ice_emul.specs.Coming.{IsOverThen, TakesEnd}
use Rattle.ice_emul.specs.Taking.{DoesCall, TakesInput}
use Rattle.ice_emul.specs.declared.emulator.Input.{Input}
use Rattle.ice_emul.proofs.LineEnds.{ended_some, over_some}
use Rattle.ice_emul.proofs.emulator.Emulator.take.Goals as goal

pub returns-in-LineEnd-clause-takes : goal.returns-in-LineEnd-clause-takes
returns-in-LineEnd-clause-takes g c = λ job is.
    let flash = seen g.F.Flash.words g.F.Flash.journal g.F.Flash.faults g.F.Flash.writes in
    let e = c.args.self.now in
    subst (λ (i : Input g.row.F.Denot). TakesInput flash g.F.Flash.part e job i c.args.out.now.items
    (record { used = 0; next = c.end_line.result }) c.end_line.new.self) (sym c.in-LineEnd.is) (
      refl,
      subst (λ (sent : List ℕ). DoesCall flash g.F.Flash.part (λ s t. t ≡ line_ended (chip_of e.tool.plan.part) s) e job sent
          c.end_line.result c.end_line.new.self) (sym c.requires.empty) (c.end_line.ensures.ends job is),
    )

pub returns-in-Halted-clause-takes : goal.returns-in-Halted-clause-takes
returns-in-Halted-clause-takes g c = λ job is.
    let flash = seen g.F.Flash.words g.F.Flash.journal g.F.Flash.faults g.F.Flash.writes in
    subst (λ (i : Input g.row.F.Denot). TakesInput flash g.F.Flash.part c.args.self.now job i c.halt.new.out.items
    (record { used = 0; next = c.halt.result }) c.halt.new.self) (sym c.in-Halted.is) (refl, c.halt.ensures.ends job is)

pub returns-in-Halted-clause-ends : goal.returns-in-Halted-clause-ends
returns-in-Halted-clause-ends g c = λ job is.
    let flash = seen g.F.Flash.words g.F.Flash.journal g.F.Flash.faults g.F.Flash.writes in
    subst (λ (i : Input g.row.F.Denot). TakesEnd flash g.F.Flash.part c.args.self.now job i c.halt.new.out.items
    (record { used = 0; next = c.halt.result }) c.halt.new.self) (sym c.in-Halted.is)
    (λ number by_itself asks came. c.halt.ensures.halts job number by_itself asks is came)

pub returns-in-Halted-clause-over : goal.returns-in-Halted-clause-over
returns-in-Halted-clause-over g c =
    subst (λ (i : Input g.row.F.Denot). IsOverThen i c.halt.result c.args.self.now.tool.mode c.halt.new.self.tool.mode) (sym c.in-Halted.is) c.halt.ensures.over

pub returns-in-LineEnd-clause-still : goal.returns-in-LineEnd-clause-still
returns-in-LineEnd-clause-still g c = λ idle.
    absurd (ended_some (seen g.F.Flash.words g.F.Flash.journal g.F.Flash.faults g.F.Flash.writes) g.F.Flash.part c.end_line.result
    c.args.self.now.tool.mode c.end_line.new.self.tool.mode c.end_line.ensures.stays idle)

pub returns-in-Halted-clause-still : goal.returns-in-Halted-clause-still
returns-in-Halted-clause-still g c = λ idle.
    absurd (over_some (seen g.F.Flash.words g.F.Flash.journal g.F.Flash.faults g.F.Flash.writes) g.F.Flash.part c.halt.result
    c.args.self.now.tool.mode c.halt.new.self.tool.mode c.halt.ensures.over idle)
