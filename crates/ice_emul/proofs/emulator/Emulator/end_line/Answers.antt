use Rattle.std.proofs.Common.{◌≡◌, Bool, true, false, [], Option, Some, None, sym, ap, ◌∙◌, subst}
use Rattle.std.specs.Prelude.{IfSome, is_some}
use Rattle.flash_patch.specs.Asking.{seen}
use Rattle.run_control.specs.declared.job.Job.{Job}
use Rattle.ice_answer.specs.Kept.{ToolState}
use Rattle.ice_emul.specs.Taking.{ClosesFor}
use Rattle.ice_emul.proofs.HeardFrames.{home_is_in}
use Rattle.ice_emul.proofs.LineEnds.{away_is_out, ended_home, ended_in, left_away, closed_stands, closed_rose}
use Rattle.ice_emul.proofs.emulator.Emulator.end_line.Goals as goal

pub returns-in-Some-clause-ends : goal.returns-in-Some-clause-ends
returns-in-Some-clause-ends g c = λ job is.
    ended_home (seen g.F.Flash.words g.F.Flash.journal g.F.Flash.faults g.F.Flash.writes) g.F.Flash.part c.args.self.now c.close.new.tool
    c.drop_held.new.self c.rest-held.result c.drop_held.ensures c.rest-held.ensures.rest c.in-Some.job job c.close.new.job c.closed.result
    c.requires.sound c.requires.takes (c.close.ensures.asks []) c.close.ensures.rest c.close.ensures.closed c.closed.ensures
    (sym c.take.ensures.value ∙ c.in-Some.is) is

pub returns-in-None-clause-ends : goal.returns-in-None-clause-ends
returns-in-None-clause-ends g c = λ job is.
    left_away (seen g.F.Flash.words g.F.Flash.journal g.F.Flash.faults g.F.Flash.writes) g.F.Flash.part c.args.self.now c.leave.new.self
    c.drop_held.new.self c.rest-held.result c.drop_held.ensures c.rest-held.ensures.rest job c.take.new.self c.requires.sound
    c.requires.takes is c.leave.ensures (sym c.take.ensures.value ∙ c.in-None.is) c.take.ensures.after

pub returns-in-Some-clause-stands : goal.returns-in-Some-clause-stands
returns-in-Some-clause-stands g c =
    closed_stands (seen g.F.Flash.words g.F.Flash.journal g.F.Flash.faults g.F.Flash.writes) g.F.Flash.part c.args.self.now _
    c.closed.result c.close.ensures.closed.0 c.close.ensures.closed.1 (c.closed.ensures c.close.ensures.closed.0 c.close.ensures.closed.1)

at_home : {T : Type 0} (o : Option T) (b : Bool) (x : T) → is_some o ≡ b → o ≡ Some x → b ≡ true
at_home o b x same some = sym same ∙ ap is_some some

gone : {T : Type 0} (o : Option T) (b : Bool) → is_some o ≡ b → o ≡ None → b ≡ false
gone o b same none = sym same ∙ ap is_some none

pub returns-in-Some-clause-stays : goal.returns-in-Some-clause-stays
returns-in-Some-clause-stays g c =
    ended_in (seen g.F.Flash.words g.F.Flash.journal g.F.Flash.faults g.F.Flash.writes) g.F.Flash.part c.closed.result c.args.self.now.tool.mode _
    (home_is_in c.args.self.now.tool.mode (at_home c.args.self.now.target _ c.in-Some.job c.requires.sound.here
    (sym c.take.ensures.value ∙ c.in-Some.is))) c.close.ensures.closed.0
    (c.closed.ensures c.close.ensures.closed.0 c.close.ensures.closed.1)

pub returns-in-None-clause-stays : goal.returns-in-None-clause-stays
returns-in-None-clause-stays g c = (
  away_is_out c.args.self.now.tool.mode
      (gone c.args.self.now.target _ c.requires.sound.here (sym c.take.ensures.value ∙ c.in-None.is)) c.requires.takes,
  ap (λ (k : ToolState). k.mode) c.leave.ensures,
)

pub returns-in-Some-clause-cause : goal.returns-in-Some-clause-cause
returns-in-Some-clause-cause g c =
    let flash = seen g.F.Flash.words g.F.Flash.journal g.F.Flash.faults g.F.Flash.writes in
    subst (λ (o : Option (Job g.row.F.Denot)). IfSome o (λ own. ClosesFor flash c.closed.result own.flash (Some c.close.new.job)))
    (sym (sym c.take.ensures.value ∙ c.in-Some.is))
    (closed_rose flash g.F.Flash.part c.closed.result c.close.new.tool.mode c.in-Some.job.flash c.close.new.job.flash c.close.ensures.closed.0 c.close.ensures.closed.1
    (c.closed.ensures c.close.ensures.closed.0 c.close.ensures.closed.1) c.close.ensures.cause)
