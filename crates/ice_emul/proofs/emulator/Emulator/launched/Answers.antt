use Rattle.std.proofs.Common.{◌++◌, ℕ, List, sym, ap, ◌∙◌, subst}
use Rattle.line_spec.specs.Frames.{Frame, bytes_of}
use Rattle.line_spec.specs.Messages.{okay, response_body}
use Rattle.flash_patch.specs.Asking.{seen}
use Rattle.ice_answer.specs.Kept.{ToolState}
use Rattle.ice_emul.specs.Launching.{rests}
use Rattle.ice_emul.specs.Session.{Launches}
use Rattle.ice_emul.proofs.HeardFrames.{launched_job}
use Rattle.ice_emul.proofs.Launched.{run_launched, prepared_mode, not_at_home}
use Rattle.ice_emul.proofs.emulator.Emulator.launched.Goals as goal

pub returns-in-Some-clause-launches : goal.returns-in-Some-clause-launches
returns-in-Some-clause-launches g c = λ job held.
    let flash = seen g.F.Flash.words g.F.Flash.journal g.F.Flash.faults g.F.Flash.writes in
    let mode = prepared_mode c.args.self.now.tool.mode c.in-Some.number (sym c.prepared.ensures ∙ c.in-Some.is) in
    let frame : Frame = record { number = c.in-Some.number; body = response_body okay } in
    let none = not_at_home c.args.self.now.target (c.requires.sound.here ∙ ap rests mode) in
    subst (λ (k : ToolState). Launches flash g.F.Flash.part c.args.self.now job c.okay.new.out.items (record c.args.self.now { tool = k })) (sym c.run.ensures)
    (run_launched flash g.F.Flash.part c.args.self.now job c.in-Some.number c.okay.new.out.items mode none
    (launched_job flash g.F.Flash.part c.args.self.now.target c.args.self.now.tool job none held)
    (c.okay.ensures.sends ∙ ap (λ (o : List ℕ). o ++ bytes_of frame) c.requires.empty))
