use Rattle.std.proofs.Common.{◌++◌, ℕ, List, Some, None, sym, ap, ◌∙◌, subst}
use Rattle.line_spec.specs.Frames.{Frame, bytes_of}
use Rattle.line_spec.specs.Messages.{refused, response_body}
use Rattle.line_spec.specs.declared.refusal.Refusal.TheVariants.{Failed}
use Rattle.flash_patch.specs.Asking.{seen}
use Rattle.ice_answer.specs.Kept.{ToolState}
use Rattle.ice_emul.specs.Launching.{rests}
use Rattle.ice_emul.specs.Session.{DoesNotLaunch}
use Rattle.ice_emul.proofs.HeardFrames.{launched_job}
use Rattle.ice_emul.proofs.Launched.{run_not_launched, prepared_mode, prepared_some, not_at_home}
use Rattle.ice_emul.proofs.emulator.Emulator.launch_failed.Goals as goal
use Rattle.ice_emul.proofs.emulator.Emulator.launch_failed.Goals.{in-Some, in_default}

pub returns-clause-fails : goal.returns-clause-fails
returns-clause-fails g c = elim c.match-prepared.branch [
  | in-Some w ↦
      let flash = seen g.F.Flash.words g.F.Flash.journal g.F.Flash.faults g.F.Flash.writes in
      let number = w.in-Some.number in
      let frame : Frame = record { number = number; body = response_body (refused Failed) } in
      let mode = prepared_mode c.args.self.now.tool.mode number (sym c.prepared.ensures ∙ w.in-Some.is) in
      let none = not_at_home c.args.self.now.target (c.requires.sound.here ∙ ap rests mode) in
      subst (λ (k : ToolState). DoesNotLaunch flash g.F.Flash.part c.args.self.now c.args.job c.match-prepared.out.items
      (record c.args.self.now { tool = k; target = Some (record c.args.job { replant = None }) })) (sym c.stay.ensures)
      (run_not_launched flash g.F.Flash.part c.args.self.now c.args.job number c.match-prepared.out.items mode none
      (launched_job flash g.F.Flash.part c.args.self.now.target c.args.self.now.tool c.args.job none c.requires.held)
      (ap (λ k. k.items) w.out-is ∙ w.refuse.ensures.sends ∙ ap (λ (o : List ℕ). o ++ bytes_of frame) c.requires.empty))
  | in_default w ↦
      let number = prepared_some c.args.self.now.tool.mode c.requires.launching in
      absurd (w.in_default.not-Some number.0 (c.prepared.ensures ∙ number.1))
]
