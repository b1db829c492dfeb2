use Rattle.std.proofs.Common.{◌+◌, ℕ, List, sym, subst, arith}
use Rattle.line_spec.proofs.FrameBytes.{length-bytes_of}
use Rattle.ice_frame.specs.Front.{frame_of}
use Rattle.flash_patch.specs.Asking.{seen}
use Rattle.ice_emul.specs.Taking.{HearsFrame}
use Rattle.ice_emul.specs.declared.emulator.Next.TheVariants.{Answered}
use Rattle.ice_emul.proofs.HeardFrames.{frame_dropped}
use Rattle.ice_emul.proofs.emulator.Emulator.hear.Goals as goal

pub returns-then-frame-clause-hears : goal.returns-then-frame-clause-hears
returns-then-frame-clause-hears g c = λ job held.
    subst (λ (o : List ℕ). HearsFrame (seen g.F.Flash.words g.F.Flash.journal g.F.Flash.faults g.F.Flash.writes) g.F.Flash.part c.args.self.now job
    (frame_of c.args.frame.now) o Answered (record c.args.self.now { tool = c.drop_bytes.new.self })) (sym c.requires.empty)
    (frame_dropped (seen g.F.Flash.words g.F.Flash.journal g.F.Flash.faults g.F.Flash.writes) g.F.Flash.part c.args.self.now (frame_of c.args.frame.now)
    (10 + c.len.result) c.drop_bytes.new.self c.requires.listens
    (c.if-frame.true, grind (arith, length-bytes_of (frame_of c.args.frame.now), c.len.ensures.value)) c.drop_bytes.ensures job held)
