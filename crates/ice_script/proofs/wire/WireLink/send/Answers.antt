use Rattle.std.proofs.Common.{◌++◌, ap, ◌∙◌}
use Rattle.flash_patch.specs.Asking.{seen}
use Rattle.ice_script.specs.Wires.{WireState, side, waiting}
use Rattle.ice_script.proofs.Answered.{answered}
use Rattle.ice_script.proofs.wire.WireLink.send.Goals as goal

pub returns-clause-answered : goal.returns-clause-answered
returns-clause-answered g c =
    let now = c.take_piece-came in
    let a = answered (seen g.F.Flash.words g.F.Flash.journal g.F.Flash.faults g.F.Flash.writes) g.F.Flash.part
    (side c.self.inside.emulator c.self.inside.runner c.self.inside.queue) c.args.piece.now
    (side now.new.emulator now.new.runner now.new.queue) now.result.lost c.self.invariant.0.placed now.ensures.takes in
    (a.0, a.1 ∙ ap (λ (w : WireState _). waiting w ++ a.0) c.self.view_is)
