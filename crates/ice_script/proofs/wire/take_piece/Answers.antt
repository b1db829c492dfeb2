use Rattle.std.proofs.Common.{Bool, false, refl, ap, subst}
use Rattle.flash_patch.specs.Asking.{seen}
use Rattle.ice_replay.specs.Endings.{is_closed}
use Rattle.ice_replay.specs.declared.chunk.Chunk.TheVariants.{Unsent}
use Rattle.ice_script.specs.Wires.{IsTakenSo, side}
use Rattle.ice_script.proofs.wire.take_piece.Goals as goal

pub returns-in-Unsent-false-clause-takes : goal.returns-in-Unsent-false-clause-takes
returns-in-Unsent-false-clause-takes g c = record {
  came = Unsent false;
  becomes = (
    side c.take_chunk-came.new.emulator c.take_chunk-came.new.runner c.take_chunk-came.new.sink,
    refl,
    subst (λ (b : Bool). IsTakenSo (seen g.F.Flash.words g.F.Flash.journal g.F.Flash.faults g.F.Flash.writes) g.F.Flash.part (Unsent b)
        (side c.args.emulator.now c.args.runner.now c.args.queue.now) c.args.piece.now
        (side c.take_chunk-came.new.emulator c.take_chunk-came.new.runner c.take_chunk-came.new.sink))
        c.in-Unsent-false.field-0-test c.in-Unsent-false.ensures.takes,
    c.end_line.ensures.line,
    ap is_closed c.end_line.ensures.closed,
    refl,
  );
  valid = c.take_chunk-came.ensures.bytes;
  bytes = c.is_full.ensures.bytes;
  full = c.is_full.ensures.room;
}
