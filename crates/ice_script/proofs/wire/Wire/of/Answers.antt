use Rattle.std.proofs.Common.{[], length, ap, sym, subst, arith, ◌∙◌, Bool}
use Rattle.std.proofs.lemmas.Bool.{true≢false}
use Rattle.line_spec.specs.Frames.{IsPartial}
use Rattle.line_spec.proofs.Cuts.{IsPartial-nil}
use Rattle.debug_spec.specs.Debugger.{listens}
use Rattle.flash_patch.specs.Asking.{seen}
use Rattle.ice_recv.specs.Received.{Received}
use Rattle.ice_emul.specs.Launching.{rests}
use Rattle.ice_replay.specs.Endings.{is_closed}
use Rattle.ice_replay.proofs.Finishing.{kept_start, own_of}
use Rattle.ice_script.specs.Wires.{StandsBy}
use Rattle.ice_script.proofs.wire.Wire.of.Goals as goal

pub invariant_of-result : goal.invariant_of-result
invariant_of-result g c =
    let own = own_of c.args.emulator.target c.args.emulator.tool.mode c.requires.sound.here (ap rests c.requires.begun) in (
      record {
        placed = (
          own.0,
          [],
          kept_start (seen g.F.Flash.words g.F.Flash.journal g.F.Flash.faults g.F.Flash.writes) g.F.Flash.part c.args.emulator c.of.result own.0
              own.1 c.requires.begun c.requires.sound c.of.ensures.sound c.of.ensures.free
              (omega (arith, c.of.ensures.counts.0, c.of.ensures.counts.1)),
        );
        stands = subst (λ (b : Bool). StandsBy b c.args.emulator) (sym (ap listens c.requires.begun))
            (subst IsPartial (sym (ap (λ (r : Received). r.held) c.requires.received)) IsPartial-nil);
        counts = λ listening. omega (arith, c.of.ensures.counts.0, ap (λ (r : Received). length r.held) c.requires.received);
      },
      λ lost. absurd (true≢false (sym lost)),
      λ kept shut. absurd (true≢false (sym shut ∙ ap is_closed c.requires.begun)),
    )
