use Rattle.std.proofs.Common.{refl, sym, subst}
use Rattle.flash_patch.specs.Asking.{seen}
use Rattle.host_session.specs.Standing.{Hosted}
use Rattle.ice_emul.specs.Session.{Begins}
use Rattle.ice_emul.specs.declared.emulator.Emulator.{Emulator}
use Rattle.ice_script.specs.Scripts.{Opens}
use Rattle.ice_script.specs.Wires.{WireState}
use Rattle.ice_script.proofs.session.open.Goals as goal

pub returns-in-Ok-begin-clause-opens : goal.returns-in-Ok-begin-clause-opens
returns-in-Ok-begin-clause-opens g c =
    subst (λ (h : Hosted (WireState g.row.F.Denot)). Opens (seen g.F.Flash.words g.F.Flash.journal g.F.Flash.faults g.F.Flash.writes)
    g.F.Flash.part c.args.program.now c.args.stops.items c.args.flash h) (sym c.over.ensures) (record {
      begins = subst (λ (e : Emulator g.row.F.Denot). Begins (seen g.F.Flash.words g.F.Flash.journal g.F.Flash.faults g.F.Flash.writes)
          g.F.Flash.part c.args.program.now c.args.flash e) (sym c.of.ensures.emulator) c.in-Ok-begin.ensures.begins;
      fresh = record { wire = c.of.ensures.fresh; pending = refl; kept = refl; number = refl };
    })
