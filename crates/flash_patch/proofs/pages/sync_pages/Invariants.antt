use Rattle.std.proofs.Common.{◌≡◌, true}
use Rattle.debug_spec.specs.Patch.{patch}
use Rattle.debug_spec.specs.Device.{synced_from}
use Rattle.flash_patch.specs.Asking.{seen, Asks}
use Rattle.flash_patch.proofs.pages.sync_pages.Given as goal

abbrev pub invariant-loop-page : goal.invariant-loop-page
invariant-loop-page g l = record {
  part : g.F.Flash.part l.flash ≡ g.F.Flash.part l.initial.flash;
  still : g.F.Flash.faults l.flash ≡ g.F.Flash.faults l.initial.flash;
  asks : Asks (seen g.F.Flash.words g.F.Flash.journal g.F.Flash.faults g.F.Flash.writes)
      (synced_from (patch l.program l.set) 0 l.page) l.initial.flash true l.flash;
}
