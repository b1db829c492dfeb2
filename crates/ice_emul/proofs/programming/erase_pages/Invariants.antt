use Rattle.std.proofs.Common.{◌≡◌, ◌≤◌, true}
use Rattle.part_spec.specs.Chip.{chip_of}
use Rattle.part_spec.specs.Pages.{erased}
use Rattle.debug_spec.specs.Programming.{programmed_from}
use Rattle.flash_patch.specs.Asking.{seen, Programs}
use Rattle.ice_emul.proofs.programming.erase_pages.Given as goal

abbrev pub invariant-loop-page : goal.invariant-loop-page
invariant-loop-page g l = record {
  part : g.F.Flash.part l.flash ≡ g.F.Flash.part l.fn.flash;
  rest : l.plan ≡ record l.fn.plan { prog = l.plan.prog };
  counts : g.F.Flash.faults l.fn.flash ≤ g.F.Flash.faults l.flash;
  asks : Programs (seen g.F.Flash.words g.F.Flash.journal g.F.Flash.faults g.F.Flash.writes)
      (programmed_from (erased (chip_of l.fn.plan.part)) l.first l.page l.fn.plan.prog) l.fn.flash true l.plan.prog l.flash;
}
