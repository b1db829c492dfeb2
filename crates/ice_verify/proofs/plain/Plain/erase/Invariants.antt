use Rattle.std.proofs.Common.{◌≡◌}
use Rattle.part_spec.specs.Chip.{chip_of}
use Rattle.part_spec.specs.Pages.{erased}
use Rattle.ice_verify.specs.Standing.{given_pages, with_program}
use Rattle.ice_verify.proofs.plain.Plain.erase.Given as goal

abbrev pub invariant-loop-page : goal.invariant-loop-page
invariant-loop-page l =
    l.self ≡ with_program (given_pages (erased (chip_of l.fn.self.tool.plan.part)) l.first l.page l.fn.self.tool.plan.prog) l.fn.self
