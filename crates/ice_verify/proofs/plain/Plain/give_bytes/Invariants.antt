use Rattle.std.proofs.Common.{◌≡◌, ◌*◌}
use Rattle.part_spec.specs.Chip.{page_words}
use Rattle.part_spec.specs.Pages.{overlaid, paired}
use Rattle.ice_verify.specs.Standing.{given_pages, with_program}
use Rattle.ice_verify.proofs.plain.Plain.give_bytes.Given as goal

abbrev pub invariant-loop-page : goal.invariant-loop-page
invariant-loop-page l =
    l.self ≡ with_program (given_pages (overlaid l.fn.self.tool.plan.prog (page_words * l.first) (paired l.bytes)) l.first l.page
    l.fn.self.tool.plan.prog) l.fn.self
