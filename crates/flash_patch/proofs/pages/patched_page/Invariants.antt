use Rattle.std.proofs.Common.{◌≡◌, take}
use Rattle.part_spec.specs.Pages.{page_of}
use Rattle.debug_spec.specs.Patch.{patch}
use Rattle.flash_patch.proofs.pages.patched_page.Given as goal

abbrev pub invariant-loop-address : goal.invariant-loop-address
invariant-loop-address l = l.words ≡ page_of (patch l.program (take l.address-index l.set)) l.page
