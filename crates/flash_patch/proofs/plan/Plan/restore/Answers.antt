use Rattle.std.proofs.Common.{◌≡◌, ℕ, List, [], is_ok, ◌∙◌, ap, subst}
use Rattle.std.specs.Prelude.{OnOk}
use Rattle.part_spec.specs.Chip.{chip_of}
use Rattle.debug_spec.specs.Patch.{patch}
use Rattle.debug_spec.specs.Device.{synced}
use Rattle.flash_patch.specs.Asking.{seen, Asks}
use Rattle.flash_patch.proofs.Planting.{patch-none}
use Rattle.flash_patch.proofs.plan.Plan.restore.Given.{Over}
use Rattle.flash_patch.proofs.plan.Plan.restore.Goals as goal

-- with nothing planted the program is wanted
program_wanted : (g : Over) (c : goal.After-sync_pages g) → patch c.deref.result.now [] ≡ c.args.self.now.prog
program_wanted g c = patch-none c.deref.result.now ∙ c.deref.ensures.value ∙ ap (λ s. s.prog) c.self.view_is

pub returns-clause-asks : goal.returns-clause-asks
returns-clause-asks g c =
    let flash = seen g.F.Flash.words g.F.Flash.journal g.F.Flash.faults g.F.Flash.writes in
    subst
    (λ (wanted : List ℕ). Asks flash (synced (chip_of c.args.self.now.part) wanted) c.args.flash.now (is_ok c.sync_pages.result)
    c.sync_pages.new.flash)
    (program_wanted g c)
    (subst
    (λ q. Asks flash (synced (chip_of q) (patch c.deref.result.now [])) c.args.flash.now (is_ok c.sync_pages.result) c.sync_pages.new.flash)
    (ap (λ s. s.part) c.self.view_is) c.sync_pages.ensures.asks)

pub returns-clause-words : goal.returns-clause-words
returns-clause-words g c =
    subst (λ (wanted : List ℕ). OnOk c.sync_pages.result (g.F.Flash.words c.sync_pages.new.flash ≡ wanted)) (program_wanted g c)
    c.sync_pages.ensures.words
