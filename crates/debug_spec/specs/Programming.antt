-- Programming: page writes that change the program with the device.
use Rattle.std.specs.Prelude.{ℕ, zero, suc, Bool, true, false, List}
use Rattle.part_spec.specs.Chip.{Chip}
use Rattle.part_spec.specs.Pages.{page_of, with_page, erased}
use Rattle.debug_spec.specs.Device.{Device, synced_page}

-- what comes of programming: whether all pages have their words, the program then, and the device
pub record Programmed : Type 0 where
  pub ok : Bool
  pub prog : List ℕ
  pub device : Device

-- n pages from one on are given their words of a wanted flash, in rising order: each is written where the device has other words, and
-- is the program's once the device has it; behind a write that fails the program keeps its words
abbrev pub programmed_from : List ℕ → (page n : ℕ) → List ℕ → Device → Programmed
programmed_from wanted page zero prog d = record { ok = true; prog = prog; device = d }
programmed_from wanted page (suc n) prog d = let tried = synced_page wanted page d in elim tried.ok [
  | true ↦ programmed_from wanted (suc page) n (with_page prog page (page_of wanted page)) tried.device
  | false ↦ record { ok = false; prog = prog; device = tried.device }
]

-- every page of the part is erased
abbrev pub erased_all : Chip → List ℕ → Device → Programmed
erased_all part prog d = programmed_from (erased part) 0 part.pages prog d

-- one page is erased
abbrev pub erased_page : Chip → ℕ → List ℕ → Device → Programmed
erased_page part page prog d = programmed_from (erased part) page 1 prog d
