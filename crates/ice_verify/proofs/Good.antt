-- A device that makes all that it is asked for.
use Rattle.std.proofs.Common.{◌≡◌, ℕ, zero, suc, Bool, true, false, not, List, [], refl, ap}
use Rattle.part_spec.specs.Chip.{Chip}
use Rattle.part_spec.specs.Pages.{page_of, page_has, with_page}
use Rattle.debug_spec.specs.Patch.{has, patch}
use Rattle.debug_spec.specs.Device.{Device, Tried, Outcome, is_made, next_of, later_of, untouched, written, synced_page, synced_from, synced, replanted}
use Rattle.debug_spec.specs.Programming.{Programmed, programmed_from}
use Rattle.debug_spec.specs.Debugger.{Debugger, targets}
use Rattle.debug_spec.specs.Running.{replant, replant_failed, device_after}
use Rattle.ice_verify.specs.Well.{IsGood}
use Rattle.ice_verify.specs.Standing.{given_pages}

-- what was tried was made, and more will be
pub record IsMade (t : Tried) : Type 0 where
  pub ok : t.ok ≡ true
  pub good : t.device.outcomes ≡ []

page_made_by : (b : Bool) (d : Device) (page : ℕ) (words : List ℕ) → d.outcomes ≡ [] →
    IsMade (elim b [ true ↦ untouched d | false ↦ written page words d ])
page_made_by true d page words good = record { ok = refl; good = good }
page_made_by false d page words good = record { ok = ap (λ (o : List Outcome). is_made (next_of o)) good; good = ap later_of good }

pub page_made : (wanted : List ℕ) (page : ℕ) (d : Device) → d.outcomes ≡ [] → IsMade (synced_page wanted page d)
page_made wanted page d good = page_made_by (page_has d.words page (page_of wanted page)) d page (page_of wanted page) good

then_made : (b : Bool) (later now : Tried) → b ≡ true → IsMade later → IsMade (elim b [ true ↦ later | false ↦ now ])
then_made true later now e m = m
then_made false later now e m = cc

synced_from_made : (wanted : List ℕ) (page n : ℕ) (d : Device) → d.outcomes ≡ [] → IsMade (synced_from wanted page n d)
synced_from_made wanted page zero d good = record { ok = refl; good = good }
synced_from_made wanted page (suc n) d good =
    let one = page_made wanted page d good in
    let tried = synced_page wanted page d in
    then_made tried.ok (synced_from wanted (suc page) n tried.device) tried one.ok
    (synced_from_made wanted (suc page) n tried.device one.good)

pub synced_made : (part : Chip) (wanted : List ℕ) (d : Device) → d.outcomes ≡ [] → IsMade (synced part wanted d)
synced_made part wanted d good = synced_from_made wanted 0 part.pages d good

-- a run's breakpoint at its start is planted again
replant_by : (b : Bool) (wanted : List ℕ) (pc : ℕ) (d : Device) → d.outcomes ≡ [] →
    IsMade (elim b [ true ↦ replanted wanted pc d | false ↦ untouched d ])
replant_by true wanted pc d good = page_made wanted _ d good
replant_by false wanted pc d good = record { ok = refl; good = good }

pub replant_made : (s : Debugger) → IsGood s → IsMade (replant s)
replant_made s good = replant_by (has (targets s) s.machine.pc) (patch s.prog (targets s)) s.machine.pc s.device good

pub replant_works : (s : Debugger) → IsGood s → replant_failed s ≡ false
replant_works s good = ap not (replant_made s good).ok

pub device_after_good : (n : ℕ) (s : Debugger) → IsGood s → (device_after n s).outcomes ≡ []
device_after_good zero s good = good
device_after_good (suc n) s good = (replant_made s good).good

-- programming
pub record IsProgrammed (t : Programmed) (prog : List ℕ) : Type 0 where
  pub ok : t.ok ≡ true
  pub prog_is : t.prog ≡ prog
  pub good : t.device.outcomes ≡ []

then_programmed : (b : Bool) (later now : Programmed) (prog : List ℕ) → b ≡ true → IsProgrammed later prog →
    IsProgrammed (elim b [ true ↦ later | false ↦ now ]) prog
then_programmed true later now prog e m = m
then_programmed false later now prog e m = cc

pub programmed_made : (wanted : List ℕ) (page n : ℕ) (prog : List ℕ) (d : Device) → d.outcomes ≡ [] →
    IsProgrammed (programmed_from wanted page n prog d) (given_pages wanted page n prog)
programmed_made wanted page zero prog d good = record { ok = refl; prog_is = refl; good = good }
programmed_made wanted page (suc n) prog d good =
    let one = page_made wanted page d good in
    let tried = synced_page wanted page d in
    then_programmed tried.ok (programmed_from wanted (suc page) n (with_page prog page (page_of wanted page)) tried.device)
    (record { ok = false; prog = prog; device = tried.device }) (given_pages wanted page (suc n) prog) one.ok
    (programmed_made wanted (suc page) n (with_page prog page (page_of wanted page)) tried.device one.good)
