-- The laws of page writes, as facts. Each is proved as the contract of a function of `src/laws.rt`.
use Rattle.std.specs.Prelude.{◌≡◌, ◌⊎◌, ℕ, suc, ◌+◌, ◌<◌, ◌≤◌, Bool, true, false, List, [], ◌∷◌, ◌++◌, length, ⊤}
use Rattle.part_spec.specs.Chip.{Chip, words_of}
use Rattle.debug_spec.specs.Patch.{without, patch}
use Rattle.part_spec.specs.Pages.{page_of, page_has}
use Rattle.debug_spec.specs.Programming.{Programmed, programmed_from}
use Rattle.debug_spec.specs.Device.{Outcome, Asked, write, launch, outcome_of, is_made, next_of, later_of, Device, Tried, written, launched}
use Rattle.debug_spec.specs.Device.{synced_from, synced, replanted, words_after}

-- outcomes answer what was asked, one each, and leave others
abbrev pub AreAnswered : List Outcome → List Asked → List Outcome → Type 0
AreAnswered outcomes [] left = outcomes ≡ left
AreAnswered outcomes (ask ∷ asked) left = (outcome_of ask ≡ next_of outcomes) × AreAnswered (later_of outcomes) asked left

-- one device comes from another by what was asked in between, made one after the other, each with its outcome
pub record LeadsTo (from to : Device) : Type 0 where
  pub asks : List Asked
  pub asked : to.asked ≡ from.asked ++ asks
  pub words : to.words ≡ words_after from.words asks
  pub answered : AreAnswered from.outcomes asks to.outcomes

-- page writes from one page on and below another: in rising order, each page at most once, with the wanted words, and none where
-- the flash has them already
abbrev pub AreNeeded : List ℕ → List ℕ → ℕ → ℕ → List Asked → Type 0
AreNeeded flash wanted from below [] = ⊤
AreNeeded flash wanted from below (write page words outcome ∷ asked) =
    (from ≤ page) × (page < below) × (words ≡ page_of wanted page) × (page_has flash page words ≡ false) ×
    AreNeeded flash wanted (suc page) below asked
AreNeeded flash wanted from below (launch outcome ∷ asked) = ⊥

-- all was made, or all but the last
abbrev pub AreTried : Bool → List Asked → Type 0
AreTried ok [] = ok ≡ true
AreTried ok (ask ∷ []) = is_made (outcome_of ask) ≡ ok
AreTried ok (ask ∷ next ∷ asked) = (is_made (outcome_of ask) ≡ true) × AreTried ok (next ∷ asked)

-- what the page writes for wanted words do to a device
pub record SyncDoes (part : Chip) (wanted : List ℕ) (before : Device) (tried : Tried) : Type 0 where
  pub leads : LeadsTo before tried.device
  pub needed : AreNeeded before.words wanted 0 part.pages leads.asks
  pub up_to_failure : AreTried tried.ok leads.asks
  pub in_place : tried.ok ≡ true → tried.device.words ≡ wanted

-- the page writes for wanted words: only those that are needed, up to the first failure, and without one the words are there
abbrev pub SyncIsExact : Type 0
SyncIsExact = (part : Chip) (wanted : List ℕ) (d : Device) → length d.words ≡ words_of part → length wanted ≡ words_of part →
    SyncDoes part wanted d (synced part wanted d)

-- the replant of an address makes the patch without it the patch with it
abbrev pub ReplantMakesPatch : Type 0
ReplantMakesPatch = (prog set : List ℕ) (address : ℕ) (d : Device) → d.words ≡ patch prog (without address set) →
    (replanted (patch prog set) address d).ok ≡ true → (replanted (patch prog set) address d).device.words ≡ patch prog set

-- what programming n pages from one on does: of the device it asks what the page writes for the wanted words ask, to the same end; so
-- many pages, all where none failed, have the wanted words then, in the program and in the device, and each other page of the program
-- keeps its words, also the one whose write failed
pub record ProgrammingDoes (wanted : List ℕ) (page n : ℕ) (prog : List ℕ) (before : Device) (done : Programmed) : Type 0 where
  pub ok : done.ok ≡ (synced_from wanted page n before).ok
  pub device : done.device ≡ (synced_from wanted page n before).device
  pub size : length done.prog ≡ length prog
  pub count : ℕ
  pub within : count ≤ n
  pub all : done.ok ≡ true → count ≡ n
  pub failed_next : done.ok ≡ false → (count < n) × ((asked : List Asked) × (outcome : Outcome) ×
      (done.device.asked ≡ asked ++ write (page + count) (page_of wanted (page + count)) outcome ∷ []))
  pub new_words : (k : ℕ) → page ≤ k → k < page + count →
      (page_of done.prog k ≡ page_of wanted k) × (page_of done.device.words k ≡ page_of wanted k)
  pub old_words : (k : ℕ) → (k < page) ⊎ (page + count ≤ k) → page_of done.prog k ≡ page_of prog k

-- it does so on pages of the part
abbrev pub ProgrammingIsExact : Type 0
ProgrammingIsExact = (part : Chip) (wanted : List ℕ) (page n : ℕ) (prog : List ℕ) (d : Device) → length wanted ≡ words_of part →
    length prog ≡ words_of part → length d.words ≡ words_of part → page + n ≤ part.pages →
    ProgrammingDoes wanted page n prog d (programmed_from wanted page n prog d)

-- whatever is asked of a device leads to the device behind it
pub record EachLeads : Type 0 where
  pub by_write : (page : ℕ) (words : List ℕ) (d : Device) → LeadsTo d (written page words d).device
  pub by_launch : (d : Device) → LeadsTo d (launched d).device
  pub by_sync : (part : Chip) (wanted : List ℕ) (d : Device) → LeadsTo d (synced part wanted d).device
  pub by_replant : (wanted : List ℕ) (address : ℕ) (d : Device) → LeadsTo d (replanted wanted address d).device
  pub onward : (a b c : Device) → LeadsTo a b → LeadsTo b c → LeadsTo a c
