-- What the code's sheet stands for.
use Rattle.std.specs.Prelude.{◌≡◌, ℕ, ◌+◌, ◌<◌, ◌≤◌, ◌&&◌, ⊤, Bool, false, nat_le, nat_lt, List, length, map, reverse, slice_index_or}
use Rattle.std.specs.Prelude.{Option, Result, Ok, Err}
use Rattle.std.specs.List.{list_any}
use Rattle.std.specs.BTreeMap.{BTreeMap, get_by}
use Rattle.std.specs.Borrow.{Bor}
use Rattle.std.specs.Ordering.{nat_cmp}
use Rattle.std.specs.Cmp.Lexicographic.{slice_cmp}
use Rattle.part_spec.specs.Chip.{Chip, words_of}
use Rattle.asm_spec.specs.declared.kind.AsmKind.{AsmKind}
use Rattle.asm_spec.specs.Reading.{Line, reading}
use Rattle.asm_spec.specs.Words.{Entry, Label, Laid, place_of, size_of, with_line}
use Rattle.avr_asm.specs.declared.sheet.Entry.{Entry as HeldEntry}
use Rattle.avr_asm.specs.declared.sheet.Sheet.{Sheet}
use Rattle.avr_asm.specs.declared.sheet.Stop.{Stop}
use Rattle.avr_asm.specs.declared.sheet.Stop.TheVariants.{Wrong, Memory}
use Rattle.avr_asm.specs.Encodings.{FitEntries}
use Rattle.avr_asm.specs.Orders.{item_told}

-- the place under a name
abbrev pub place_under : BTreeMap (Bor (List ℕ)) ℕ → (name : List ℕ) → Option ℕ
place_under held name = get_by (λ key. slice_cmp nat_cmp name key.now) held

-- each name has the place of its label
abbrev pub HasPlaces : BTreeMap (Bor (List ℕ)) ℕ → List Label → Type 0
HasPlaces held labels = (name : List ℕ) → place_under held name ≡ place_of labels name

-- what a line puts at a place
abbrev pub entry_told : HeldEntry → Entry
entry_told entry = record { line = entry.line; place = entry.place; item = item_told entry.item }

-- what was put, the last one first
abbrev pub entries_told : List HeldEntry → List Entry
entries_told entries = reverse (map entry_told entries)

-- a place is one of those of an entry
abbrev pub covers : (place : ℕ) → Entry → Bool
covers place entry = nat_le entry.place place && nat_lt place (entry.place + size_of entry.item)

-- each place of the flash is marked where an entry gives it
abbrev pub AreTaken : Chip → List Bool → List Entry → Type 0
AreTaken part taken entries = (k : ℕ) → k < words_of part → slice_index_or taken k false ≡ list_any (covers k) entries

-- what stands for what lines have laid out
pub record Keeps (part : Chip) (sheet : Sheet) (laid : Laid) : Type 0 where
  pub place : sheet.place ≡ laid.place
  pub within : laid.place ≤ words_of part
  pub labels : HasPlaces sheet.labels laid.labels
  pub entries : entries_told sheet.entries.items ≡ laid.entries
  pub whole : length sheet.taken.items ≡ words_of part
  pub taken : AreTaken part sheet.taken.items laid.entries
  pub fit : FitEntries part laid.entries

-- what comes of a line, behind what was laid out
abbrev pub said_by : Chip → (number : ℕ) → (line : List ℕ) → Laid → Result Laid AsmKind
said_by part number line laid = by_reading (reading part line)
  where
    by_reading : Result Line AsmKind → Result Laid AsmKind
    by_reading (Ok said) = with_line part number said laid
    by_reading (Err kind) = Err kind

-- the code's answer to what comes of a line
abbrev pub Follows : Chip → Result (Unit {0}) Stop → Sheet → Result Laid AsmKind → Type 0
Follows part (Ok done) sheet said = (laid : Laid) × (said ≡ Ok laid) × Keeps part sheet laid
Follows part (Err (Wrong kind)) sheet said = said ≡ Err kind
Follows part (Err Memory) sheet said = ⊤
