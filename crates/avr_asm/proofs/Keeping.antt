-- What stands for what lines have laid out, step by step.
use Rattle.std.proofs.Common.{◌≡◌, ℕ, ◌+◌, ◌<◌, ◌≤◌, ◌&&◌, ◌||◌, Bool, true, false, nat_le, nat_lt, List, [], ◌∷◌, ◌++◌, length, get_or, sym, ap, ◌∙◌, subst, arith}
use Rattle.std.specs.Prelude.{Option, Some, is_some, Ok, Err}
use Rattle.std.specs.Borrow.{Bor}
use Rattle.std.specs.BTreeMap.{BTreeMap, UpdatesBy}
use Rattle.std.specs.Ordering.{nat_cmp}
use Rattle.std.specs.Cmp.Lexicographic.{slice_cmp}
use Rattle.part_spec.specs.Chip.{Chip, words_of}
use Rattle.asm_spec.specs.declared.kind.AsmKind.TheVariants.{Twice, Overlap}
use Rattle.asm_spec.specs.Reading.{put}
use Rattle.asm_spec.specs.Words.{Entry, Laid, size_of, with_label, with_order}
use Rattle.avr_asm.specs.declared.orders.Item.{Item as HeldItem}
use Rattle.avr_asm.specs.declared.orders.Order.{Order as HeldOrder}
use Rattle.avr_asm.specs.declared.orders.Order.TheVariants.{Origin}
use Rattle.avr_asm.specs.declared.sheet.Entry.{Entry as HeldEntry}
use Rattle.avr_asm.specs.declared.sheet.Sheet.{Sheet}
use Rattle.avr_asm.specs.Encodings.{FitsItem}
use Rattle.avr_asm.specs.Orders.{item_told, order_told}
use Rattle.avr_asm.specs.Readings.{label_told}
use Rattle.avr_asm.specs.Sheets.{HasPlaces, Keeps, entries_told, entry_told, place_under}
use Rattle.avr_asm.proofs.Laying.{entries_more, label_new, label_twice, order_origin, places_more, put_new, put_overlap, taken_more}

-- ---- a label
module _ (part : Chip) (sheet : Sheet) (laid : Laid) (keeps : Keeps part sheet laid) (label : Option (Bor (List ℕ))) (name : Bor (List ℕ))
    (is : label ≡ Some name) where
  pub keeps_twice : (found : Bool) → found ≡ is_some (place_under sheet.labels name.now) → found ≡ true → with_label (label_told label) laid ≡ Err Twice
  keeps_twice found has there =
      ap (λ (l : Option (Bor (List ℕ))). with_label (label_told l) laid) is
      ∙ label_twice laid name.now (ap is_some (sym (keeps.labels name.now)) ∙ sym has ∙ there)

  pub keeps_label : (found : Bool) (more : Sheet) → found ≡ is_some (place_under sheet.labels name.now) → found ≡ false →
      UpdatesBy (λ x y. slice_cmp nat_cmp x.now y.now) (λ key. slice_cmp nat_cmp name.now key.now) sheet.labels more.labels (Some sheet.place) →
      more.place ≡ sheet.place → more.entries.items ≡ sheet.entries.items → more.taken.items ≡ sheet.taken.items →
      (named : Laid) × (with_label (label_told label) laid ≡ Ok named) × Keeps part more named
  keeps_label found more has never updates place entries taken = (
    record laid { labels = record { name = name.now; place = laid.place } ∷ laid.labels },
    ap (λ (l : Option (Bor (List ℕ))). with_label (label_told l) laid) is
        ∙ label_new laid name.now (ap is_some (sym (keeps.labels name.now)) ∙ sym has ∙ never),
    record {
      place = place ∙ keeps.place;
      within = keeps.within;
      labels = subst (λ (n : ℕ). HasPlaces more.labels (record { name = name.now; place = n } ∷ laid.labels)) keeps.place
          (places_more sheet.labels more.labels laid.labels name.now sheet.place keeps.labels updates);
      entries = ap entries_told entries ∙ keeps.entries;
      whole = ap length taken ∙ keeps.whole;
      taken = λ k inside. ap (λ (l : List Bool). get_or l k false) taken ∙ keeps.taken k inside;
      fit = keeps.fit;
    },
  )

-- ---- an item
module _ (part : Chip) (number : ℕ) (item : HeldItem) (sheet : Sheet) (laid : Laid) (keeps : Keeps part sheet laid) (size : ℕ)
    (is : size ≡ size_of (item_told item)) (within : sheet.place + size ≤ words_of part) where
  within_laid : laid.place + size_of (item_told item) ≤ words_of part
  within_laid = omega (arith, keeps.place, is, within)

  pub keeps_overlap : (k : ℕ) → sheet.place ≤ k → k < sheet.place + size → get_or sheet.taken.items k false ≡ true →
      with_order part number (put (item_told item)) laid ≡ Err Overlap
  keeps_overlap k low high given =
      put_overlap part number (item_told item) laid k within_laid (omega (arith, keeps.place, low)) (omega (arith, keeps.place, is, high))
      (sym (keeps.taken k (omega (arith, within, high))) ∙ given)

  pub keeps_put : (more : Sheet) (entry : HeldEntry) → FitsItem (item_told item) →
      ((k : ℕ) → sheet.place ≤ k → k < sheet.place + size → get_or sheet.taken.items k false ≡ false) →
      entry ≡ record { line = number; place = sheet.place; item = item } →
      more.place ≡ sheet.place + size → more.labels ≡ sheet.labels → more.entries.items ≡ sheet.entries.items ++ entry ∷ [] →
      ((k : ℕ) → k < length sheet.taken.items →
      get_or more.taken.items k false ≡ (nat_le sheet.place k && nat_lt k (sheet.place + size)) || get_or sheet.taken.items k false) →
      length more.taken.items ≡ length sheet.taken.items →
      (after : Laid) × (with_order part number (put (item_told item)) laid ≡ Ok after) × Keeps part more after
  keeps_put more entry fits free entry_is place labels entries marked long = (
    record laid { place = laid.place + size_of (item_told item); entries = put_entry ∷ laid.entries },
    put_new part number (item_told item) laid within_laid
        (λ k low high. sym (keeps.taken k (omega (arith, within_laid, high))) ∙ free k (omega (arith, keeps.place, low)) (omega (arith, keeps.place, is, high))),
    record {
      place = place ∙ behind;
      within = within_laid;
      labels = subst (λ (m : BTreeMap (Bor (List ℕ)) ℕ). HasPlaces m laid.labels) (sym labels) keeps.labels;
      entries = ap entries_told entries ∙ entries_more sheet.entries.items entry
          ∙ ap (λ (e : Entry). e ∷ entries_told sheet.entries.items) entry_same ∙ ap (λ (l : List Entry). put_entry ∷ l) keeps.entries;
      whole = long ∙ keeps.whole;
      taken = taken_more part sheet.taken.items more.taken.items laid.entries put_entry keeps.taken
          (λ k inside. marked k (omega (arith, keeps.whole, inside))
          ∙ ap (λ (n : ℕ). (nat_le n k && nat_lt k (sheet.place + size)) || get_or sheet.taken.items k false) keeps.place
          ∙ ap (λ (n : ℕ). (nat_le laid.place k && nat_lt k n) || get_or sheet.taken.items k false) behind);
      fit = (record { within = within_laid; item = fits }, keeps.fit);
    },
  )
    where
      put_entry : Entry
      put_entry = record { line = number; place = laid.place; item = item_told item }

      behind : sheet.place + size ≡ laid.place + size_of (item_told item)
      behind = omega (arith, keeps.place, is)

      entry_same : entry_told entry ≡ record { line = number; place = laid.place; item = item_told item }
      entry_same = ap entry_told entry_is ∙ ap (λ (n : ℕ). let e : Entry = record { line = number; place = n; item = item_told item } in e) keeps.place

-- ---- a place
pub keeps_origin : (part : Chip) (number : ℕ) (order : HeldOrder) (place : ℕ) (sheet : Sheet) (laid : Laid) → Keeps part sheet laid → order ≡ Origin place →
    place < words_of part → (more : Sheet) → more.place ≡ place → more.labels ≡ sheet.labels → more.entries ≡ sheet.entries → more.taken ≡ sheet.taken →
    (after : Laid) × (with_order part number (order_told order) laid ≡ Ok after) × Keeps part more after
keeps_origin part number order place sheet laid keeps is inside more place_is labels entries taken = (
  record laid { place = place },
  ap (λ (o : HeldOrder). with_order part number (order_told o) laid) is ∙ order_origin part number place laid inside,
  record {
    place = place_is;
    within = omega arith;
    labels = subst (λ (m : BTreeMap (Bor (List ℕ)) ℕ). HasPlaces m laid.labels) (sym labels) keeps.labels;
    entries = ap (λ v. entries_told v.items) entries ∙ keeps.entries;
    whole = ap (λ v. length v.items) taken ∙ keeps.whole;
    taken = λ k inside. ap (λ v. get_or v.items k false) taken ∙ keeps.taken k inside;
    fit = keeps.fit;
  },
)
