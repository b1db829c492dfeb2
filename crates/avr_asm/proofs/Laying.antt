-- What lines lay out, step by step.
use Rattle.std.proofs.Common.{◌≡◌, ℕ, ◌+◌, ◌<◌, ◌≤◌, ◌&&◌, ◌||◌, Bool, true, false, nat_le, nat_lt, List, [], ◌∷◌, ◌++◌, get_or, map, refl, sym, ap, ◌∙◌, arith}
use Rattle.std.proofs.lemmas.Bool.Decides.{nat_tests}
use Rattle.std.specs.Prelude.{cond, reverse, count_by, Option, None, Some, is_some, Result, Ok, Err}
use Rattle.std.specs.List.{list_any}
use Rattle.std.specs.Str.{bytes_eq}
use Rattle.std.specs.BTreeMap.{BTreeMap, UpdatesBy}
use Rattle.std.specs.Borrow.{Bor}
use Rattle.std.specs.Ordering.{nat_cmp}
use Rattle.std.specs.Cmp.Lexicographic.{slice_cmp}
use Rattle.std.proofs.lemmas.List.{map-append, reverse-append}
use Rattle.std.proofs.lemmas.List.Sums.{sum_by-cons}
use Rattle.std.proofs.lemmas.Map.Text.{btree_map_updates_str}
use Rattle.part_spec.specs.Chip.{Chip, words_of}
use Rattle.asm_spec.specs.declared.kind.AsmKind.{AsmKind}
use Rattle.asm_spec.specs.declared.kind.AsmKind.TheVariants.{Twice, Place, Overlap}
use Rattle.asm_spec.specs.Reading.{Item, plain, coded, Line, Order, nothing, origin, put, reading}
use Rattle.asm_spec.specs.Words.{Entry, Fault, Label, Laid, laid_on, overlaps, place_of, size_of, with_label, with_line, with_order}
use Rattle.avr_asm.specs.declared.sheet.Entry.{Entry as HeldEntry}
use Rattle.avr_asm.specs.Orders.{capped_order}
use Rattle.avr_asm.specs.Told.{capped}
use Rattle.avr_asm.specs.Sheets.{AreTaken, HasPlaces, covers, entries_told, entry_told, place_under, said_by}

-- ---- labels
-- the places with one label more
pub places_more : (held more : BTreeMap (Bor (List ℕ)) ℕ) (labels : List Label) (name : List ℕ) (place : ℕ) → HasPlaces held labels →
    UpdatesBy (λ x y. slice_cmp nat_cmp x.now y.now) (λ key. slice_cmp nat_cmp name key.now) held more (Some place) →
    HasPlaces more (record { name = name; place = place } ∷ labels)
places_more held more labels name place has updates q =
    btree_map_updates_str name held more (Some place) updates q ∙ by_test (bytes_eq name q) refl
  where
    by_test : (b : Bool) → bytes_eq name q ≡ b →
        cond (bytes_eq name q) (Some place) (place_under held q) ≡ place_of (record { name = name; place = place } ∷ labels) q
    by_test true h = rw h refl
    by_test false h = rw h (has q)

pub label_twice : (laid : Laid) (name : List ℕ) → is_some (place_of laid.labels name) ≡ true → with_label (Some name) laid ≡ Err Twice
label_twice laid name h = by_place (place_of laid.labels name) refl
  where
    by_place : (found : Option ℕ) → place_of laid.labels name ≡ found → with_label (Some name) laid ≡ Err Twice
    by_place (Some place) is = rw is refl
    by_place None is = absurd (let never : false ≡ true = ap is_some (sym is) ∙ h in cc)

pub label_new : (laid : Laid) (name : List ℕ) → is_some (place_of laid.labels name) ≡ false →
    with_label (Some name) laid ≡ Ok (record laid { labels = record { name = name; place = laid.place } ∷ laid.labels })
label_new laid name h = by_place (place_of laid.labels name) refl
  where
    by_place : (found : Option ℕ) → place_of laid.labels name ≡ found →
        with_label (Some name) laid ≡ Ok (record laid { labels = record { name = name; place = laid.place } ∷ laid.labels })
    by_place (Some place) is = absurd (let never : true ≡ false = ap is_some (sym is) ∙ h in cc)
    by_place None is = rw is refl

-- ---- entries
pub entries_more : (items : List HeldEntry) (entry : HeldEntry) → entries_told (items ++ entry ∷ []) ≡ entry_told entry ∷ entries_told items
entries_more items entry =
    ap reverse (map-append entry_told items (entry ∷ [])) ∙ reverse-append (map entry_told items) (entry_told entry ∷ [])

-- an item has a word
size_some : (item : Item) → 1 ≤ size_of item
size_some (plain word) = omega arith
size_some (coded letters operands) = omega arith

-- ---- words given before
-- an entry that shares no place with others
apart : (place size : ℕ) (entry : Entry) → 1 ≤ size → ((k : ℕ) → place ≤ k → k < place + size → covers k entry ≡ false) →
    overlaps place size entry ≡ false
apart place size entry some never = by_test (overlaps place size entry) refl
  where
    by_test : (b : Bool) → overlaps place size entry ≡ b → overlaps place size entry ≡ false
    by_test false h = h
    by_test true h = absurd (clash (nat_le place entry.place) refl)
      where
        clash : (c : Bool) → nat_le place entry.place ≡ c → ⊥
        clash true at = grind (arith, nat_tests, h, at, never entry.place, size_some entry.item)
        clash false at = grind (arith, nat_tests, h, at, never place, size_some entry.item)

pub none_overlaps : (place size : ℕ) (entries : List Entry) → 1 ≤ size →
    ((k : ℕ) → place ≤ k → k < place + size → list_any (covers k) entries ≡ false) → count_by (overlaps place size) entries ≡ 0
none_overlaps place size [] some never = refl
none_overlaps place size (entry ∷ earlier) some never =
    rw (apart place size entry some (λ k low high. left_false (covers k entry) (list_any (covers k) earlier) (never k low high)))
    (none_overlaps place size earlier some (λ k low high. right_false (covers k entry) (list_any (covers k) earlier) (never k low high)))
  where
    left_false : (a b : Bool) → (a || b) ≡ false → a ≡ false
    left_false false b h = refl
    left_false true b h = h

    right_false : (a b : Bool) → (a || b) ≡ false → b ≡ false
    right_false false b h = h
    right_false true b h = absurd (cc)

-- an entry that shares a place
shared : (place size k : ℕ) (entry : Entry) → place ≤ k → k < place + size → covers k entry ≡ true → overlaps place size entry ≡ true
shared place size k entry low high h = grind (arith, nat_tests)

some_step : (place size k : ℕ) (entry : Entry) (earlier : List Entry) (b : Bool) → covers k entry ≡ b → place ≤ k → k < place + size →
    (list_any (covers k) earlier ≡ true → 0 < count_by (overlaps place size) earlier) → list_any (covers k) (entry ∷ earlier) ≡ true →
    0 < count_by (overlaps place size) (entry ∷ earlier)
some_step place size k entry earlier true at low high rest h =
    omega (
      arith,
      sum_by-cons (λ x. cond (overlaps place size x) 1 0) entry earlier,
      ap {B = ℕ} (λ (b : Bool). cond b 1 0) (shared place size k entry low high at),
    )
some_step place size k entry earlier false at low high rest h =
    omega (arith, sum_by-cons (λ x. cond (overlaps place size x) 1 0) entry earlier, rest (ap (λ (b : Bool). b || list_any (covers k) earlier) (sym at) ∙ h))

pub some_overlaps : (place size k : ℕ) (entries : List Entry) → place ≤ k → k < place + size → list_any (covers k) entries ≡ true →
    0 < count_by (overlaps place size) entries
some_overlaps place size k [] low high h = absurd (cc)
some_overlaps place size k (entry ∷ earlier) low high h =
    some_step place size k entry earlier (covers k entry) refl low high (λ more. some_overlaps place size k earlier low high more) h

-- the places that are marked with an entry more
pub taken_more : (part : Chip) (taken more : List Bool) (entries : List Entry) (entry : Entry) → AreTaken part taken entries →
    ((k : ℕ) → k < words_of part →
    get_or more k false ≡ (nat_le entry.place k && nat_lt k (entry.place + size_of entry.item)) || get_or taken k false) →
    AreTaken part more (entry ∷ entries)
taken_more part taken more entries entry are marked k inside =
    marked k inside ∙ ap (λ (b : Bool). covers k entry || b) (are k inside)

-- ---- what a statement does
pub order_place : (part : Chip) (number place : ℕ) (laid : Laid) → words_of part ≤ place → with_order part number (origin place) laid ≡ Err Place
order_place part number place laid far = rw nat_lt_false refl
  where
    nat_lt_false : nat_lt place (words_of part) ≡ false
    nat_lt_false = grind (arith, nat_tests)

pub order_origin : (part : Chip) (number place : ℕ) (laid : Laid) → place < words_of part →
    with_order part number (origin place) laid ≡ Ok (record laid { place = place })
order_origin part number place laid inside = rw nat_lt_true refl
  where
    nat_lt_true : nat_lt place (words_of part) ≡ true
    nat_lt_true = grind (arith, nat_tests)

-- a place is told alike below the end of the flash
pub order_capped : (part : Chip) (number : ℕ) (order : Order) (laid : Laid) → words_of part ≤ 16384 →
    with_order part number (capped_order order) laid ≡ with_order part number order laid
order_capped part number nothing laid small = refl
order_capped part number (put item) laid small = refl
order_capped part number (origin place) laid small = by_test (nat_lt place (words_of part)) refl
  where
    by_test : (b : Bool) → nat_lt place (words_of part) ≡ b →
        with_order part number (origin (capped place)) laid ≡ with_order part number (origin place) laid
    by_test true h =
        let inside : place < words_of part = grind (arith, nat_tests) in
        let same : capped place ≡ place = omega arith in
        ap (λ (n : ℕ). with_order part number (origin n) laid) same
    by_test false h =
        let far : words_of part ≤ place = grind (arith, nat_tests) in
        order_place part number (capped place) laid (omega arith) ∙ sym (order_place part number place laid far)

module _ (part : Chip) (number : ℕ) (item : Item) (laid : Laid) where
  pub put_place : words_of part < laid.place + size_of item → with_order part number (put item) laid ≡ Err Place
  put_place far = rw past refl
    where
      past : nat_lt (words_of part) (laid.place + size_of item) ≡ true
      past = grind (arith, nat_tests)

  within_false : laid.place + size_of item ≤ words_of part → nat_lt (words_of part) (laid.place + size_of item) ≡ false
  within_false within = grind (arith, nat_tests)

  pub put_overlap : (k : ℕ) → laid.place + size_of item ≤ words_of part → laid.place ≤ k → k < laid.place + size_of item →
      list_any (covers k) laid.entries ≡ true → with_order part number (put item) laid ≡ Err Overlap
  put_overlap k within low high given = rw (within_false within) (rw clash refl)
    where
      clash : nat_lt 0 (count_by (overlaps laid.place (size_of item)) laid.entries) ≡ true
      clash = grind (arith, nat_tests, some_overlaps laid.place (size_of item) k laid.entries low high given)

  pub put_new : laid.place + size_of item ≤ words_of part →
      ((k : ℕ) → laid.place ≤ k → k < laid.place + size_of item → list_any (covers k) laid.entries ≡ false) →
      with_order part number (put item) laid ≡ Ok (record laid {
        place = laid.place + size_of item;
        entries = record { line = number; place = laid.place; item = item } ∷ laid.entries;
      })
  put_new within none = rw (within_false within) (rw no_clash refl)
    where
      no_clash : nat_lt 0 (count_by (overlaps laid.place (size_of item)) laid.entries) ≡ false
      no_clash = grind (arith, nat_tests, none_overlaps laid.place (size_of item) laid.entries (size_some item) none)

-- ---- what a line says
pub line_wrong : (part : Chip) (number : ℕ) (line : List ℕ) (laid : Laid) (kind : AsmKind) → reading part line ≡ Err kind →
    said_by part number line laid ≡ Err kind
line_wrong part number line laid kind is = rw is refl

pub label_wrong : (part : Chip) (number : ℕ) (line : List ℕ) (laid : Laid) (said : Line) (kind : AsmKind) → reading part line ≡ Ok said →
    with_label said.label laid ≡ Err kind → said_by part number line laid ≡ Err kind
label_wrong part number line laid said kind is wrong = rw is (rw wrong refl)

pub order_next : (part : Chip) (number : ℕ) (line : List ℕ) (laid named : Laid) (said : Line) → reading part line ≡ Ok said →
    with_label said.label laid ≡ Ok named → said_by part number line laid ≡ with_order part number said.order named
order_next part number line laid named said is label = rw is (rw label refl)

-- ---- the lines of a text
pub lines_wrong : (part : Chip) (number : ℕ) (laid : Laid) (line : List ℕ) (lines : List (List ℕ)) (kind : AsmKind) →
    said_by part number line laid ≡ Err kind → laid_on part number laid (line ∷ lines) ≡ Err (record { line = number; kind = kind })
lines_wrong part number laid line lines kind wrong = by_reading (reading part line) refl
  where
    by_reading : (r : Result Line AsmKind) → reading part line ≡ r →
        laid_on part number laid (line ∷ lines) ≡ Err (record { line = number; kind = kind })
    by_reading (Err other) is =
        let same : Err other ≡ Err kind = sym (line_wrong part number line laid other is) ∙ wrong in
        rw is (ap (with_number number) same)
      where
        with_number : ℕ → Result Laid AsmKind → Result Laid Fault
        with_number number (Ok laid) = Ok laid
        with_number number (Err kind) = Err (record { line = number; kind = kind })
    by_reading (Ok said) is =
        let here : with_line part number said laid ≡ Err kind = rw is at wrong in
        rw is (rw here refl)

pub lines_next : (part : Chip) (number : ℕ) (laid more : Laid) (line : List ℕ) (lines : List (List ℕ)) →
    said_by part number line laid ≡ Ok more → laid_on part number laid (line ∷ lines) ≡ laid_on part (number + 1) more lines
lines_next part number laid more line lines next = by_reading (reading part line) refl
  where
    by_reading : (r : Result Line AsmKind) → reading part line ≡ r →
        laid_on part number laid (line ∷ lines) ≡ laid_on part (number + 1) more lines
    by_reading (Err other) is = absurd (let never : Err other ≡ Ok more = sym (line_wrong part number line laid other is) ∙ next in cc)
    by_reading (Ok said) is =
        let here : with_line part number said laid ≡ Ok more = rw is at next in
        rw is (rw here refl)
