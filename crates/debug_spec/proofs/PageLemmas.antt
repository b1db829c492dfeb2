-- What page writes do to the words of a device.
use Rattle.std.proofs.Common.{◌≡◌, ℕ, zero, suc, ◌+◌, ◌*◌, ◌/◌, ◌<◌, ◌≤◌, ◌==◌, cond, Bool, true, false, List, [], ◌∷◌, ◌++◌, length, take}
use Rattle.std.proofs.Common.{drop, refl, sym, ◌∙◌, ap, ap₂, subst, arith, append_assoc, append-nil, length-append}
use Rattle.std.proofs.lemmas.List.{length-take-le, length-drop, take-append-drop, drop-drop, take_at, drop_at, take_all}
use Rattle.std.proofs.lemmas.Bool.{and_parts, eqb-true, true≢false}
use Rattle.part_spec.specs.Chip.{Chip, page_words, words_of}
use Rattle.debug_spec.specs.Patch.{break_word, has, without, patched_from, patch}
use Rattle.part_spec.specs.Pages.{page_of, with_page, same_words, page_has}
use Rattle.debug_spec.specs.Device.{Outcome, made, failed, denied, Asked, write, launch, outcome_of, is_made, page_left, next_of, later_of}
use Rattle.debug_spec.specs.Device.{Device, Tried, written, launched, untouched, synced_page, synced_from, words_after}
use Rattle.debug_spec.specs.PageLaws.{AreAnswered, LeadsTo, AreNeeded, AreTried, SyncIsExact, ReplantMakesPatch, EachLeads}
use Rattle.debug_spec.proofs.Sets.{has-without_other}

pub same_words-true : (words others : List ℕ) → same_words words others ≡ true → words ≡ others
same_words-true [] [] h = refl
same_words-true [] (other ∷ others) h = absurd (true≢false (sym h))
same_words-true (word ∷ words) [] h = absurd (true≢false (sym h))
same_words-true (word ∷ words) (other ∷ others) h =
    let parts = and_parts (word == other) (same_words words others) h in
    ap₂ (λ (w : ℕ) (t : List ℕ). w ∷ t) (eqb-true word other parts.0) (same_words-true words others parts.1)

-- the front of a list, and the front of what is behind it
take_both : (m n : ℕ) (xs : List ℕ) → take (m + n) xs ≡ take m xs ++ take n (drop m xs)
take_both zero n xs = let e : 0 + n ≡ n = omega arith in ap (λ (k : ℕ). take k xs) e
take_both (suc m) n [] =
    let e : suc m + n ≡ suc (m + n) = omega arith in
    ap (λ (k : ℕ). take {A = ℕ} k []) e ∙ sym (take_all n [] (omega arith))
take_both (suc m) n (x ∷ xs) =
    let e : suc m + n ≡ suc (m + n) = omega arith in
    ap (λ (k : ℕ). take k (x ∷ xs)) e ∙ ap (λ (t : List ℕ). x ∷ t) (take_both m n xs)

-- one page more
next_page : (page : ℕ) → page_words * suc page ≡ page_words * page + page_words
next_page page = omega arith

-- a flash is the pages before one, that page, and the pages behind it
pub flash_split : (flash : List ℕ) (page : ℕ) → with_page flash page (page_of flash page) ≡ flash
flash_split flash page =
    append_assoc (take (page_words * page) flash) (page_of flash page) (drop (page_words * page + page_words) flash) ∙
    ap (λ (t : List ℕ). take (page_words * page) flash ++ (take page_words (drop (page_words * page) flash) ++ t))
    (sym (drop-drop page_words (page_words * page) flash)) ∙
    ap (λ (t : List ℕ). take (page_words * page) flash ++ t) (take-append-drop page_words (drop (page_words * page) flash)) ∙
    take-append-drop (page_words * page) flash

-- what is asked leads to the device behind it
pub leads-nothing : (d : Device) → LeadsTo d d
leads-nothing d = record { asks = []; asked = sym (append-nil d.asked); words = refl; answered = refl }

pub leads-write : (page : ℕ) (words : List ℕ) (d : Device) → LeadsTo d (written page words d).device
leads-write page words d = record {
  asks = write page words (next_of d.outcomes) ∷ [];
  asked = refl;
  words = refl;
  answered = (refl, refl);
}

pub leads-launch : (d : Device) → LeadsTo d (launched d).device
leads-launch d = record { asks = launch (next_of d.outcomes) ∷ []; asked = refl; words = refl; answered = (refl, refl) }

words_after-append : (flash : List ℕ) (asked more : List Asked) →
    words_after flash (asked ++ more) ≡ words_after (words_after flash asked) more
words_after-append flash [] more = refl
words_after-append flash (write page words outcome ∷ asked) more =
    words_after-append (with_page flash page (page_left outcome (page_of flash page) words)) asked more
words_after-append flash (launch outcome ∷ asked) more = words_after-append flash asked more

pub AreAnswered-append : (outcomes middle left : List Outcome) (asked more : List Asked) → AreAnswered outcomes asked middle →
    AreAnswered middle more left →
    AreAnswered outcomes (asked ++ more) left
AreAnswered-append outcomes middle left [] more first then_on =
    let P : List Outcome → Type 0 = λ o. AreAnswered o more left in subst P (sym first) then_on
AreAnswered-append outcomes middle left (ask ∷ asked) more first then_on =
    (first.0, AreAnswered-append (later_of outcomes) middle left asked more first.1 then_on)

pub leads-onward : (a b c : Device) → LeadsTo a b → LeadsTo b c → LeadsTo a c
leads-onward a b c first then_on = record {
  asks = first.asks ++ then_on.asks;
  asked = then_on.asked ∙ ap (λ (t : List Asked). t ++ then_on.asks) first.asked ∙ append_assoc a.asked first.asks then_on.asks;
  words = then_on.words ∙ ap (λ (w : List ℕ). words_after w then_on.asks) first.words ∙
      sym (words_after-append a.words first.asks then_on.asks);
  answered = AreAnswered-append a.outcomes b.outcomes c.outcomes first.asks then_on.asks first.answered then_on.answered;
}

-- the page writes for wanted words, told whether the page has its words and whether the write was made
abbrev pub page_by : Bool → List ℕ → ℕ → Device → Tried
page_by b wanted page d = elim b [ true ↦ untouched d | false ↦ written page (page_of wanted page) d ]

pub leads-page : (wanted : List ℕ) (page : ℕ) (d : Device) → LeadsTo d (synced_page wanted page d).device
leads-page wanted page d = by_page (page_has d.words page (page_of wanted page))
  where
    by_page : (b : Bool) → LeadsTo d (page_by b wanted page d).device
    by_page true = leads-nothing d
    by_page false = leads-write page (page_of wanted page) d

abbrev pub onward_by : Bool → Tried → Tried → Tried
onward_by ok later tried = elim ok [ true ↦ later | false ↦ tried ]

pub leads-from : (n : ℕ) (wanted : List ℕ) (page : ℕ) (d : Device) → LeadsTo d (synced_from wanted page n d).device
leads-from zero wanted page d = leads-nothing d
leads-from (suc n) wanted page d =
    by_ok (synced_page wanted page d).ok (leads-from n wanted (suc page) (synced_page wanted page d).device)
  where
    by_ok : (b : Bool) → LeadsTo (synced_page wanted page d).device
        (synced_from wanted (suc page) n (synced_page wanted page d).device).device →
        LeadsTo d (onward_by b (synced_from wanted (suc page) n (synced_page wanted page d).device) (synced_page wanted page d)).device
    by_ok true later = leads-onward d (synced_page wanted page d).device
        (synced_from wanted (suc page) n (synced_page wanted page d).device).device
        (leads-page wanted page d) later
    by_ok false later = leads-page wanted page d

pub each_leads : EachLeads
each_leads = record {
  by_write = leads-write;
  by_launch = leads-launch;
  by_sync = λ part wanted d. leads-from part.pages wanted 0 d;
  by_replant = λ wanted address d. leads-page wanted (address / page_words) d;
  onward = leads-onward;
}

-- what holds of a device with n pages to go: its pages below are the wanted ones, and those to come are as they were
record IsUpTo (part : Chip) (flash wanted : List ℕ) (page : ℕ) (d : Device) : Type 0 where
  size : length d.words ≡ words_of part
  front : take (page_words * page) d.words ≡ take (page_words * page) wanted
  rest : drop (page_words * page) d.words ≡ drop (page_words * page) flash

-- what the writes from a page on do
record DoesFrom (part : Chip) (flash wanted : List ℕ) (page : ℕ) (d : Device) (tried : Tried) : Type 0 where
  leads : LeadsTo d tried.device
  needed : AreNeeded flash wanted page part.pages leads.asks
  up_to_failure : AreTried tried.ok leads.asks
  in_place : tried.ok ≡ true → tried.device.words ≡ wanted

AreNeeded-later : (flash wanted : List ℕ) (page below : ℕ) (asked : List Asked) → AreNeeded flash wanted (suc page) below asked →
    AreNeeded flash wanted page below asked
AreNeeded-later flash wanted page below [] h = tt
AreNeeded-later flash wanted page below (write other words outcome ∷ asked) h = (omega (arith, h.0), h.1, h.2, h.3, h.4)
AreNeeded-later flash wanted page below (launch outcome ∷ asked) h = h

AreTried-more : (ok : Bool) (ask : Asked) (asked : List Asked) → is_made (outcome_of ask) ≡ true → AreTried ok asked →
    AreTried ok (ask ∷ asked)
AreTried-more ok ask [] h tried = h ∙ sym tried
AreTried-more ok ask (next ∷ asked) h tried = (h, tried)

module _ (part : Chip) (flash wanted : List ℕ) (whole : length wanted ≡ words_of part) where
  -- the front and the rest of a flash with one more page
  front_more : (page : ℕ) (d : List ℕ) → take (page_words * page) d ≡ take (page_words * page) wanted →
      page_of d page ≡ page_of wanted page →
      take (page_words * suc page) d ≡ take (page_words * suc page) wanted
  front_more page d front here =
      ap (λ (n : ℕ). take n d) (next_page page) ∙ take_both (page_words * page) page_words d ∙
      ap₂ (λ (s t : List ℕ). s ++ t) front here ∙ sym (take_both (page_words * page) page_words wanted) ∙
      ap (λ (n : ℕ). take n wanted) (sym (next_page page))

  rest_more : (page : ℕ) (d : List ℕ) → drop (page_words * page) d ≡ drop (page_words * page) flash →
      drop (page_words * suc page) d ≡ drop (page_words * suc page) flash
  rest_more page d rest =
      ap (λ (n : ℕ). drop n d) (next_page page) ∙ sym (drop-drop page_words (page_words * page) d) ∙ ap (drop page_words) rest ∙
      drop-drop page_words (page_words * page) flash ∙ ap (λ (n : ℕ). drop n flash) (sym (next_page page))

  module _ (page : ℕ) (inside : page < part.pages) where
    page_size : (d : List ℕ) → length d ≡ words_of part → length (page_of d page) ≡ page_words
    page_size d size = length-take-le page_words (drop (page_words * page) d)
        (omega (arith, length-drop (page_words * page) d, size, inside))

    -- a page that was written
    up_to-made : (d : Device) → IsUpTo part flash wanted page d → (words_now : List ℕ) →
        words_now ≡ with_page d.words page (page_of wanted page) →
        (length words_now ≡ words_of part) × (take (page_words * suc page) words_now ≡ take (page_words * suc page) wanted) ×
        (drop (page_words * suc page) words_now ≡ drop (page_words * suc page) flash)
    up_to-made d up words_now e =
        let new = page_of wanted page in
        let front = take (page_words * page) d.words in
        let behind = drop (page_words * page + page_words) d.words in
        let front_size : length front ≡ page_words * page = length-take-le (page_words * page) d.words (omega (arith, up.size, inside)) in
        let both_size : length (front ++ new) ≡ page_words * page + page_words =
        length-append front new ∙ omega (arith, front_size, page_size wanted whole) in
        let joined : words_now ≡ (front ++ new) ++ behind = e in
        let size : length words_now ≡ words_of part = ap length joined ∙ length-append (front ++ new) behind ∙
        omega (arith, both_size, length-drop (page_words * page + page_words) d.words, up.size, inside) in (
          size,
          ap (λ (n : ℕ). take n words_now) (next_page page) ∙ ap (take (page_words * page + page_words)) joined ∙
              take_at (front ++ new) behind (page_words * page + page_words) both_size ∙
              ap (λ (t : List ℕ). t ++ new) up.front ∙ sym (take_both (page_words * page) page_words wanted) ∙
              ap (λ (n : ℕ). take n wanted) (sym (next_page page)),
          ap (λ (n : ℕ). drop n words_now) (next_page page) ∙ ap (drop (page_words * page + page_words)) joined ∙
              drop_at (front ++ new) behind (page_words * page + page_words) both_size ∙
              ap (λ (n : ℕ). drop n d.words) (sym (next_page page)) ∙ rest_more page d.words up.rest,
        )

    -- the words of a page that is still to come are those of the flash at first
    page_is : (d : Device) → IsUpTo part flash wanted page d → page_of d.words page ≡ page_of flash page
    page_is d up = ap (take page_words) up.rest

    -- one page and then the others
    does_more : (n : ℕ) (d : Device) → IsUpTo part flash wanted page d →
        ((e : Device) → IsUpTo part flash wanted (suc page) e →
        DoesFrom part flash wanted (suc page) e (synced_from wanted (suc page) n e)) →
        DoesFrom part flash wanted page d (synced_from wanted page (suc n) d)
    unfolding leads-onward leads-write
    does_more n d up later = by_page (page_has d.words page (page_of wanted page)) refl
      where
        -- no write: the page stands
        kept : page_has d.words page (page_of wanted page) ≡ true → IsUpTo part flash wanted (suc page) d
        kept has_it = record {
          size = up.size;
          front = front_more page d.words up.front (same_words-true (page_of d.words page) (page_of wanted page) has_it);
          rest = rest_more page d.words up.rest;
        }

        -- a write, by its outcome
        outcome_by : (o : Outcome) → next_of d.outcomes ≡ o → page_has d.words page (page_of wanted page) ≡ false →
            DoesFrom part flash wanted page d
            (onward_by (is_made o) (synced_from wanted (suc page) n (written page (page_of wanted page) d).device)
            (written page (page_of wanted page) d))
        outcome_by made o_is differs =
            let next = (written page (page_of wanted page) d).device in
            let now = up_to-made d up next.words
            (ap (λ (o : Outcome). with_page d.words page (page_left o (page_of d.words page) (page_of wanted page))) o_is) in
            let rest = later next (record { size = now.0; front = now.1; rest = now.2 }) in
            let end = synced_from wanted (suc page) n next in
            record {
              leads = leads-onward d next end.device (leads-write page (page_of wanted page) d) rest.leads;
              needed = (
                omega arith,
                inside,
                refl,
                ap (λ (t : List ℕ). same_words t (page_of wanted page)) (sym (page_is d up)) ∙
                    differs,
                rest.needed,
              );
              up_to_failure = AreTried-more end.ok (write page (page_of wanted page) (next_of d.outcomes)) rest.leads.asks (ap is_made o_is)
                  rest.up_to_failure;
              in_place = rest.in_place;
            }
        outcome_by (failed left) o_is differs = record {
          leads = leads-write page (page_of wanted page) d;
          needed = (omega arith, inside, refl, ap (λ (t : List ℕ). same_words t (page_of wanted page)) (sym (page_is d up)) ∙ differs, tt);
          up_to_failure = refl;
          in_place = λ h. absurd (true≢false (sym h ∙ ap is_made o_is));
        }
        outcome_by denied o_is differs = record {
          leads = leads-write page (page_of wanted page) d;
          needed = (omega arith, inside, refl, ap (λ (t : List ℕ). same_words t (page_of wanted page)) (sym (page_is d up)) ∙ differs, tt);
          up_to_failure = refl;
          in_place = λ h. absurd (true≢false (sym h ∙ ap is_made o_is));
        }

        by_page : (b : Bool) → page_has d.words page (page_of wanted page) ≡ b →
            DoesFrom part flash wanted page d
            (onward_by (page_by b wanted page d).ok (synced_from wanted (suc page) n (page_by b wanted page d).device)
            (page_by b wanted page d))
        by_page true has_it =
            let rest = later d (kept has_it) in
            record {
              leads = rest.leads;
              needed = AreNeeded-later flash wanted page part.pages rest.leads.asks rest.needed;
              up_to_failure = rest.up_to_failure;
              in_place = rest.in_place;
            }
        by_page false differs =
            outcome_by (next_of d.outcomes) refl differs

  does_from : (n page : ℕ) (d : Device) → page + n ≡ part.pages → IsUpTo part flash wanted page d →
      DoesFrom part flash wanted page d (synced_from wanted page n d)
  unfolding leads-nothing
  does_from zero page d all up =
      let end : page_words * page ≡ words_of part = omega (arith, all) in
      record {
        leads = leads-nothing d;
        needed = tt;
        up_to_failure = refl;
        in_place = λ h. sym (take_all (page_words * page) d.words (omega (arith, up.size, end))) ∙ up.front ∙
            take_all (page_words * page) wanted (omega (arith, whole, end));
      }
  does_from (suc n) page d all up =
      does_more page (omega (arith, all)) n d up (λ e up_e. does_from n (suc page) e (omega (arith, all)) up_e)

pub sync_is_exact : SyncIsExact
sync_is_exact part wanted d size whole =
    let did = does_from part d.words wanted whole part.pages 0 d (omega arith) (record { size = size; front = refl; rest = refl }) in
    record { leads = did.leads; needed = did.needed; up_to_failure = did.up_to_failure; in_place = did.in_place }

-- programs with two sets planted are the same where the sets are
take-patched : (n from : ℕ) (words set other : List ℕ) → ((i : ℕ) → i < n → has set (from + i) ≡ has other (from + i)) →
    take n (patched_from from words set) ≡ take n (patched_from from words other)
take-patched zero from words set other same = refl
take-patched (suc n) from [] set other same = refl
take-patched (suc n) from (word ∷ words) set other same =
    let here : has set from ≡ has other from = let e : from + 0 ≡ from = omega arith in
    subst (λ (k : ℕ). has set k ≡ has other k) e (same 0 (omega arith)) in
    ap₂ (λ (t : Bool) (rest : List ℕ). cond t break_word word ∷ rest) here
    (take-patched n (suc from) words set other (λ i h. let e : from + suc i ≡ suc from + i = omega arith in
    subst (λ (k : ℕ). has set k ≡ has other k) e (same (suc i) (omega arith))))

drop-patched : (n from : ℕ) (words set other : List ℕ) → ((i : ℕ) → n ≤ i → has set (from + i) ≡ has other (from + i)) →
    drop n (patched_from from words set) ≡ drop n (patched_from from words other)
drop-patched zero from [] set other same = refl
drop-patched zero from (word ∷ words) set other same =
    let here : has set from ≡ has other from = let e : from + 0 ≡ from = omega arith in
    subst (λ (k : ℕ). has set k ≡ has other k) e (same 0 (omega arith)) in
    ap₂ (λ (t : Bool) (rest : List ℕ). cond t break_word word ∷ rest) here
    (drop-patched zero (suc from) words set other (λ i h. let e : from + suc i ≡ suc from + i = omega arith in
    subst (λ (k : ℕ). has set k ≡ has other k) e (same (suc i) (omega arith))))
drop-patched (suc n) from [] set other same = refl
drop-patched (suc n) from (word ∷ words) set other same =
    drop-patched n (suc from) words set other (λ i h. let e : from + suc i ≡ suc from + i = omega arith in
    subst (λ (k : ℕ). has set k ≡ has other k) e (same (suc i) (omega arith)))

-- a program with two sets planted that have the same addresses
pub same_patch : (prog set other : List ℕ) → ((a : ℕ) → has set a ≡ has other a) → patch prog set ≡ patch prog other
same_patch prog set other same = drop-patched 0 0 prog set other (λ i h. same (0 + i))

module _ (prog set : List ℕ) (address : ℕ) where
  abbrev page : ℕ
  page = address / page_words

  same_has : (i : ℕ) → (address ≡ i → ⊥) → has (without address set) (0 + i) ≡ has set (0 + i)
  same_has i apart = has-without_other address (0 + i) set (λ h. apart (omega (arith, h)))

  -- outside the page of an address the patch with it and the patch without it are the same
  other_pages : (words : List ℕ) → with_page (patch prog (without address set)) page words ≡ with_page (patch prog set) page words
  other_pages words = ap₂ (λ (front behind : List ℕ). front ++ words ++ behind)
      (take-patched (page_words * page) 0 prog (without address set) set (λ i h. same_has i (λ e. absurd (omega (arith, e, h)))))
      (drop-patched (page_words * page + page_words) 0 prog (without address set) set
      (λ i h. same_has i (λ e. absurd (omega (arith, e, h)))))

  patch_once_written : with_page (patch prog (without address set)) page (page_of (patch prog set) page) ≡ patch prog set
  patch_once_written = other_pages (page_of (patch prog set) page) ∙ flash_split (patch prog set) page

  replant_made : (d : Device) → d.words ≡ patch prog (without address set) → (b : Bool) →
      page_has d.words page (page_of (patch prog set) page) ≡ b →
      (page_by b (patch prog set) page d).ok ≡ true → (page_by b (patch prog set) page d).device.words ≡ patch prog set
  replant_made d at true has_it ok =
      sym (flash_split d.words page) ∙
      ap (with_page d.words page) (same_words-true (page_of d.words page) (page_of (patch prog set) page) has_it) ∙
      ap (λ (w : List ℕ). with_page w page (page_of (patch prog set) page)) at ∙ patch_once_written
  replant_made d at false differs ok = by_outcome (next_of d.outcomes) ok
    where
      by_outcome : (o : Outcome) → is_made o ≡ true →
          with_page d.words page (page_left o (page_of d.words page) (page_of (patch prog set) page)) ≡ patch prog set
      by_outcome made ok = ap (λ (w : List ℕ). with_page w page (page_of (patch prog set) page)) at ∙ patch_once_written
      by_outcome (failed left) ok = absurd (true≢false (sym ok))
      by_outcome denied ok = absurd (true≢false (sym ok))

pub replant_makes_patch : ReplantMakesPatch
replant_makes_patch prog set address d at ok =
    replant_made prog set address d at (page_has d.words (address / page_words) (page_of (patch prog set) (address / page_words))) refl ok
