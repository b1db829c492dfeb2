-- What programming does to the program and to the device.
use Rattle.std.proofs.Common.{◌≡◌, ℕ, zero, suc, ◌+◌, ◌*◌, ◌<◌, ◌≤◌, Bool, true, false, List, [], ◌∷◌, ◌++◌, length, take, drop, refl, sym}
use Rattle.std.proofs.Common.{◌∙◌, ap, subst, arith, append_assoc, length-append, ◌⊎◌, inl, inr}
use Rattle.std.proofs.lemmas.List.{length-take-le, take-append-drop, take-append-le, drop-take, take_at, drop_at}
use Rattle.std.proofs.lemmas.Slice.{drop-append-drop}
use Rattle.std.proofs.lemmas.Bool.{cases_eq, true≢false}
use Rattle.part_spec.specs.Chip.{Chip, page_words, words_of}
use Rattle.part_spec.specs.Pages.{page_of, with_page, page_has}
use Rattle.debug_spec.specs.Device.{Outcome, made, failed, denied, Asked, write, is_made, page_left, next_of, Device, Tried, written}
use Rattle.debug_spec.specs.Device.{synced_page, synced_from}
use Rattle.debug_spec.specs.Programming.{Programmed, programmed_from}
use Rattle.debug_spec.specs.PageLaws.{ProgrammingIsExact}
use Rattle.debug_spec.proofs.PageLemmas.{page_by, onward_by, same_words-true}
use Rattle.debug_spec.proofs.Fits.{length-page_of, length-with_page}

-- a flash that has the page: before it nothing changes with it, it has the words, and behind it nothing changes
module _ (flash words : List ℕ) (page : ℕ) (full : page_words * page ≤ length flash) where
  abbrev front : List ℕ
  front = take (page_words * page) flash

  length-front : length front ≡ page_words * page
  length-front = length-take-le (page_words * page) flash full

  abbrev rest : List ℕ
  rest = drop (page_words * page + page_words) flash

  with_page-front : (n : ℕ) → n ≤ page_words * page → take n (with_page flash page words) ≡ take n flash
  with_page-front n within =
      let inside : n ≤ length front = omega (arith, within, length-front) in
      ap (take n) (append_assoc front words rest) ∙ take-append-le n front (words ++ rest) inside ∙
      sym (take-append-le n front (drop (page_words * page) flash) inside) ∙ ap (take n) (take-append-drop (page_words * page) flash)

  pub page_before : (k : ℕ) → k < page → page_of (with_page flash page words) k ≡ page_of flash k
  page_before k low =
      sym (drop-take (page_words * k) page_words (with_page flash page words)) ∙
      ap (drop (page_words * k)) (with_page-front (page_words * k + page_words) (omega (arith, low))) ∙
      drop-take (page_words * k) page_words flash

  module _ (size : length words ≡ page_words) where
    pub page_itself : page_of (with_page flash page words) page ≡ words
    page_itself =
        ap (λ (t : List ℕ). take page_words (drop (page_words * page) t)) (append_assoc front words rest) ∙
        ap (take page_words) (drop_at front (words ++ rest) (page_words * page) length-front) ∙ take_at words rest page_words size

    pub page_behind : (k : ℕ) → page < k → page_of (with_page flash page words) k ≡ page_of flash k
    page_behind k high =
        let joined : length (front ++ words) ≡ page_words * page + page_words =
        length-append front words ∙ omega (arith, length-front, size) in
        ap (take page_words)
        (drop-append-drop (page_words * page + page_words) flash (front ++ words) (page_words * k) (omega (arith, high)) joined)

-- the pages to go, told whether the first has its words
abbrev onward_or : Bool → Programmed → List ℕ → Device → Programmed
onward_or ok later prog d = elim ok [ true ↦ later | false ↦ record { ok = false; prog = prog; device = d } ]

-- programming comes to the same end as page writes, with the same device
abbrev SameEnd : Programmed → Tried → Type 0
SameEnd done tried = (done.ok ≡ tried.ok) × (done.device ≡ tried.device)

-- of the device programming asks what the page writes for the wanted words ask
pub as_synced : (n : ℕ) (wanted : List ℕ) (page : ℕ) (prog : List ℕ) (d : Device) →
    SameEnd (programmed_from wanted page n prog d) (synced_from wanted page n d)
as_synced zero wanted page prog d = (refl, refl)
as_synced (suc n) wanted page prog d = by_ok tried.ok refl (as_synced n wanted (suc page) next tried.device)
  where
    tried : Tried
    tried = synced_page wanted page d

    next : List ℕ
    next = with_page prog page (page_of wanted page)

    by_ok : (b : Bool) → tried.ok ≡ b →
        SameEnd (programmed_from wanted (suc page) n next tried.device) (synced_from wanted (suc page) n tried.device) →
        SameEnd (onward_or b (programmed_from wanted (suc page) n next tried.device) prog tried.device)
        (onward_by b (synced_from wanted (suc page) n tried.device) tried)
    by_ok true ok later = later
    by_ok false ok later = (sym ok, refl)

-- what programming does, and that the device keeps the pages before
record Does (wanted : List ℕ) (page n : ℕ) (prog : List ℕ) (before : Device) (done : Programmed) : Type 0 where
  size : length done.prog ≡ length prog
  count : ℕ
  within : count ≤ n
  all : done.ok ≡ true → count ≡ n
  failed_next : done.ok ≡ false → (count < n) × ((asked : List Asked) × (outcome : Outcome) ×
      (done.device.asked ≡ asked ++ write (page + count) (page_of wanted (page + count)) outcome ∷ []))
  new_words : (k : ℕ) → page ≤ k → k < page + count →
      (page_of done.prog k ≡ page_of wanted k) × (page_of done.device.words k ≡ page_of wanted k)
  old_words : (k : ℕ) → (k < page) ⊎ (page + count ≤ k) → page_of done.prog k ≡ page_of prog k
  earlier : (k : ℕ) → k < page → page_of done.device.words k ≡ page_of before.words k

module _ (part : Chip) (wanted : List ℕ) (whole : length wanted ≡ words_of part) where
  module _ (page n : ℕ) (prog : List ℕ) (d : Device) (inside : page < part.pages) (prog_size : length prog ≡ words_of part)
      (size : length d.words ≡ words_of part) where
    abbrev words : List ℕ
    words = page_of wanted page

    abbrev next : List ℕ
    next = with_page prog page (page_of wanted page)

    words_size : length words ≡ page_words
    words_size = length-page_of part wanted page whole inside

    full : page_words * page ≤ length prog
    full = omega (arith, prog_size, inside)

    -- the page has its words, and then the others
    more : (e : Device) → page_of e.words page ≡ words → ((k : ℕ) → k < page → page_of e.words k ≡ page_of d.words k) →
        (done : Programmed) → Does wanted (suc page) n next e done → Does wanted page (suc n) prog d done
    more e has_it kept done rest = record {
      size = rest.size ∙ length-with_page part prog words page prog_size inside words_size ∙ sym prog_size;
      count = suc rest.count;
      within = omega (arith, rest.within);
      all = λ h. ap suc (rest.all h);
      failed_next = λ h. let told = rest.failed_next h in
          let at : suc page + rest.count ≡ page + suc rest.count = omega arith in (
            omega (arith, told.0),
            (told.1.0, told.1.1, told.1.2 ∙ ap (λ (m : ℕ). told.1.0 ++ write m (page_of wanted m) told.1.1 ∷ []) at),
          );
      new_words = λ k low high. elim (cases_eq k page) [
        | inl here ↦ by_place k here
        | inr apart ↦ rest.new_words k (omega (arith, low, apart)) (omega (arith, high))
      ];
      old_words = λ k out. elim out [
        | inl low ↦ rest.old_words k (inl (omega (arith, low))) ∙ page_before prog words page full k low
        | inr high ↦ rest.old_words k (inr (omega (arith, high))) ∙ page_behind prog words page full words_size k (omega (arith, high))
      ];
      earlier = λ k low. rest.earlier k (omega (arith, low)) ∙ kept k low;
    }
      where
        here_now : (page_of done.prog page ≡ page_of wanted page) × (page_of done.device.words page ≡ page_of wanted page)
        here_now = (
          rest.old_words page (inl (omega arith)) ∙ page_itself prog words page full words_size,
          rest.earlier page (omega arith) ∙ has_it,
        )

        by_place : (k : ℕ) → k ≡ page → (page_of done.prog k ≡ page_of wanted k) × (page_of done.device.words k ≡ page_of wanted k)
        by_place k e =
            let HasWords : ℕ → Type 0 = λ m. (page_of done.prog m ≡ page_of wanted m) × (page_of done.device.words m ≡ page_of wanted m) in
            subst HasWords (sym e) here_now

    -- the page is not written as wanted, and the others are not tried
    none : (e : Device) → (outcome : Outcome) → e.asked ≡ d.asked ++ write page words outcome ∷ [] →
        ((k : ℕ) → k < page → page_of e.words k ≡ page_of d.words k) →
        Does wanted page (suc n) prog d (record { ok = false; prog = prog; device = e })
    none e outcome asked kept = record {
      size = refl;
      count = 0;
      within = omega arith;
      all = λ h. absurd (true≢false (sym h));
      failed_next = λ h. let at : page ≡ page + 0 = omega arith in
          (omega arith, (d.asked, outcome, asked ∙ ap (λ (m : ℕ). d.asked ++ write m (page_of wanted m) outcome ∷ []) at));
      new_words = λ k low high. absurd (omega (arith, low, high));
      old_words = λ k out. refl;
      earlier = kept;
    }

    -- the page was tried, and the others are to go
    abbrev tries : Bool → Device → Programmed
    tries ok e = onward_or ok (programmed_from wanted (suc page) n next e) prog e

    abbrev now : Device
    now = (written page words d).device

    does_more : ((e : Device) → length e.words ≡ words_of part →
        Does wanted (suc page) n next e (programmed_from wanted (suc page) n next e)) →
        Does wanted page (suc n) prog d (programmed_from wanted page (suc n) prog d)
    does_more later = by_page (page_has d.words page words) refl
      where
        room : page_words * page ≤ length d.words
        room = omega (arith, size, inside)

        left : List ℕ
        left = page_left (next_of d.outcomes) (page_of d.words page) words

        by_outcome : (o : Outcome) → next_of d.outcomes ≡ o → Does wanted page (suc n) prog d (tries (is_made o) now)
        by_outcome made o_is =
            let has_it : now.words ≡ with_page d.words page words =
            ap (λ (o : Outcome). with_page d.words page (page_left o (page_of d.words page) words)) o_is in
            more now
            (ap (λ (w : List ℕ). page_of w page) has_it ∙ page_itself d.words words page room words_size)
            (λ k low. page_before d.words left page room k low)
            (programmed_from wanted (suc page) n next now)
            (later now (ap length has_it ∙ length-with_page part d.words words page size inside words_size))
        by_outcome (failed torn) o_is = none now (next_of d.outcomes) refl (λ k low. page_before d.words left page room k low)
        by_outcome denied o_is = none now (next_of d.outcomes) refl (λ k low. page_before d.words left page room k low)

        by_page : (b : Bool) → page_has d.words page words ≡ b →
            Does wanted page (suc n) prog d (tries (page_by b wanted page d).ok (page_by b wanted page d).device)
        by_page true has_it =
            let here = same_words-true (page_of d.words page) words has_it in
            more d here (λ k low. refl) (programmed_from wanted (suc page) n next d) (later d size)
        by_page false differs = by_outcome (next_of d.outcomes) refl

  does : (n page : ℕ) (prog : List ℕ) (d : Device) → page + n ≤ part.pages → length prog ≡ words_of part → length d.words ≡ words_of part →
      Does wanted page n prog d (programmed_from wanted page n prog d)
  does zero page prog d inside prog_size size = record {
    size = refl;
    count = 0;
    within = omega arith;
    all = λ h. refl;
    failed_next = λ h. absurd (true≢false h);
    new_words = λ k low high. absurd (omega (arith, low, high));
    old_words = λ k out. refl;
    earlier = λ k low. refl;
  }
  does (suc n) page prog d inside prog_size size =
      let low : page < part.pages = omega (arith, inside) in
      let next_size = length-with_page part prog (page_of wanted page) page prog_size low (length-page_of part wanted page whole low) in
      does_more page n prog d low prog_size size
      (λ e e_size. does n (suc page) (with_page prog page (page_of wanted page)) e (omega (arith, inside)) next_size e_size)

pub programming_is_exact : ProgrammingIsExact
programming_is_exact part wanted page n prog d whole prog_size size inside =
    let did = does part wanted whole n page prog d inside prog_size size in
    let asked = as_synced n wanted page prog d in
    record {
      ok = asked.0;
      device = asked.1;
      size = did.size;
      count = did.count;
      within = did.within;
      all = did.all;
      failed_next = did.failed_next;
      new_words = did.new_words;
      old_words = did.old_words;
    }
