-- Pages that are programmed, one by one.
use Rattle.std.proofs.Common.{◌≡◌, ℕ, zero, suc, ◌+◌, ◌*◌, ◌%◌, ◌<◌, ◌≤◌, Bool, true, false, List, [], ◌++◌, length, take, drop, replicate}
use Rattle.std.proofs.Common.{◌-◌}
use Rattle.std.proofs.Common.{refl, sym, ap, ◌∙◌, arith, append_assoc, append-nil}
use Rattle.std.proofs.lemmas.List.{length-take-le, length-drop, drop_at, drop-drop, drop-append-le, take-append-le, drop-replicate}
use Rattle.std.proofs.lemmas.List.{take-replicate}
use Rattle.part_spec.specs.Chip.{Chip, page_words, page_bytes, words_of}
use Rattle.part_spec.specs.Pages.{page_of, with_page, erased, overlaid, paired}
use Rattle.debug_spec.specs.Device.{Asked, Device, Tried, synced_page}
use Rattle.debug_spec.specs.Programming.{Programmed, programmed_from}
use Rattle.debug_spec.specs.Moved.{Flash, asked_of}
use Rattle.debug_spec.proofs.MovedLemmas.{flash_moves, answers_go_on}
use Rattle.flash_patch.specs.Asking.{Programs}
use Rattle.ice_answer.proofs.MemoryBytes.{length-paired, take-paired, drop-paired}

-- the pages to go, told whether those before have their words
abbrev then_by : Bool → Programmed → Programmed → Programmed
then_by ok later now = elim ok [ true ↦ later | false ↦ now ]

-- so many pages, and then some more
programmed-more : (n m : ℕ) (wanted : List ℕ) (page : ℕ) (prog : List ℕ) (d : Device) →
    programmed_from wanted page (n + m) prog d ≡
    then_by (programmed_from wanted page n prog d).ok
    (programmed_from wanted (page + n) m (programmed_from wanted page n prog d).prog (programmed_from wanted page n prog d).device)
    (programmed_from wanted page n prog d)
programmed-more zero m wanted page prog d =
    let none : 0 + m ≡ m = omega arith in
    let here : page ≡ page + 0 = omega arith in
    ap (λ (k : ℕ). programmed_from wanted page k prog d) none ∙ ap (λ (k : ℕ). programmed_from wanted k m prog d) here
programmed-more (suc n) m wanted page prog d =
    let next : suc n + m ≡ suc (n + m) = omega arith in
    ap (λ (k : ℕ). programmed_from wanted page k prog d) next ∙ by_ok tried.ok (programmed-more n m wanted (suc page) front tried.device)
  where
    tried : Tried
    tried = synced_page wanted page d

    front : List ℕ
    front = with_page prog page (page_of wanted page)

    left : Programmed
    left = record { ok = false; prog = prog; device = tried.device }

    then_on : Bool → Programmed
    then_on b = then_by b (programmed_from wanted (suc page) n front tried.device) left

    by_ok : (b : Bool) →
        programmed_from wanted (suc page) (n + m) front tried.device ≡
        then_by (programmed_from wanted (suc page) n front tried.device).ok
        (programmed_from wanted (suc page + n) m (programmed_from wanted (suc page) n front tried.device).prog
        (programmed_from wanted (suc page) n front tried.device).device)
        (programmed_from wanted (suc page) n front tried.device) →
        then_by b (programmed_from wanted (suc page) (n + m) front tried.device) left ≡
        then_by (then_on b).ok (programmed_from wanted (page + suc n) m (then_on b).prog (then_on b).device) (then_on b)
    by_ok true later =
        let place : suc page + n ≡ page + suc n = omega arith in
        later ∙ ap (λ (k : ℕ). then_by (then_on true).ok (programmed_from wanted k m (then_on true).prog (then_on true).device)
        (then_on true)) place
    by_ok false later = refl

module _ {F : Type 0} (flash : Flash F) where
  -- no page
  pub programs_none : (wanted : List ℕ) (page : ℕ) (prog : List ℕ) (a : F) →
      Programs flash (programmed_from wanted page 0 prog) a true prog a
  programs_none wanted page prog a = record {
    asks = [];
    moved = refl;
    leads = λ d left same answered.
        ap (λ (w : List ℕ). record { ok = true; prog = prog; device = record { words = w; asked = d.asked; outcomes = d.outcomes } })
        (sym same) ∙
        ap (λ o. record { ok = true; prog = prog; device = record { words = flash.words a; asked = d.asked; outcomes = o } })
        answered ∙
        ap (λ (t : List Asked). record { ok = true; prog = prog; device = record { words = flash.words a; asked = t; outcomes = left } })
        (sym (append-nil d.asked));
  }

  -- pages, and then one more
  pub programs_more : (wanted : List ℕ) (page n next at : ℕ) (prog front after : List ℕ) (a b c : F) (ok : Bool) → next ≡ n + 1 →
      at ≡ page + n →
      Programs flash (programmed_from wanted page n prog) a true front b →
      Programs flash (programmed_from wanted at 1 front) b ok after c →
      Programs flash (programmed_from wanted page next prog) a ok after c
  programs_more wanted page n next at prog front after a b c ok is place first second = record {
    asks = first.asks ++ second.asks;
    moved = (flash_moves flash).onward a b c first.asks second.asks first.moved second.moved;
    leads = λ d left same answered.
        let parts = answers_go_on.back d.outcomes left first.asks second.asks answered in
        let e : Device = asked_of d (flash.words b) first.asks parts.0 in
        ap (λ (k : ℕ). programmed_from wanted page k prog d) is ∙ programmed-more n 1 wanted page prog d ∙
        ap (λ (t : Programmed). then_by t.ok (programmed_from wanted (page + n) 1 t.prog t.device) t) (first.leads d parts.0 same parts.1) ∙
        ap (λ (k : ℕ). programmed_from wanted k 1 front e) (sym place) ∙ second.leads e left refl parts.2 ∙
        ap (λ (t : List Asked). record { ok = ok; prog = after; device = record { words = flash.words c; asked = t; outcomes = left } })
        (append_assoc d.asked first.asks second.asks);
  }

  -- pages up to one whose write failed
  pub programs_stop : (wanted : List ℕ) (page n m all : ℕ) (prog front : List ℕ) (a c : F) → all ≡ n + m →
      Programs flash (programmed_from wanted page n prog) a false front c →
      Programs flash (programmed_from wanted page all prog) a false front c
  programs_stop wanted page n m all prog front a c is first = record {
    asks = first.asks;
    moved = first.moved;
    leads = λ d left same answered.
        ap (λ (k : ℕ). programmed_from wanted page k prog d) is ∙ programmed-more n m wanted page prog d ∙
        ap (λ (t : Programmed). then_by t.ok (programmed_from wanted (page + n) m t.prog t.device) t) (first.leads d left same answered);
  }

-- a page of a program over which bytes are laid: its words are made of its own bytes
pub page_of-overlaid : (prog bytes words : List ℕ) (first page at start count : ℕ) → page_words * first ≤ length prog →
    length bytes % 2 ≡ 0 →
    page_bytes * page + page_bytes ≤ length bytes → at ≡ first + page → start ≡ page_bytes * page → count ≡ page_bytes →
    words ≡ paired (take count (drop start bytes)) → page_of (overlaid prog (page_words * first) (paired bytes)) at ≡ words
page_of-overlaid prog bytes words first page at start count inside even within place begins whole are =
    let front : List ℕ = take (page_words * first) prog in
    let rest : List ℕ = drop (page_words * first + length (paired bytes)) prog in
    let half = length-paired bytes even in
    let size : length front ≡ page_words * first = length-take-le (page_words * first) prog inside in
    let by : page_words * at ≡ page_words * first + page_words * page = omega (arith, place) in
    let twice : 2 * (page_words * page) ≡ start = omega (arith, begins) in
    let here : page_words * page ≤ length (paired bytes) = omega (arith, half, within) in
    let fits : page_words ≤ length (drop (page_words * page) (paired bytes)) =
    omega (arith, half, within, length-drop (page_words * page) (paired bytes)) in
    ap (λ (k : ℕ). take page_words (drop k (front ++ paired bytes ++ rest))) by ∙
    ap (λ (t : List ℕ). take page_words (drop (page_words * first + page_words * page) t)) (append_assoc front (paired bytes) rest) ∙
    ap (take page_words) (sym (drop-drop (page_words * page) (page_words * first) (front ++ (paired bytes ++ rest)))) ∙
    ap (λ (t : List ℕ). take page_words (drop (page_words * page) t)) (drop_at front (paired bytes ++ rest) (page_words * first) size) ∙
    ap (take page_words) (drop-append-le (page_words * page) (paired bytes) rest here) ∙
    take-append-le page_words (drop (page_words * page) (paired bytes)) rest fits ∙
    ap (take page_words) (drop-paired (page_words * page) bytes) ∙ take-paired page_words (drop (2 * (page_words * page)) bytes) ∙
    ap (λ (k : ℕ). paired (take page_bytes (drop k bytes))) twice ∙ ap (λ (k : ℕ). paired (take k (drop start bytes))) (sym whole) ∙ sym are

-- a page of an erased flash
pub page_of-erased : (part : Chip) (words : List ℕ) (page : ℕ) → page < part.pages → words ≡ replicate page_words 0xFFFF →
    page_of (erased part) page ≡ words
unfolding erased
page_of-erased part words page inside are =
    ap (take page_words) (drop-replicate (page_words * page) (words_of part) 0xFFFF) ∙
    take-replicate page_words (words_of part - page_words * page) 0xFFFF (omega (arith, inside)) ∙ sym are
