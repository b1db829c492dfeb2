-- What is asked of a flash, one page after the other.
use Rattle.std.proofs.Common.{◌≡◌, ℕ, zero, suc, ◌+◌, Bool, true, false, List, [], ◌∷◌, ◌++◌, length, map, Option, None, Some, Result}
use Rattle.std.proofs.Common.{Ok, Err, is_ok, refl, sym, ◌∙◌, ap, ap₂, arith, append-nil, append_assoc}
use Rattle.std.specs.Prelude.{OnOk, OnErr}
use Rattle.std.proofs.lemmas.Bool.{true≢false}
use Rattle.part_spec.specs.Chip.{Chip, words_of}
use Rattle.part_spec.specs.Pages.{page_of, with_page, page_has, PageWrite, IsTorn}
use Rattle.ice_base.specs.Counts.{HasCause}
use Rattle.ice_base.specs.Journal.{Logs}
use Rattle.debug_spec.specs.Device.{Outcome, made, failed, Asked, write, outcome_of, is_made, page_left, next_of, later_of, Device, Tried}
use Rattle.debug_spec.specs.Device.{synced_page, synced_from, synced}
use Rattle.debug_spec.specs.Moved.{Flash, Gains, IsWrite, asked_of}
use Rattle.debug_spec.proofs.PageLemmas.{page_by, onward_by, sync_is_exact}
use Rattle.debug_spec.proofs.MovedLemmas.{flash_moves, answers_go_on}
use Rattle.flash_patch.specs.Asking.{seen, Asks}

-- a journal that is logged is one that is told
logs-gain : (before now : Option (List PageWrite)) (writes : List PageWrite) → Logs before now writes → Gains before now writes
logs-gain None now writes h = tt
logs-gain (Some before) None writes h = h
logs-gain (Some before) (Some now) writes h = h

-- so many pages, and then some more
synced-more : (n m : ℕ) (wanted : List ℕ) (page : ℕ) (d : Device) →
    synced_from wanted page (n + m) d ≡
    onward_by (synced_from wanted page n d).ok (synced_from wanted (page + n) m (synced_from wanted page n d).device)
    (synced_from wanted page n d)
synced-more zero m wanted page d =
    let none : 0 + m ≡ m = omega arith in
    let here : page ≡ page + 0 = omega arith in
    ap (λ (k : ℕ). synced_from wanted page k d) none ∙ ap (λ (k : ℕ). synced_from wanted k m d) here
synced-more (suc n) m wanted page d =
    let next : suc n + m ≡ suc (n + m) = omega arith in
    ap (λ (k : ℕ). synced_from wanted page k d) next ∙ by_ok tried.ok refl (synced-more n m wanted (suc page) tried.device)
  where
    tried : Tried
    tried = synced_page wanted page d

    then_on : Bool → Tried
    then_on b = onward_by b (synced_from wanted (suc page) n tried.device) tried

    by_ok : (b : Bool) → tried.ok ≡ b →
        synced_from wanted (suc page) (n + m) tried.device ≡
        onward_by (synced_from wanted (suc page) n tried.device).ok
        (synced_from wanted (suc page + n) m (synced_from wanted (suc page) n tried.device).device)
        (synced_from wanted (suc page) n tried.device) →
        onward_by b (synced_from wanted (suc page) (n + m) tried.device) tried ≡
        onward_by (then_on b).ok (synced_from wanted (page + suc n) m (then_on b).device) (then_on b)
    by_ok true e later =
        let place : suc page + n ≡ page + suc n = omega arith in
        later ∙ ap (λ (k : ℕ). onward_by (then_on true).ok (synced_from wanted k m (then_on true).device) (then_on true)) place
    by_ok false e later = sym (ap (λ (b : Bool). onward_by b (synced_from wanted (page + suc n) m tried.device) tried) e)

-- one page
synced-one : (wanted : List ℕ) (page : ℕ) (d : Device) → synced_from wanted page 1 d ≡ synced_page wanted page d
synced-one wanted page d = by_ok (synced_page wanted page d).ok (synced_page wanted page d).device
  where
    by_ok : (b : Bool) (e : Device) →
        (let t : Tried = record { ok = b; device = e } in onward_by b (record { ok = true; device = e }) t ≡ t)
    by_ok true e = refl
    by_ok false e = refl

-- a device with these words once a page write was asked for, told what came of it
abbrev written_by : ℕ → Device → List ℕ → List ℕ → Outcome → List Outcome → Tried
written_by page d words content outcome left = record {
  ok = is_made outcome;
  device = record {
    words = with_page words page (page_left outcome (page_of words page) content);
    asked = d.asked ++ write page content outcome ∷ [];
    outcomes = left;
  };
}

module _ {F : Type 0} (words : F → List ℕ) (told : F → Option (List PageWrite)) (faults : F → ℕ)
    (writes : F → ℕ → List ℕ → Bool → F → Type 0) where
  abbrev flash : Flash F
  flash = seen words told faults writes

  -- a page write, told whether it was made
  wrote : {T E : Type 0} (r : Result T E) (from : F) (page : ℕ) (content : List ℕ) (to : F) → writes from page content (is_ok r) to →
      OnOk r (words to ≡ with_page (words from) page content) →
      OnOk r (Logs (told from) (told to) (record { page = page; words = content } ∷ [])) →
      OnErr r (IsTorn (words from) (words to) page content) → OnErr r (Logs (told from) (told to) []) →
      HasCause r (faults from) (faults to) →
      (outcome : Outcome) × (is_made outcome ≡ is_ok r) × IsWrite flash from page content outcome to
  wrote {T} {E} (Ok x) from page content to moved ok logged err err_logged cause = (
    made,
    refl,
    record {
      moved = moved;
      leaves = ok;
      fits = tt;
      gains = logs-gain (told from) (told to) (record { page = page; words = content } ∷ []) logged;
      counts = cause.0;
      cause = λ e. absurd (true≢false e);
    },
  )
  wrote {T} {E} (Err x) from page content to moved ok logged err err_logged cause = (
    failed err.left,
    refl,
    record {
      moved = moved;
      leaves = err.is;
      fits = err.torn;
      gains = logs-gain (told from) (told to) [] err_logged;
      counts = cause.0;
      cause = λ e. cause.1;
    },
  )

  -- a page that has its words
  pub asks-nothing : (wanted : List ℕ) (page : ℕ) (content : List ℕ) (from : F) → page_of wanted page ≡ content →
      page_has (words from) page content ≡ true → Asks flash (synced_page wanted page) from true from
  asks-nothing wanted page content from is has_it = record {
    asks = [];
    moved = refl;
    leads = λ d left same answered.
        ap (λ (b : Bool). page_by b wanted page d)
        (ap (λ (w : List ℕ). page_has d.words page w) is ∙ ap (λ (w : List ℕ). page_has w page content) (sym same) ∙ has_it) ∙
        ap (λ (w : List ℕ). record { ok = true; device = record d { words = w } }) (sym same) ∙
        ap (λ (a : List Asked). record { ok = true; device = record { words = words from; asked = a; outcomes = d.outcomes } })
        (sym (append-nil d.asked)) ∙
        ap (λ (o : List Outcome). record { ok = true; device = record { words = words from; asked = d.asked ++ []; outcomes = o } })
        answered;
  }

  -- a page that has other words
  asks-write : (wanted : List ℕ) (page : ℕ) (content : List ℕ) (from to : F) (outcome : Outcome) (ok : Bool) →
      page_of wanted page ≡ content → page_has (words from) page content ≡ false → is_made outcome ≡ ok →
      IsWrite flash from page content outcome to → Asks flash (synced_page wanted page) from ok to
  asks-write wanted page content from to outcome ok is differs comes done = record {
    asks = write page content outcome ∷ [];
    moved = (to, done, refl);
    leads = λ d left same answered.
        ap (λ (b : Bool). page_by b wanted page d)
        (ap (λ (w : List ℕ). page_has d.words page w) is ∙ ap (λ (w : List ℕ). page_has w page content) (sym same) ∙ differs) ∙
        ap (λ (c : List ℕ). written_by page d d.words c (next_of d.outcomes) (later_of d.outcomes)) is ∙
        ap (λ (o : Outcome). written_by page d d.words content o (later_of d.outcomes)) (sym answered.0) ∙
        ap (written_by page d d.words content outcome) answered.1 ∙
        ap (λ (w : List ℕ). written_by page d w content outcome left) (sym same) ∙
        ap₂ (λ (b : Bool) (w : List ℕ). record { ok = b; device = asked_of d w (write page content outcome ∷ []) left }) comes
        (sym done.leaves);
  }

  -- a page that has other words is written, whatever comes of it
  pub asks-tried : {T E : Type 0} (r : Result T E) (wanted : List ℕ) (page : ℕ) (content : List ℕ) (from to : F) (ok : Bool) →
      is_ok r ≡ ok → page_of wanted page ≡ content → page_has (words from) page content ≡ false → writes from page content (is_ok r) to →
      OnOk r (words to ≡ with_page (words from) page content) →
      OnOk r (Logs (told from) (told to) (record { page = page; words = content } ∷ [])) →
      OnErr r (IsTorn (words from) (words to) page content) → OnErr r (Logs (told from) (told to) []) →
      HasCause r (faults from) (faults to) → Asks flash (synced_page wanted page) from ok to
  asks-tried r wanted page content from to ok comes is differs moved leaves logged torn unlogged cause =
      let done = wrote r from page content to moved leaves logged torn unlogged cause in
      asks-write wanted page content from to done.0 ok is differs (done.1 ∙ comes) done.2

  -- pages, and then one more
  pub asks-more : (wanted : List ℕ) (n next : ℕ) (a b c : F) (ok : Bool) → next ≡ n + 1 → Asks flash (synced_from wanted 0 n) a true b →
      Asks flash (synced_page wanted n) b ok c → Asks flash (synced_from wanted 0 next) a ok c
  asks-more wanted n next a b c ok is first second = record {
    asks = first.asks ++ second.asks;
    moved = (flash_moves flash).onward a b c first.asks second.asks first.moved second.moved;
    leads = λ d left same answered.
        let parts = answers_go_on.back d.outcomes left first.asks second.asks answered in
        let e : Device = asked_of d (words b) first.asks parts.0 in
        ap (λ (k : ℕ). synced_from wanted 0 k d) is ∙ synced-more n 1 wanted 0 d ∙
        ap (λ (t : Tried). onward_by t.ok (synced_from wanted (0 + n) 1 t.device) t) (first.leads d parts.0 same parts.1) ∙
        synced-one wanted (0 + n) e ∙ here e ∙ second.leads e left refl parts.2 ∙
        ap (λ (asked : List Asked). record { ok = ok; device = record { words = words c; asked = asked; outcomes = left } })
        (append_assoc d.asked first.asks second.asks);
  }
    where
      here : (e : Device) → synced_page wanted (0 + n) e ≡ synced_page wanted n e
      here e = let none : 0 + n ≡ n = omega arith in ap (λ (k : ℕ). synced_page wanted k e) none

  -- pages up to one whose write failed
  pub asks-stop : (wanted : List ℕ) (n all : ℕ) (m : ℕ) (a c : F) → all ≡ n + m → Asks flash (synced_from wanted 0 n) a false c →
      Asks flash (synced_from wanted 0 all) a false c
  asks-stop wanted n all m a c is first = record {
    asks = first.asks;
    moved = first.moved;
    leads = λ d left same answered.
        ap (λ (k : ℕ). synced_from wanted 0 k d) is ∙ synced-more n m wanted 0 d ∙
        ap (λ (t : Tried). onward_by t.ok (synced_from wanted (0 + n) m t.device) t) (first.leads d left same answered);
  }

  -- without a failure the flash has the wanted words
  pub in-place : (part : Chip) (wanted : List ℕ) (a b : F) → Asks flash (synced part wanted) a true b → length (words a) ≡ words_of part →
      length wanted ≡ words_of part → words b ≡ wanted
  in-place part wanted a b h size whole =
      let d : Device = record { words = words a; asked = []; outcomes = map outcome_of h.asks ++ [] } in
      let e = h.leads d [] refl (answers_go_on.own h.asks []) in
      sym (ap (λ (t : Tried). t.device.words) e) ∙ (sync_is_exact part wanted d size whole).in_place (ap (λ (t : Tried). t.ok) e)
