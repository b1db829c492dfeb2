-- Page writes keep the size of the flash, and outcomes have the words of a page.
use Rattle.std.proofs.Common.{◌≡◌, ℕ, zero, suc, ◌+◌, ◌*◌, ◌/◌, ◌<◌, ◌≤◌, ◌&&◌, not, Bool, true, false, List, [], ◌∷◌, ◌++◌, length, take}
use Rattle.std.proofs.Common.{drop, ltb, ◌∙◌, arith, length-append}
use Rattle.std.specs.List.{All}
use Rattle.std.proofs.lemmas.List.{length-take-le, length-drop}
use Rattle.std.proofs.lemmas.List.Elements.{All-head, All-tail}
use Rattle.std.proofs.lemmas.Bool.{and_parts, ltb-true}
use Rattle.part_spec.specs.Chip.{Chip, page_words, words_of}
use Rattle.avr_spec.specs.Decode.{two_word, is_skip}
use Rattle.avr_spec.specs.Step.{word_at}
use Rattle.debug_spec.specs.Patch.{has, patch, before}
use Rattle.part_spec.specs.Pages.{page_of, with_page, page_has}
use Rattle.debug_spec.specs.Device.{Outcome, made, failed, denied, IsOutcome, page_left, next_of, later_of, Device, written, launched}
use Rattle.debug_spec.specs.Device.{synced_page, synced_from, synced, replanted}
use Rattle.debug_spec.specs.RunLaws.{AllPlantable}
use Rattle.debug_spec.specs.SessionLaws.{IsFit}
use Rattle.debug_spec.proofs.Sets.{length-patch}
use Rattle.debug_spec.proofs.PageLemmas.{page_by, onward_by, sync_is_exact}

outcome-next : (outcomes : List Outcome) → All IsOutcome outcomes → IsOutcome (next_of outcomes)
outcome-next [] h = tt
outcome-next (o ∷ outcomes) h = All-head IsOutcome o outcomes h

outcomes-later : (outcomes : List Outcome) → All IsOutcome outcomes → All IsOutcome (later_of outcomes)
outcomes-later [] h = h
outcomes-later (o ∷ outcomes) h = All-tail IsOutcome o outcomes h

length-page_left : (o : Outcome) (old new : List ℕ) → IsOutcome o → length old ≡ page_words → length new ≡ page_words →
    length (page_left o old new) ≡ page_words
length-page_left made old new fit size_old size = size
length-page_left (failed left) old new fit size_old size = fit
length-page_left denied old new fit size_old size = size_old

module _ (part : Chip) where
  pub length-page_of : (wanted : List ℕ) (page : ℕ) → length wanted ≡ words_of part → page < part.pages →
      length (page_of wanted page) ≡ page_words
  length-page_of wanted page whole inside =
      length-take-le page_words (drop (page_words * page) wanted) (omega (arith, length-drop (page_words * page) wanted, whole, inside))

  pub length-with_page : (flash words : List ℕ) (page : ℕ) → length flash ≡ words_of part → page < part.pages → length words ≡ page_words →
      length (with_page flash page words) ≡ words_of part
  length-with_page flash words page whole inside size =
      let front = take (page_words * page) flash in
      let behind = drop (page_words * page + page_words) flash in
      length-append (front ++ words) behind ∙
      omega (
        arith,
        length-append front words,
        length-take-le (page_words * page) flash (omega (arith, whole, inside)),
        length-drop (page_words * page + page_words) flash,
        whole,
        inside,
        size,
      )

  pub fits-written : (page : ℕ) (words : List ℕ) (d : Device) → page < part.pages → length words ≡ page_words → IsFit part d →
      IsFit part (written page words d).device
  fits-written page words d inside size fit = record {
    size = length-with_page d.words (page_left (next_of d.outcomes) (page_of d.words page) words) page fit.size inside
        (length-page_left (next_of d.outcomes) (page_of d.words page) words (outcome-next d.outcomes fit.outcomes)
        (length-page_of d.words page fit.size inside) size);
    outcomes = outcomes-later d.outcomes fit.outcomes;
  }

  pub fits-launched : (d : Device) → IsFit part d → IsFit part (launched d).device
  fits-launched d fit = record { size = fit.size; outcomes = outcomes-later d.outcomes fit.outcomes }

  fits-page : (wanted : List ℕ) (page : ℕ) (d : Device) → length wanted ≡ words_of part → page < part.pages → IsFit part d →
      IsFit part (synced_page wanted page d).device
  fits-page wanted page d whole inside fit = by_page (page_has d.words page (page_of wanted page))
    where
      by_page : (b : Bool) → IsFit part (page_by b wanted page d).device
      by_page true = fit
      by_page false = fits-written page (page_of wanted page) d inside (length-page_of wanted page whole inside) fit

  pub fits-from : (n : ℕ) (wanted : List ℕ) (page : ℕ) (d : Device) → length wanted ≡ words_of part → page + n ≤ part.pages →
      IsFit part d → IsFit part (synced_from wanted page n d).device
  fits-from zero wanted page d whole inside fit = fit
  fits-from (suc n) wanted page d whole inside fit =
      by_ok (synced_page wanted page d).ok
      (fits-from n wanted (suc page) (synced_page wanted page d).device whole (omega (arith, inside))
      (fits-page wanted page d whole (omega (arith, inside)) fit))
    where
      by_ok : (b : Bool) → IsFit part (synced_from wanted (suc page) n (synced_page wanted page d).device).device →
          IsFit part (onward_by b (synced_from wanted (suc page) n (synced_page wanted page d).device) (synced_page wanted page d)).device
      by_ok true later = later
      by_ok false later = fits-page wanted page d whole (omega (arith, inside)) fit

  pub fits-synced : (wanted : List ℕ) (d : Device) → length wanted ≡ words_of part → IsFit part d → IsFit part (synced part wanted d).device
  fits-synced wanted d whole fit = fits-from part.pages wanted 0 d whole (omega arith) fit

  -- without a failure the wanted words are there
  pub synced-in_place : (wanted : List ℕ) (d : Device) → length wanted ≡ words_of part → IsFit part d → (synced part wanted d).ok ≡ true →
      (synced part wanted d).device.words ≡ wanted
  synced-in_place wanted d whole fit ok = (sync_is_exact part wanted d fit.size whole).in_place ok

  pub length-planted : (prog set : List ℕ) → length prog ≡ words_of part → length (patch prog set) ≡ words_of part
  length-planted prog set whole = length-patch prog set ∙ whole

  pub fits-replanted : (prog set : List ℕ) (address : ℕ) (d : Device) → length prog ≡ words_of part → AllPlantable part prog set →
      has set address ≡ true →
      IsFit part d → IsFit part (replanted (patch prog set) address d).device
  fits-replanted prog set address d whole plants hit fit =
      let may = and_parts (ltb address (words_of part))
      (not (two_word (word_at prog address) && is_skip (word_at prog (before part address)))) (plants address hit) in
      fits-page (patch prog set) (address / page_words) d (length-planted prog set whole)
      (omega (arith, ltb-true address (words_of part) may.0)) fit
