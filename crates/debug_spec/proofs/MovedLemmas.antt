-- A flash that is moved by what is asked of it.
use Rattle.std.proofs.Common.{◌≡◌, ℕ, List, [], ◌∷◌, ◌++◌, map, Option, None, Some, refl, sym, ◌∙◌, ap, subst, arith, append-nil}
use Rattle.std.proofs.Common.{append_assoc}
use Rattle.part_spec.specs.Pages.{PageWrite}
use Rattle.debug_spec.specs.Device.{Outcome, made, failed, denied, Asked, write, launch, outcome_of, later_of, AreTorn, journal}
use Rattle.std.specs.List.{All}
use Rattle.std.proofs.lemmas.List.Elements.{All-nil, All-cons}
use Rattle.debug_spec.specs.Device.{words_after, IsOutcome, Device}
use Rattle.debug_spec.specs.PageLaws.{AreAnswered, LeadsTo}
use Rattle.debug_spec.specs.Moved.{Flash, Gains, Rises, failures, Moved, asked_of, FlashMoves, AnswersGoOn}
use Rattle.debug_spec.proofs.PageLemmas.{AreAnswered-append}

-- what is told goes on
Gains-nil : (told : Option (List PageWrite)) → Gains told told []
Gains-nil None = tt
Gains-nil (Some entries) = sym (append-nil entries)

Gains-onward : (a b c : Option (List PageWrite)) (first more : List PageWrite) → Gains a b first → Gains b c more →
    Gains a c (first ++ more)
Gains-onward None b c first more h k = tt
Gains-onward (Some a) None c first more h k = absurd h
Gains-onward (Some a) (Some b) None first more h k = absurd k
Gains-onward (Some a) (Some b) (Some c) first more h k = k ∙ ap (λ (t : List PageWrite). t ++ more) h ∙ append_assoc a first more

module _ {F : Type 0} (flash : Flash F) where
  onward : (a b c : F) (asks more : List Asked) → Moved flash a asks b → Moved flash b more c → Moved flash a (asks ++ more) c
  onward a b c [] more first then_on = subst (λ (f : F). Moved flash f more c) first then_on
  onward a b c (write page content outcome ∷ asks) more first then_on = (first.0, first.1, onward first.0 b c asks more first.2 then_on)
  onward a b c (launch outcome ∷ asks) more first then_on = (first.0, onward a b c asks more first.1 then_on)

  back : (a c : F) (asks more : List Asked) → Moved flash a (asks ++ more) c → (b : F) × Moved flash a asks b × Moved flash b more c
  back a c [] more h = (a, refl, h)
  back a c (write page content outcome ∷ asks) more h =
      let later = back h.0 c asks more h.2 in (later.0, (h.0, h.1, later.1), later.2)
  back a c (launch outcome ∷ asks) more h = let later = back a c asks more h.1 in (later.0, (h.0, later.1), later.2)

  leaves : (a b : F) (asks : List Asked) → Moved flash a asks b → flash.words b ≡ words_after (flash.words a) asks
  leaves a b [] h = ap flash.words h
  leaves a b (write page content outcome ∷ asks) h = leaves h.0 b asks h.2 ∙ ap (λ (w : List ℕ). words_after w asks) h.1.leaves
  leaves a b (launch outcome ∷ asks) h = leaves a b asks h.1

  torn : (a b : F) (asks : List Asked) → Moved flash a asks b → AreTorn (flash.words a) asks
  torn a b [] h = tt
  torn a b (write page content made ∷ asks) h = subst (λ (w : List ℕ). AreTorn w asks) h.1.leaves (torn h.0 b asks h.2)
  torn a b (write page content (failed left) ∷ asks) h = (h.1.fits, subst (λ (w : List ℕ). AreTorn w asks) h.1.leaves (torn h.0 b asks h.2))
  torn a b (write page content denied ∷ asks) h = absurd h.1.fits
  torn a b (launch outcome ∷ asks) h = torn a b asks h.1

  -- each failed page write left the words of a page
  fits : (a b : F) (asks : List Asked) → Moved flash a asks b → All IsOutcome (map outcome_of asks)
  fits a b [] h = All-nil IsOutcome
  fits a b (write page content made ∷ asks) h = All-cons IsOutcome made (map outcome_of asks) tt (fits h.0 b asks h.2)
  fits a b (write page content (failed left) ∷ asks) h =
      All-cons IsOutcome (failed left) (map outcome_of asks) h.1.fits.size (fits h.0 b asks h.2)
  fits a b (write page content denied ∷ asks) h = absurd h.1.fits
  fits a b (launch outcome ∷ asks) h =
      All-cons IsOutcome outcome (map outcome_of asks) (subst (λ (o : Outcome). IsOutcome o) (sym h.0) tt) (fits a b asks h.1)

  gains : (a b : F) (asks : List Asked) → Moved flash a asks b → Gains (flash.told a) (flash.told b) (journal asks)
  gains a b [] h = subst (λ (f : F). Gains (flash.told a) (flash.told f) []) (sym h) (Gains-nil (flash.told a))
  gains a b (write page content made ∷ asks) h =
      Gains-onward (flash.told a) (flash.told h.0) (flash.told b) (record { page = page; words = content } ∷ []) (journal asks) h.1.gains
      (gains h.0 b asks h.2)
  gains a b (write page content (failed left) ∷ asks) h =
      Gains-onward (flash.told a) (flash.told h.0) (flash.told b) [] (journal asks) h.1.gains (gains h.0 b asks h.2)
  gains a b (write page content denied ∷ asks) h = absurd h.1.fits
  gains a b (launch outcome ∷ asks) h = gains a b asks h.1

  rises : (a b : F) (asks : List Asked) → Moved flash a asks b → Rises (flash.faults a) (failures asks) (flash.faults b)
  rises a b [] h = omega (arith, ap flash.faults h)
  rises a b (write page content made ∷ asks) h = omega (arith, h.1.counts, rises h.0 b asks h.2)
  rises a b (write page content (failed left) ∷ asks) h = omega (arith, h.1.counts, h.1.cause refl, rises h.0 b asks h.2)
  rises a b (write page content denied ∷ asks) h = absurd h.1.fits
  rises a b (launch outcome ∷ asks) h = rises a b asks h.1

  leads : (a b : F) (asks : List Asked) (d : Device) (left : List Outcome) → Moved flash a asks b → flash.words a ≡ d.words →
      AreAnswered d.outcomes asks left →
      LeadsTo d (asked_of d (flash.words b) asks left)
  leads a b asks d left h same answered = record {
    asks = asks;
    asked = refl;
    words = leaves a b asks h ∙ ap (λ (w : List ℕ). words_after w asks) same;
    answered = answered;
  }

  same : (a b : F) (from to : Device) (led : LeadsTo from to) → Moved flash a led.asks b → flash.words a ≡ from.words →
      flash.words b ≡ to.words
  same a b from to led h at_first = leaves a b led.asks h ∙ ap (λ (w : List ℕ). words_after w led.asks) at_first ∙ sym led.words

  pub flash_moves : FlashMoves flash
  flash_moves = record {
    onward = onward;
    back = back;
    leaves = leaves;
    torn = torn;
    fits = fits;
    gains = gains;
    rises = rises;
    leads = leads;
    same = same;
  }

-- the outcomes of what was asked answer it
own : (asks : List Asked) (left : List Outcome) → AreAnswered (map outcome_of asks ++ left) asks left
own [] left = refl
own (ask ∷ asks) left = (refl, own asks left)

answered-back : (outcomes left : List Outcome) (asks more : List Asked) → AreAnswered outcomes (asks ++ more) left →
    (middle : List Outcome) × AreAnswered outcomes asks middle × AreAnswered middle more left
answered-back outcomes left [] more h = (outcomes, refl, h)
answered-back outcomes left (ask ∷ asks) more h =
    let later = answered-back (later_of outcomes) left asks more h.1 in (later.0, (h.0, later.1), later.2)

answered-one : (outcomes left other : List Outcome) (asks : List Asked) → AreAnswered outcomes asks left → AreAnswered outcomes asks other →
    left ≡ other
answered-one outcomes left other [] h k = sym h ∙ k
answered-one outcomes left other (ask ∷ asks) h k = answered-one (later_of outcomes) left other asks h.1 k.1

pub answers_go_on : AnswersGoOn
answers_go_on = record { own = own; onward = AreAnswered-append; back = answered-back; one = answered-one }
