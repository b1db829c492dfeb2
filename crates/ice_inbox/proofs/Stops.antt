-- Each step on the stop word keeps its rule.
use Rattle.std.proofs.Common.{◌≡◌, ◌≢◌, ℕ, ◌≤◌, List, [], ◌∷◌, ◌++◌, set, sym, refl, ap, ◌∙◌, subst, inl, inr, ⊎_elim, arith}
use Rattle.std.specs.Prelude.{All, Contains, slice_index}
use Rattle.std.proofs.lemmas.List.Elements.{All-nil, All-cons, All-head, All-weaker, Contains-push, Contains-append_left}
use mathlib.Core.Option.{some}
use lib.ListN.{get_elem?}
use Rattle.atomic_table.specs.Table.{State, keeps, opening, Allows, Splits, Joins}
use Rattle.atomic_table.proofs.Lists.{at_set, at_snoc}
use Rattle.ice_inbox.proofs.Views.{all_set, all_one}
use Rattle.ice_inbox.specs.declared.stop_word.Side.{Side}
use Rattle.ice_inbox.specs.declared.stop_word.Side.TheVariants.{Raiser, Looker, Spent}
use Rattle.ice_inbox.specs.Standing.{IsRaised, Fits, Standing, raised_more, looked, kept_more, KeptIsRaised}
use Rattle.ice_inbox.specs.StopInside.{raised_by, seen_by, IsRaiserSide, IsLookerSide}

-- what was raised stays so
IsRaised-more : (raised : List ℕ) (number more : ℕ) → IsRaised raised number → IsRaised (raised ++ more ∷ []) number
IsRaised-more raised number more r = ⊎_elim (λ e. inl e) (λ c. inr (Contains-append_left raised (more ∷ []) number c)) r

-- a side that is not the raiser fits with one number more
Fits-more : (raiser : ℕ) (raised : List ℕ) (more seat : ℕ) (side : Side) → seat ≢ raiser → Fits raiser raised seat side
    → Fits raiser (raised ++ more ∷ []) seat side
Fits-more raiser raised more seat (Raiser numbers kept) other fits = absurd (other fits.0)
Fits-more raiser raised more seat (Looker seen loads) other fits = IsRaised-more raised seen more fits
Fits-more raiser raised more seat Spent other fits = tt

-- the word, as it is read and written back
word_is : (words : List ℕ) (number : ℕ) → words ≡ number ∷ []
    → (slice_index words 0 ≡ number) × (set words 0 (slice_index words 0) ≡ number ∷ [])
word_is words number e = (ap (λ (ws : List ℕ). slice_index ws 0) e, ap (λ (ws : List ℕ). set ws 0 (slice_index ws 0)) e)

-- the raiser that joined a looker is the raiser
pub IsRaiserSide-kept_more : (side looker : Side) → IsRaiserSide side → IsRaiserSide (kept_more side looker)
IsRaiserSide-kept_more (Raiser raised kept) (Looker seen loads) is = tt
IsRaiserSide-kept_more (Raiser raised kept) (Raiser others others_kept) is = tt
IsRaiserSide-kept_more (Raiser raised kept) Spent is = tt
IsRaiserSide-kept_more (Looker seen loads) looker is = absurd is
IsRaiserSide-kept_more Spent looker is = absurd is

-- what a joined looker saw last, and is not 0, was raised
pub seen_was_raised : (side looker : Side) → IsRaiserSide side → IsLookerSide looker → KeptIsRaised (kept_more side looker)
    → 1 ≤ seen_by looker → Contains (raised_by (kept_more side looker)) (seen_by looker)
seen_was_raised (Looker seen loads) looker is was checked one = absurd is
seen_was_raised Spent looker is was checked one = absurd is
seen_was_raised (Raiser raised kept) (Raiser others others_kept) is was checked one = absurd was
seen_was_raised (Raiser raised kept) Spent is was checked one = absurd was
seen_was_raised (Raiser raised kept) (Looker seen loads) is was checked one =
    ⊎_elim (λ (none : seen ≡ 0). absurd (omega arith)) (λ (c : Contains raised seen). c) (All-head (IsRaised raised) seen kept checked)

module _ {S : Type 0} where
  pub starts : Standing {S = S} (opening (0 ∷ []) [] (Raiser [] []))
  starts = record {
    number = 0;
    words = refl;
    raiser = 0;
    raised = [];
    told = inl refl;
    each = all_one (Fits 0 []) (Raiser [] []) (refl, refl, All-nil (IsRaised []));
  }

  pub raises : (slots seat : ℕ) (side : Side) (carried : List (ℕ × S)) (number : ℕ) → IsRaiserSide side
      → Allows Standing slots seat (side, carried) 0 (λ _. number) (λ found after. after ≡ (raised_more side number, carried))
  raises slots seat (Looker seen loads) carried number is = absurd is
  raises slots seat Spent carried number is = absurd is
  raises slots seat (Raiser raised kept) carried number is = λ state st count at small.
      let mine = st.each seat (Raiser raised kept) at in
      let more : List ℕ = st.raised ++ number ∷ [] in
      let later : (n : ℕ) → IsRaised st.raised n → IsRaised more n = λ n r. IsRaised-more st.raised n number r in
      let kept_is = All-weaker (IsRaised st.raised) (IsRaised more) later kept mine.2 in (
        Raiser (raised ++ number ∷ []) kept,
        keeps,
        tt,
        record {
          number = number;
          words = ap (λ (ws : List ℕ). set ws 0 number) st.words;
          raiser = st.raiser;
          raised = more;
          told = inr (Contains-push st.raised number);
          each = all_set (Fits st.raiser more) state.views seat (Raiser (raised ++ number ∷ []) kept)
              (mine.0, ap (λ l. l ++ number ∷ []) mine.1, kept_is)
              (λ j u other e. Fits-more st.raiser st.raised number j u (λ r. other (r ∙ sym mine.0)) (st.each j u e));
        },
        refl,
      )

  -- a load leaves the word, and its seat has a side that fits
  loaded : (state : State S Side) (st : Standing state) (seat : ℕ) (side : Side) → Fits st.raiser st.raised seat side
      → Standing {S = S}
      (record { words = set state.words 0 (slice_index state.words 0); homes = state.homes; views = set state.views seat side })
  loaded state st seat side fits = record {
    number = st.number;
    words = (word_is state.words st.number st.words).1;
    raiser = st.raiser;
    raised = st.raised;
    told = st.told;
    each = all_set (Fits st.raiser st.raised) state.views seat side fits (λ j u other e. st.each j u e);
  }

  pub looks : (slots seat : ℕ) (side : Side) (carried : List (ℕ × S)) → IsLookerSide side
      → Allows Standing slots seat (side, carried) 0 (λ n. n) (λ found after. after ≡ (looked side found, carried))
  looks slots seat (Raiser raised kept) carried is = absurd is
  looks slots seat Spent carried is = absurd is
  looks slots seat (Looker seen loads) carried is = λ state st count at small.
      let found = slice_index state.words 0 in
      let seen_now : IsRaised st.raised found = subst (IsRaised st.raised) (sym (word_is state.words st.number st.words).0) st.told in
      (looked (Looker seen loads) found, keeps, tt, loaded state st seat (looked (Looker seen loads) found) seen_now, refl)

  pub checks : (slots seat : ℕ) (side : Side) (carried : List (ℕ × S)) → IsRaiserSide side
      → Allows Standing slots seat (side, carried) 0 (λ n. n) (λ found after. (after ≡ (side, carried)) × KeptIsRaised side)
  checks slots seat (Looker seen loads) carried is = absurd is
  checks slots seat Spent carried is = absurd is
  checks slots seat (Raiser raised kept) carried is = λ state st count at small.
      let mine = st.each seat (Raiser raised kept) at in
      let kept_is = subst (λ (l : List ℕ). All (IsRaised l) kept) (sym mine.1) mine.2 in
      (Raiser raised kept, keeps, tt, loaded state st seat (Raiser raised kept) mine, (refl, kept_is))

  pub leaves : (seat : ℕ) (side : Side) → Splits {S = S} Standing seat side side (Looker 0 0)
  leaves seat side state st at = record {
    number = st.number;
    words = st.words;
    raiser = st.raiser;
    raised = st.raised;
    told = st.told;
    each = λ j u e.
        ⊎_elim (λ (x : get_elem? (set state.views seat side) j ≡ some u).
        all_set (Fits st.raiser st.raised) state.views seat side (st.each seat side at) (λ k v other f. st.each k v f) j u x)
        (λ (is : Looker 0 0 ≡ u). subst (Fits st.raiser st.raised j) is (inl refl))
        (at_snoc (set state.views seat side) (Looker 0 0) u j e);
  }

  pub returns : (seat : ℕ) (side : Side) (other : ℕ) (looker : Side) → IsRaiserSide side → IsLookerSide looker
      → Joins {S = S} Standing seat side other looker (kept_more side looker) Spent
  returns seat (Looker seen loads) other looker is was = absurd is
  returns seat Spent other looker is was = absurd is
  returns seat (Raiser raised kept) other (Raiser others others_kept) is was = absurd was
  returns seat (Raiser raised kept) other Spent is was = absurd was
  returns seat (Raiser raised kept) other (Looker seen loads) is was = λ state st at two at'.
      let looker : Side = Looker seen loads in
      let both : Side = Raiser raised (seen ∷ kept) in
      let mine = st.each seat (Raiser raised kept) at in
      let theirs = st.each other looker (⊎_elim (λ x. absurd (two x.0)) (λ x. x.1) (at_set state.views seat other both looker at')) in
      let F = Fits st.raiser st.raised in
      let kept_is = All-cons (IsRaised st.raised) seen kept theirs mine.2 in
      record {
        number = st.number;
        words = st.words;
        raiser = st.raiser;
        raised = st.raised;
        told = st.told;
        each = all_set F (set state.views seat both) other Spent tt
            (λ j u away e. all_set F state.views seat both (mine.0, mine.1, kept_is) (λ k v apart f. st.each k v f) j u e);
      }
