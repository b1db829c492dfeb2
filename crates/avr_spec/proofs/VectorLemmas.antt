-- The pending interrupt that goes first has the lowest address.
use Rattle.std.proofs.Common.{◌≡◌, ◌<◌, ◌≤◌, nat_le, Bool, true, false, cond, List, [], ◌∷◌, ◌⊎◌, inl, inr, Option, Some, None, refl, sym}
use Rattle.std.proofs.Common.{subst, arith, leb-true, leb-false}
use Rattle.std.proofs.lemmas.Bool.{both_ways}
use Rattle.std.specs.Prelude.{MatchOption}
use Rattle.part_spec.specs.Chip.{Chip}
use Rattle.avr_spec.specs.declared.target.Vector.{Vector}
use Rattle.avr_spec.specs.declared.target.Vector.TheVariants.{Comp2, Ovf2, Ovf0, Comp0}
use Rattle.avr_spec.specs.IoSpace.{IoState}
use Rattle.avr_spec.specs.Interrupts.{address_of, all_vectors, is_pending, earlier, first_pending, pending}
use Rattle.avr_spec.specs.Laws.{IsFirst, PendingIsLowest}

-- an interrupt stands in a list
abbrev In : Vector → List Vector → Type 0
In w [] = ⊥
In w (v ∷ vs) = (w ≡ v) ⊎ In w vs

every : (w : Vector) → In w all_vectors
every Comp2 = inl refl
every Ovf2 = inr (inl refl)
every Ovf0 = inr (inr (inl refl))
every Comp0 = inr (inr (inr (inl refl)))

module _ (part : Chip) (io : IoState) where
  -- pending, and no pending one of the list has a lower address
  record First (vs : List Vector) (v : Vector) : Type 0 where
    set : is_pending io v ≡ true
    least : (w : Vector) → In w vs → is_pending io w ≡ true → address_of part v ≤ address_of part w

  abbrev NoneOf : List Vector → Type 0
  NoneOf vs = (w : Vector) → In w vs → is_pending io w ≡ false

  abbrev Found : List Vector → Option Vector → Type 0
  Found vs o = MatchOption o (NoneOf vs) (First vs)

  -- two pending interrupts, by the order of their addresses
  by_order : (v u : Vector) (vs : List Vector) → is_pending io v ≡ true → First vs u →
      (b : Bool) → nat_le (address_of part v) (address_of part u) ≡ b → Found (v ∷ vs) (cond b (Some v) (Some u))
  by_order v u vs e h true order = record { set = e; least = least_more }
    where
      below : address_of part v ≤ address_of part u
      below = leb-true (address_of part v) (address_of part u) order

      least_more : (w : Vector) → In w (v ∷ vs) → is_pending io w ≡ true → address_of part v ≤ address_of part w
      least_more w (inl same) now = subst (λ (i : Vector). address_of part v ≤ address_of part i) (sym same) (omega arith)
      least_more w (inr there) now = let above : address_of part u ≤ address_of part w = h.least w there now in omega (arith, below)
  by_order v u vs e h false order = record { set = h.set; least = least_more }
    where
      above : address_of part u < address_of part v
      above = leb-false (address_of part v) (address_of part u) order

      least_more : (w : Vector) → In w (v ∷ vs) → is_pending io w ≡ true → address_of part u ≤ address_of part w
      least_more w (inl same) now = subst (λ (i : Vector). address_of part u ≤ address_of part i) (sym same) (omega (arith, above))
      least_more w (inr there) now = h.least w there now

  -- one interrupt more, pending or not
  more : (v : Vector) (vs : List Vector) (b : Bool) → is_pending io v ≡ b → (o : Option Vector) → Found vs o →
      Found (v ∷ vs) (cond b (earlier part v o) o)
  more v vs false e None h = none_more
    where
      none_more : NoneOf (v ∷ vs)
      none_more w (inl same) = subst (λ (i : Vector). is_pending io i ≡ false) (sym same) e
      none_more w (inr there) = h w there
  more v vs false e (Some u) h = record { set = h.set; least = least_more }
    where
      least_more : (w : Vector) → In w (v ∷ vs) → is_pending io w ≡ true → address_of part u ≤ address_of part w
      least_more w (inl same) now =
          absurd (both_ways (is_pending io v) e (subst (λ (i : Vector). is_pending io i ≡ true) same now))
      least_more w (inr there) now = h.least w there now
  more v vs true e None h = record { set = e; least = least_more }
    where
      least_more : (w : Vector) → In w (v ∷ vs) → is_pending io w ≡ true → address_of part v ≤ address_of part w
      least_more w (inl same) now = subst (λ (i : Vector). address_of part v ≤ address_of part i) (sym same) (omega arith)
      least_more w (inr there) now = absurd (both_ways (is_pending io w) (h w there) now)
  more v vs true e (Some u) h =
      by_order v u vs e h (nat_le (address_of part v) (address_of part u)) refl

  first : (vs : List Vector) → Found vs (first_pending part io vs)
  first [] = λ w there. absurd there
  first (v ∷ vs) = more v vs (is_pending io v) refl (first_pending part io vs) (first vs)

pub pending_is_lowest : PendingIsLowest
pending_is_lowest part io = told (pending part io) (first part io all_vectors)
  where
    told : (o : Option Vector) → Found part io all_vectors o → MatchOption o ((w : Vector) → is_pending io w ≡ false) (IsFirst part io)
    told None h = λ w. h w (every w)
    told (Some v) h = record { pending = h.set; least = λ w. h.least w (every w) }
