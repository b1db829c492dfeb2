-- The shortest front of some bytes that has given items: there is one, and one only.
use Rattle.std.proofs.Common.{◌≡◌, ℕ, suc, ◌<◌, ◌≤◌, ◌⊎◌, inl, inr, List, [], ◌∷◌, ◌++◌, length, drop, get_or, refl, sym, ◌∙◌, ap, subst}
use Rattle.std.proofs.Common.{arith, append_assoc, append-nil, length-append}
use Rattle.std.proofs.lemmas.List.{take_all, take-append-drop}
use Rattle.std.proofs.lemmas.Bool.{cases_lt}
use Rattle.line_spec.specs.Frames.{Frame, Begins, IsBytes, IsJunk}
use Rattle.line_spec.specs.Cut.{Item, whole, junk, Cuts}
use Rattle.line_spec.proofs.Bytes.{IsBytes-left}
use Rattle.line_spec.proofs.FrameBytes.{same_begins}
use Rattle.line_spec.proofs.Fronts.{whole_front, partial_front, junk_front, front}
use Rattle.line_spec.proofs.Cuts.{no_junk_whole, no_junk_partial, no_partial_whole, IsPartial-nil, Begins-more, Begins-bytes}
use Rattle.debug_spec.specs.CutShort.{IsJustTaken}
use Rattle.debug_spec.proofs.TakeLemmas.{front_of_front}

-- what is behind items is one list
pub one_behind : (x y z : List ℕ) (items : List Item) → Cuts x items y → Cuts x items z → y ≡ z
one_behind x y z [] c d = sym c ∙ d
one_behind x y z (whole frame ∷ items) c d =
    one_behind c.0 y z items c.2 (subst (λ (t : List ℕ). Cuts t items z) (same_begins x d.0 c.0 frame frame d.1 c.1).1 d.2)
one_behind x y z (junk byte ∷ items) c d =
    let rests : d.0 ≡ c.0 = ap (λ (t : List ℕ). drop 1 t) (sym d.1 ∙ c.1) in
    one_behind c.0 y z items c.3 (subst (λ (t : List ℕ). Cuts t items z) rests d.3)

-- some bytes have given items, or they do not
abbrev Found : List Item → List ℕ → Type 0
Found items x = ((z : List ℕ) × Cuts x items z) ⊎ ((z : List ℕ) → Cuts x items z → ⊥)

found_whole : (x after : List ℕ) (frame : Frame) (items : List Item) → Begins frame x after → Found items after →
    Found (whole frame ∷ items) x
found_whole x after frame items b (inl f) = inl (f.0, (after, b, f.1))
found_whole x after frame items b (inr none) =
    inr (λ z c. none z (subst (λ (t : List ℕ). Cuts t items z) (same_begins x c.0 after frame frame c.1 b).1 c.2))

found_junk : (byte : ℕ) (after : List ℕ) (items : List Item) → IsJunk (byte ∷ after) → Found items after →
    Found (junk byte ∷ items) (byte ∷ after)
found_junk byte after items j (inl f) = inl (f.0, (after, refl, j, f.1))
found_junk byte after items j (inr none) =
    inr (λ z c. none z (subst (λ (t : List ℕ). Cuts t items z) (ap (λ (t : List ℕ). drop 1 t) (sym c.1)) c.3))

-- so it is told of each front of bytes that have them
found : (items : List Item) (x more behind : List ℕ) → IsBytes x → Cuts (x ++ more) items behind → Found items x
found [] x more behind valid c = inl (x, refl)
found (whole frame ∷ items) x more behind valid c = elim (front x valid) [
  | whole_front also after begins ↦
      let same = same_begins (x ++ more) (after ++ more) c.0 also frame (Begins-more x after more also begins) c.1 in
      subst (λ (f : Frame). Found (whole f ∷ items) x) same.0
      (found_whole x after also items begins
      (found items after more behind (Begins-bytes x after also begins valid)
      (subst (λ (t : List ℕ). Cuts t items behind) (sym same.1) c.2)))
  | partial_front p ↦ inr (λ z d. no_partial_whole x d.0 frame p d.1)
  | junk_front j ↦ inr (λ z d. no_junk_whole x d.0 frame j d.1)
]
found (junk byte ∷ items) [] more behind valid c = inr (λ z d. no_junk_partial [] d.2 IsPartial-nil)
found (junk byte ∷ items) (first ∷ x) more behind valid c = elim (front (first ∷ x) valid) [
  | whole_front also after begins ↦ inr (λ z d. no_junk_whole (first ∷ x) after also d.2 begins)
  | partial_front p ↦ inr (λ z d. no_junk_partial (first ∷ x) d.2 p)
  | junk_front j ↦
      let bytes : first ≡ byte = ap (λ (t : List ℕ). get_or t 0 0) c.1 in
      let rests : c.0 ≡ x ++ more = ap (λ (t : List ℕ). drop 1 t) (sym c.1) in
      subst (λ (k : ℕ). Found (junk k ∷ items) (first ∷ x)) bytes
      (found_junk first x items j (found items x more behind (λ i. valid (suc i)) (subst (λ (t : List ℕ). Cuts t items behind) rests c.3)))
]

module _ (held : List ℕ) (items : List Item) where
  -- the shortest front of a chunk
  pub record Shortest (chunk : List ℕ) : Type 0 where
    pub taken : List ℕ
    pub left : List ℕ
    pub behind : List ℕ
    pub split : chunk ≡ taken ++ left
    pub cuts : Cuts (held ++ taken) items behind
    pub just_taken : IsJustTaken held taken items

  -- one byte more, while the items are not there
  just_more : (used : List ℕ) (byte : ℕ) → IsJustTaken held used items → ((z : List ℕ) → Cuts (held ++ used) items z → ⊥) →
      IsJustTaken held (used ++ byte ∷ []) items
  just_more used byte none here shorter missing behind e some c = by_place (cases_lt (length shorter) (length used))
    where
      by_place : (length shorter < length used) ⊎ (length used ≤ length shorter) → ⊥
      by_place (inl low) =
          let k = length shorter in
          let split : used ≡ shorter ++ drop k used =
          sym (take-append-drop k used) ∙
          ap (λ (t : List ℕ). t ++ drop k used) (sym (front_of_front shorter missing used (byte ∷ []) (sym e) (omega (arith, low)))) in
          none shorter (drop k used) behind split (omega (arith, low, ap length split, length-append shorter (drop k used))) c
      by_place (inr high) =
          let within : length shorter ≤ length used =
          omega (arith, some, ap length e, length-append used (byte ∷ []), length-append shorter missing) in
          let same : shorter ≡ used =
          front_of_front shorter missing used (byte ∷ []) (sym e) within ∙ take_all (length shorter) used (omega (arith, high)) in
          here behind (subst (λ (t : List ℕ). Cuts (held ++ t) items behind) same c)

  shortest_from : (left used : List ℕ) → IsBytes (held ++ (used ++ left)) → IsJustTaken held used items → (behind : List ℕ) →
      Cuts (held ++ (used ++ left)) items behind → Shortest (used ++ left)
  shortest_from [] used valid none behind c = record {
    taken = used;
    left = [];
    behind = behind;
    split = refl;
    cuts = subst (λ (t : List ℕ). Cuts (held ++ t) items behind) (append-nil used) c;
    just_taken = none;
  }
  shortest_from (byte ∷ left) used valid none behind c =
      let place : held ++ (used ++ byte ∷ left) ≡ (held ++ used) ++ byte ∷ left = sym (append_assoc held used (byte ∷ left)) in
      let next : used ++ byte ∷ left ≡ (used ++ byte ∷ []) ++ left = sym (append_assoc used (byte ∷ []) left) in
      elim (found items (held ++ used) (byte ∷ left) behind (IsBytes-left (held ++ used) (byte ∷ left) (subst IsBytes place valid))
      (subst (λ (t : List ℕ). Cuts t items behind) place c)) [
        | inl f ↦ record { taken = used; left = byte ∷ left; behind = f.0; split = refl; cuts = f.1; just_taken = none }
        | inr not_yet ↦ subst Shortest (sym next)
            (shortest_from left (used ++ byte ∷ []) (subst (λ (t : List ℕ). IsBytes (held ++ t)) next valid)
            (just_more used byte none not_yet) behind
            (subst (λ (t : List ℕ). Cuts (held ++ t) items behind) next c))
      ]

  pub shortest : (chunk behind : List ℕ) → IsBytes (held ++ chunk) → Cuts (held ++ chunk) items behind → Shortest chunk
  shortest chunk behind valid c =
      shortest_from chunk [] valid
      (λ shorter missing behind e some d. absurd (omega (arith, some, ap length e, length-append shorter missing))) behind c

  not_shorter : (taken left also others y : List ℕ) → taken ++ left ≡ also ++ others → Cuts (held ++ taken) items y →
      IsJustTaken held also items →
      length taken < length also → ⊥
  not_shorter taken left also others y e c just short =
      let k = length taken in
      let split : also ≡ taken ++ drop k also =
      sym (take-append-drop k also) ∙
      ap (λ (t : List ℕ). t ++ drop k also) (sym (front_of_front taken left also others e (omega (arith, short)))) in
      just taken (drop k also) y split (omega (arith, short, ap length split, length-append taken (drop k also))) c

  pub same_taken : (taken left also others y z : List ℕ) → taken ++ left ≡ also ++ others → Cuts (held ++ taken) items y →
      IsJustTaken held taken items →
      Cuts (held ++ also) items z → IsJustTaken held also items → taken ≡ also
  same_taken taken left also others y z e c just d also_just =
      let not_less : length also ≤ length taken = elim (cases_lt (length taken) (length also)) [
        | inl short ↦ absurd (not_shorter taken left also others y e c also_just short)
        | inr long ↦ long
      ] in
      let not_more : length taken ≤ length also = elim (cases_lt (length also) (length taken)) [
        | inl short ↦ absurd (not_shorter also others taken left z (sym e) d just short)
        | inr long ↦ long
      ] in
      front_of_front taken left also others e not_more ∙ take_all (length taken) also not_less
