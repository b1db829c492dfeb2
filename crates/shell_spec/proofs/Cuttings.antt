-- A text has one cut into lines.
use Rattle.std.proofs.Common.{◌≡◌, ℕ, suc, List, [], ◌∷◌, ◌++◌, length, get_or, refl, sym, ap, ap₂, ◌∙◌, inl, inr, append_assoc, arith}
use Rattle.std.specs.Prelude.{◌≢◌, ◌⊎◌}
use Rattle.std.proofs.lemmas.List.Elements.{All-cons, All-nil}
use Rattle.std.proofs.lemmas.Bool.{cases_lt}
use Rattle.shell_spec.specs.Text.{IsCut, IsEnded, IsOpen, joined}
use Rattle.shell_spec.specs.Words.{line_feed}

-- a byte ends a line, or does not
is_feed : (byte : ℕ) → (byte ≡ line_feed) ⊎ (byte ≢ line_feed)
is_feed byte = elim (cases_lt byte 10) [
  | inl below ↦ inr (λ same. omega (arith, below, same))
  | inr from ↦ elim (cases_lt 10 byte) [
    | inl above ↦ inr (λ same. omega (arith, above, same))
    | inr to ↦ inl (omega (arith, from, to))
  ]
]

-- one byte more in front
longer : (byte : ℕ) (text : List ℕ) (lines : List (List ℕ)) (behind : List ℕ) → byte ≢ line_feed → IsCut text lines behind
    → (more : List (List ℕ)) × (rest : List ℕ) × IsCut (byte ∷ text) more rest
longer byte text [] behind other cut = (
  [],
  byte ∷ behind,
  record {
    ended = All-nil IsEnded;
    unended = All-cons (λ b. b ≢ line_feed) byte behind other cut.unended;
    whole = ap (λ (bytes : List ℕ). byte ∷ bytes) cut.whole;
  },
)
longer byte text (line ∷ lines) behind other cut =
    let first : IsEnded line = cut.ended 0 line (omega arith) in (
      (byte ∷ line) ∷ lines,
      behind,
      record {
        ended = All-cons IsEnded (byte ∷ line) lines (record {
          front = byte ∷ first.front;
          unended = All-cons (λ b. b ≢ line_feed) byte first.front other first.unended;
          whole = ap (λ (bytes : List ℕ). byte ∷ bytes) first.whole;
        }) (λ k d inside. cut.ended (suc k) d (omega (arith, inside)));
        unended = cut.unended;
        whole = ap (λ (bytes : List ℕ). byte ∷ bytes) cut.whole;
      },
    )

pub every-cut : (text : List ℕ) → (lines : List (List ℕ)) × (behind : List ℕ) × IsCut text lines behind
every-cut [] = ([], [], record { ended = All-nil IsEnded; unended = All-nil (λ b. b ≢ line_feed); whole = refl })
every-cut (byte ∷ text) =
    let rest = every-cut text in
    elim (is_feed byte) [
      | inl feed ↦ (
        (byte ∷ []) ∷ rest.0,
        rest.1,
        record {
          ended = All-cons IsEnded (byte ∷ []) rest.0 (record { front = []; unended = All-nil (λ b. b ≢ line_feed); whole = ap (λ b. b ∷ []) feed }) rest.2.ended;
          unended = rest.2.unended;
          whole = ap (λ (bytes : List ℕ). byte ∷ bytes) rest.2.whole;
        },
      )
      | inr other ↦ longer byte text rest.0 rest.1 other rest.2
    ]

-- bytes in which no line ends do not go on with an end
no-end : (bytes front rest : List ℕ) → IsOpen bytes → bytes ≡ front ++ line_feed ∷ rest → ⊥
no-end [] [] rest unended same = absurd (omega (arith, ap length same))
no-end [] (byte ∷ front) rest unended same = absurd (omega (arith, ap length same))
no-end (byte ∷ bytes) [] rest unended same = unended 0 0 (omega arith) (ap (λ (list : List ℕ). get_or list 0 0) same)
no-end (byte ∷ bytes) (other ∷ front) rest unended same =
    no-end bytes front rest (λ k d inside. unended (suc k) d (omega (arith, inside))) (ap tail same)
  where
    tail : List ℕ → List ℕ
    tail [] = []
    tail (first ∷ list) = list

-- the first end of a line is in one place
one-front : (front other rest behind : List ℕ) → IsOpen front → IsOpen other → front ++ line_feed ∷ rest ≡ other ++ line_feed ∷ behind
    → (front ≡ other) × (rest ≡ behind)
one-front [] [] rest behind unended also same = (refl, ap tail same)
  where
    tail : List ℕ → List ℕ
    tail [] = []
    tail (first ∷ list) = list
one-front [] (byte ∷ other) rest behind unended also same =
    absurd (also 0 0 (omega arith) (sym (ap (λ (list : List ℕ). get_or list 0 0) same)))
one-front (byte ∷ front) [] rest behind unended also same =
    absurd (unended 0 0 (omega arith) (ap (λ (list : List ℕ). get_or list 0 0) same))
one-front (byte ∷ front) (first ∷ other) rest behind unended also same =
    let later = one-front front other rest behind (λ k d inside. unended (suc k) d (omega (arith, inside)))
    (λ k d inside. also (suc k) d (omega (arith, inside))) (ap tail same) in
    (ap₂ (λ (b : ℕ) (bytes : List ℕ). b ∷ bytes) (ap (λ (list : List ℕ). get_or list 0 0) same) later.0, later.1)
  where
    tail : List ℕ → List ℕ
    tail [] = []
    tail (first ∷ list) = list

-- a text whose first line has an end
headed : (line : List ℕ) (lines : List (List ℕ)) (behind : List ℕ) → (ended : IsEnded line)
    → joined (line ∷ lines) ++ behind ≡ ended.front ++ line_feed ∷ (joined lines ++ behind)
headed line lines behind ended =
    append_assoc line (joined lines) behind ∙ ap (λ (bytes : List ℕ). bytes ++ (joined lines ++ behind)) ended.whole
    ∙ append_assoc ended.front (line_feed ∷ []) (joined lines ++ behind)

pub one-cut : (text : List ℕ) (lines others : List (List ℕ)) (behind other_behind : List ℕ) → IsCut text lines behind
    → IsCut text others other_behind → (lines ≡ others) × (behind ≡ other_behind)
one-cut text [] [] behind other_behind cut other = (refl, sym cut.whole ∙ other.whole)
one-cut text [] (line ∷ others) behind other_behind cut other =
    let first : IsEnded line = other.ended 0 line (omega arith) in
    absurd (no-end behind first.front (joined others ++ other_behind) cut.unended
    (sym cut.whole ∙ other.whole ∙ headed line others other_behind first))
one-cut text (line ∷ lines) [] behind other_behind cut other =
    let first : IsEnded line = cut.ended 0 line (omega arith) in
    absurd (no-end other_behind first.front (joined lines ++ behind) other.unended
    (sym other.whole ∙ cut.whole ∙ headed line lines behind first))
one-cut text (line ∷ lines) (also ∷ others) behind other_behind cut other =
    let first : IsEnded line = cut.ended 0 line (omega arith) in
    let second : IsEnded also = other.ended 0 also (omega arith) in
    let fronts = one-front first.front second.front (joined lines ++ behind) (joined others ++ other_behind) first.unended second.unended
    (sym (headed line lines behind first) ∙ sym cut.whole ∙ other.whole ∙ headed also others other_behind second) in
    let later = one-cut (joined lines ++ behind) lines others behind other_behind
    (record { ended = λ k d inside. cut.ended (suc k) d (omega (arith, inside)); unended = cut.unended; whole = refl })
    (record { ended = λ k d inside. other.ended (suc k) d (omega (arith, inside)); unended = other.unended; whole = fronts.1 }) in (
      ap₂ (λ (l : List ℕ) (ls : List (List ℕ)). l ∷ ls)
          (first.whole ∙ ap (λ (front : List ℕ). front ++ line_feed ∷ []) fronts.0 ∙ sym second.whole) later.0,
      later.1,
    )
