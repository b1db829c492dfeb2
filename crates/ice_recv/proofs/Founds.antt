-- What a scan of the bytes held came to.
use Rattle.std.proofs.Common.{◌≡◌, ℕ, ◌+◌, ◌-◌, ◌≤◌, Option, None, Some, inl, inr, List, [], ◌∷◌, ◌++◌, length, take, drop, refl, sym, subst, ap, ◌∙◌, append-nil, length-take, arith}
use Rattle.std.proofs.lemmas.List.{take_all, take-append-le, take-append-drop, drop_all}
use Rattle.std.specs.Option.{is_some}
use Rattle.line_spec.specs.Check.{check}
use Rattle.line_spec.specs.Frames.{IsBytes, IsPartial, IsJunk, bytes_of}
use Rattle.line_spec.proofs.Bytes.{IsBytes-drop, IsBytes-take}
use Rattle.line_spec.proofs.Cuts.{IsJunk-more, no_partial_whole}
use Rattle.ice_frame.specs.Scans.{Kept, scan_of}
use Rattle.ice_frame.specs.Scanned.{IsScanned, IsWhole}
use Rattle.ice_frame.specs.declared.scan.Scanned.{Scanned}
use Rattle.ice_frame.specs.declared.scan.Scanned.TheVariants.{More, Whole, Junk}
use Rattle.ice_recv.specs.Receiving.{Waits, IsSettled, StandsAt, Stands, Tells}
use Rattle.ice_recv.specs.Fronts.{IsFound}
use Rattle.ice_recv.specs.declared.held.Found.{Found}
use Rattle.ice_recv.proofs.Markings.{take_sum}

-- where all bytes were looked at, the scan stands for them
pub found_all : (x : List ℕ) (found : Found) (scan : Kept) → IsFound x found scan → found.answer ≡ More → IsPartial x × (scan ≡ scan_of x)
found_all x found scan f e =
    let same : take found.size x ≡ x = take_all found.size x (omega (arith, f.all e)) in
    let P : Scanned → Type 0 = λ a. IsScanned (take found.size x) a in
    let Q : List ℕ → Type 0 = λ t. IsPartial t in
    (subst Q same (subst P e f.answer), f.scan ∙ ap (λ (t : List ℕ). scan_of t) same)

-- a scan of the front that ended there
pub found_front : (x : List ℕ) (n : ℕ) (found : Found) (scan : Kept) → IsFound (take n x) found scan → (found.answer ≡ More → ⊥)
    → IsFound x found scan
found_front x n found scan f ended =
    let same : take found.size x ≡ take found.size (take n x) =
    ap (λ (t : List ℕ). take found.size t) (sym (take-append-drop n x)) ∙ take-append-le found.size (take n x) (drop n x) f.within in
    let P : List ℕ → Type 0 = λ t. IsScanned t found.answer in
    record {
      within = omega (arith, f.within, length-take n x);
      scan = f.scan ∙ ap (λ (t : List ℕ). scan_of t) (sym same);
      answer = subst P (sym same) f.answer;
      all = λ e. absurd (ended e);
    }

-- behind a header, the bytes before the check are known by their check alone
pub skipped : (held : List ℕ) (found : Found) (scan next : Kept) (seen register : ℕ) → IsFound (take 8 held) found scan
    → found.answer ≡ More → IsBytes held → 8 ≤ seen → seen ≤ length held → seen ≤ 8 + scan.size → register ≡ check (take seen held)
    → ((bytes more : List ℕ) → scan ≡ scan_of bytes → IsPartial bytes → 8 ≤ length bytes → IsBytes more → seen ≡ length (bytes ++ more)
    → seen ≤ 8 + scan.size → register ≡ check (bytes ++ more) → (next ≡ scan_of (bytes ++ more)) × IsPartial (bytes ++ more))
    → (next ≡ scan_of (take seen held)) × IsPartial (take seen held)
skipped held found scan next seen register f e bytes least most within r skip =
    let header = found_all (take 8 held) found scan f e in
    let more : List ℕ = take (seen - 8) (drop 8 held) in
    let sum : seen ≡ 8 + (seen - 8) = omega (arith, least) in
    let split : take seen held ≡ take 8 held ++ more = ap (λ (k : ℕ). take k held) sum ∙ take_sum 8 (seen - 8) held in
    let P : List ℕ → Type 0 = λ t. (next ≡ scan_of t) × IsPartial t in
    subst P (sym split) (skip (take 8 held) more header.1 header.0 (omega (arith, least, most, length-take 8 held))
    (IsBytes-take (seen - 8) (drop 8 held) (IsBytes-drop 8 held bytes))
    (omega (arith, most, length-take seen held, ap length split)) within (r ∙ ap (λ (t : List ℕ). check t) split))

-- a whole front is a frame
pub found_frame : (x : List ℕ) (found : Found) (scan : Kept) → IsFound x found scan → found.answer ≡ Whole → StandsAt found.size x
found_frame x found scan f e =
    let P : Scanned → Type 0 = λ a. IsScanned (take found.size x) a in
    let whole : IsWhole (take found.size x) = subst P e f.answer in (
      whole.0,
      record {
        valid = whole.1;
        split = sym (take-append-drop found.size x) ∙ ap (λ (t : List ℕ). t ++ drop found.size x) whole.2;
      },
      f.within,
    )

-- a junk front is junk
pub found_junk : (x : List ℕ) (found : Found) (scan : Kept) → IsFound x found scan → found.answer ≡ Junk → IsJunk x
found_junk x found scan f e =
    let P : Scanned → Type 0 = λ a. IsScanned (take found.size x) a in
    let Q : List ℕ → Type 0 = λ t. IsJunk t in
    subst Q (take-append-drop found.size x) (IsJunk-more (take found.size x) (drop found.size x) (subst P e f.answer))

-- where less than a frame is held, no frame waits, and the scan stands for it
pub stands_none : (waiting : Option ℕ) (scan : Kept) (held : List ℕ) → Stands waiting scan held → IsPartial held
    → (waiting ≡ None) × (scan ≡ scan_of held)
stands_none None scan held s p = (refl, s.1)
stands_none (Some size) scan held s p = absurd (no_partial_whole held (drop size held) s.0 p s.1)

-- whether a frame waits
pub stands_tell : (waiting : Option ℕ) (scan : Kept) (held : List ℕ) → Stands waiting scan held → Tells (is_some waiting) held
stands_tell None scan held s = s.0
stands_tell (Some size) scan held s = (s.0, drop size held, s.1)

pub stands_settled : (waiting : Option ℕ) (scan : Kept) (held : List ℕ) → Stands waiting scan held → IsSettled held
stands_settled None scan held s = inr s.0
stands_settled (Some size) scan held s = inl (s.0, drop size held, s.1)

-- the whole of the bytes is a frame
pub whole_stands : (x : List ℕ) (size : ℕ) → IsWhole x → size ≡ length x → StandsAt size x
whole_stands x size w e =
    let none : drop size x ≡ [] = drop_all size x (omega (arith, e)) in (
      w.0,
      record {
        valid = w.1;
        split = w.2 ∙ sym (append-nil (bytes_of w.0)) ∙ ap (λ (t : List ℕ). bytes_of w.0 ++ t) (sym none);
      },
      omega (arith, e),
    )

-- where none is told, none waits
pub none_waits : (waiting : Option ℕ) (scan : Kept) (held now : List ℕ) → waiting ≡ None → Stands waiting scan held → held ≡ now → Waits now → ⊥
none_waits None scan held now e s same w =
    let P : List ℕ → Type 0 = λ t. IsPartial t in no_partial_whole now w.1 w.0 (subst P same s.0) w.2
none_waits (Some size) scan held now e s same w = cc

-- what the scan says of one byte more
pub byte_told : (waiting : Option ℕ) (scan next : Kept) (held now : List ℕ) (b : ℕ) (answer : Scanned) → Stands waiting scan held → IsPartial held
    → ((bytes : List ℕ) → scan ≡ scan_of bytes → IsPartial bytes → (next ≡ scan_of (bytes ++ b ∷ [])) × IsScanned (bytes ++ b ∷ []) answer)
    → now ≡ held ++ b ∷ [] → (next ≡ scan_of now) × IsScanned now answer
byte_told waiting scan next held now b answer s p told e =
    let P : List ℕ → Type 0 = λ t. (next ≡ scan_of t) × IsScanned t answer in
    subst P (sym e) (told held (stands_none waiting scan held s p).1 p)

pub told_more : (waiting : Option ℕ) (scan next : Kept) (held now : List ℕ) (answer : Scanned) → Stands waiting scan held → IsPartial held
    → (next ≡ scan_of now) × IsScanned now answer → answer ≡ More → Stands waiting next now
told_more waiting scan next held now answer s p told e =
    let P : Option ℕ → Type 0 = λ o. Stands o next now in
    let Q : Scanned → Type 0 = λ a. IsScanned now a in
    subst P (sym (stands_none waiting scan held s p).0) (subst Q e told.1, told.0)

pub told_whole : (now : List ℕ) (size : ℕ) (answer : Scanned) → IsScanned now answer → answer ≡ Whole → size ≡ length now → StandsAt size now
told_whole now size answer told e same =
    let Q : Scanned → Type 0 = λ a. IsScanned now a in whole_stands now size (subst Q e told) same

pub told_junk : (now : List ℕ) (answer : Scanned) → IsScanned now answer → answer ≡ Junk → IsJunk now
told_junk now answer told e = let Q : Scanned → Type 0 = λ a. IsScanned now a in subst Q e told

pub told_partial : (now : List ℕ) (answer : Scanned) → IsScanned now answer → answer ≡ More → IsPartial now
told_partial now answer told e = let Q : Scanned → Type 0 = λ a. IsScanned now a in subst Q e told
