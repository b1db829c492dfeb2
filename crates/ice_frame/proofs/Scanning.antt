-- What a scan keeps with one byte more, and what it answers.
use Rattle.std.proofs.Common.{◌≡◌, ◌==◌, ℕ, ◌+◌, ◌<◌, ◌≤◌, Bool, true, false, List, [], ◌∷◌, ◌++◌, length, get_or, take, refl, sym, ap, ap₂, ◌∙◌, subst, subst₂, eqb-true, append-nil, length-append, arith}
use Rattle.std.specs.Int.{byte_at}
use Rattle.std.proofs.lemmas.Bool.{eqb-false}
use Rattle.std.proofs.lemmas.List.{get_or_append_left, get_or_past, take_all, take-append-le, drop_all}
use Rattle.std.proofs.lemmas.List.Sums.{fold-append}
use Rattle.std.proofs.Math.Seq.{get_or-append_seam}
use Rattle.line_spec.specs.Check.{check, checked}
use Rattle.line_spec.specs.Frames.{IsBytes, IsPartial, bytes_of}
use Rattle.line_spec.proofs.Bytes.{IsBytes-nil, IsBytes-cons, IsBytes-append}
use Rattle.line_spec.proofs.Cuts.{IsPartial-bytes}
use Rattle.line_spec.proofs.Fronts.{HasHeader, HasBody, HasCheck, shown_size, shown_check, shown_frame, junk_by_check, partial_by_check, whole_by_check}
use Rattle.ice_frame.specs.Scans.{Kept, scan_of, size_in, size_more}
use Rattle.ice_frame.specs.Scanned.{IsScanned, FitsHeader, TellsHeader, TellsCheck}
use Rattle.ice_frame.specs.declared.scan.Scanned.{Scanned}
use Rattle.ice_frame.specs.declared.scan.Scanned.TheVariants.{More, Whole, Junk}
use Rattle.ice_frame.proofs.Headers.{junk_without_header, partial_header, partial_body, partial_check, partial_short, partial_before_check}

-- the three numbers of a scan that stands for the bytes
pub record Stands (scan : Kept) (x : List ℕ) : Type 0 where
  pub seen : scan.seen ≡ length x
  pub size : scan.size ≡ size_in x
  pub register : scan.register ≡ check (take (8 + size_in x) x)

pub stands : (scan : Kept) (x : List ℕ) → scan ≡ scan_of x → Stands scan x
unfolding scan_of
stands scan x e = record {
  seen = ap (λ (k : Kept). k.seen) e;
  size = ap (λ (k : Kept). k.size) e;
  register = ap (λ (k : Kept). k.register) e;
}

pub scan_stands : (scan : Kept) (x : List ℕ) → Stands scan x → scan ≡ scan_of x
unfolding scan_of
scan_stands scan x s =
    ap (λ (k : ℕ). let kept : Kept = record { seen = k; size = scan.size; register = scan.register } in kept) s.seen
    ∙ ap (λ (k : ℕ). let kept : Kept = record { seen = length x; size = k; register = scan.register } in kept) s.size
    ∙ ap (λ (k : ℕ). let kept : Kept = record { seen = length x; size = size_in x; register = k } in kept) s.register

-- the size with one byte more, in the header
size_grows : (x : List ℕ) (b : ℕ) → length x < 8 → size_in (x ++ b ∷ []) ≡ size_more (length x) (size_in x) b
size_grows [] z h = refl
size_grows (a ∷ []) z h = refl
size_grows (a ∷ b ∷ []) z h = refl
size_grows (a ∷ b ∷ c ∷ []) z h = omega arith
size_grows (a ∷ b ∷ c ∷ d ∷ []) z h = omega arith
size_grows (a ∷ b ∷ c ∷ d ∷ e ∷ []) z h = omega arith
size_grows (a ∷ b ∷ c ∷ d ∷ e ∷ f ∷ []) z h = omega arith
size_grows (a ∷ b ∷ c ∷ d ∷ e ∷ f ∷ g ∷ []) z h = refl
size_grows (a ∷ b ∷ c ∷ d ∷ e ∷ f ∷ g ∷ i ∷ x) z h = absurd (omega (arith, h))

-- behind it the size stays
size_stays : (x y : List ℕ) → 8 ≤ length x → size_in (x ++ y) ≡ size_in x
size_stays x y h =
    let at : (i : ℕ) → i < 8 → get_or (x ++ y) i 0 ≡ get_or x i 0 = λ i less. get_or_append_left x y 0 i (omega (arith, h, less)) in
    rw (at 3 (omega arith), at 4 (omega arith), at 5 (omega arith), at 6 (omega arith)) refl

-- the header with one byte more is right exactly where the byte fits
header_grows : (x : List ℕ) (b : ℕ) → length x < 8 → HasHeader x → FitsHeader (length x) (size_in (x ++ b ∷ [])) b → HasHeader (x ++ b ∷ [])
header_grows [] z h header fits = record { start = fits.0; size = fits.1; token = refl }
header_grows (a ∷ []) z h header fits = record { start = header.start; size = fits.1; token = refl }
header_grows (a ∷ b ∷ []) z h header fits = record { start = header.start; size = fits.1; token = refl }
header_grows (a ∷ b ∷ c ∷ []) z h header fits = record { start = header.start; size = fits.1; token = refl }
header_grows (a ∷ b ∷ c ∷ d ∷ []) z h header fits = record { start = header.start; size = fits.1; token = refl }
header_grows (a ∷ b ∷ c ∷ d ∷ e ∷ []) z h header fits = record { start = header.start; size = fits.1; token = refl }
header_grows (a ∷ b ∷ c ∷ d ∷ e ∷ f ∷ []) z h header fits = record { start = header.start; size = fits.1; token = refl }
header_grows (a ∷ b ∷ c ∷ d ∷ e ∷ f ∷ g ∷ []) z h header fits = record { start = header.start; size = fits.1; token = fits.0 }
header_grows (a ∷ b ∷ c ∷ d ∷ e ∷ f ∷ g ∷ i ∷ x) z h header fits = absurd (omega (arith, h))

header_fits : (x : List ℕ) (b : ℕ) → length x < 8 → HasHeader (x ++ b ∷ []) → FitsHeader (length x) (size_in (x ++ b ∷ [])) b
header_fits [] z h header = (header.start, header.size)
header_fits (a ∷ []) z h header = (refl, header.size)
header_fits (a ∷ b ∷ []) z h header = (refl, header.size)
header_fits (a ∷ b ∷ c ∷ []) z h header = (refl, header.size)
header_fits (a ∷ b ∷ c ∷ d ∷ []) z h header = (refl, header.size)
header_fits (a ∷ b ∷ c ∷ d ∷ e ∷ []) z h header = (refl, header.size)
header_fits (a ∷ b ∷ c ∷ d ∷ e ∷ f ∷ []) z h header = (refl, header.size)
header_fits (a ∷ b ∷ c ∷ d ∷ e ∷ f ∷ g ∷ []) z h header = (header.token, header.size)
header_fits (a ∷ b ∷ c ∷ d ∷ e ∷ f ∷ g ∷ i ∷ x) z h header = absurd (omega (arith, h))

-- behind the header it stays right
header_stays : (x y : List ℕ) → 8 ≤ length x → HasHeader x → HasHeader (x ++ y)
header_stays x y h header = record {
  start = get_or_append_left x y 0x1B 0 (omega (arith, h)) ∙ header.start;
  size = omega (arith, size_stays x y h, header.size);
  token = get_or_append_left x y 0x0E 7 (omega (arith, h)) ∙ header.token;
}

check_more : (x : List ℕ) (b : ℕ) → check (x ++ b ∷ []) ≡ checked (check x) b
unfolding check
check_more x b = fold-append checked 0xFFFF x (b ∷ [])

-- the check with one byte more, where it is taken over all bytes
register_grows : (x : List ℕ) (b most more : ℕ) → length x ≤ most → length x < more
    → check (take more (x ++ b ∷ [])) ≡ checked (check (take most x)) b
register_grows x b most more h k =
    ap (λ (t : List ℕ). check t) (take_all more (x ++ b ∷ []) (omega (arith, k, length-append x (b ∷ []))))
    ∙ check_more x b ∙ ap (λ (t : List ℕ). checked (check t) b) (sym (take_all most x h))

IsBytes-grow : (x : List ℕ) (b : ℕ) → IsPartial x → b < 256 → IsBytes (x ++ b ∷ [])
IsBytes-grow x b p h = IsBytes-append x (b ∷ []) (IsPartial-bytes x p) (IsBytes-cons b [] h IsBytes-nil)

answer_in_header : (x : List ℕ) (b : ℕ) (answer : Scanned) → IsPartial x → b < 256 → length x < 8
    → TellsHeader (length x) (size_in (x ++ b ∷ [])) b answer → IsScanned (x ++ b ∷ []) answer
answer_in_header x b More p h less tells =
    partial_before_check (x ++ b ∷ []) (IsBytes-grow x b p h) (header_grows x b less (partial_header x p) tells)
    (omega (arith, less, length-append x (b ∷ [])))
answer_in_header x b Whole p h less tells = absurd tells
answer_in_header x b Junk p h less tells = junk_without_header (x ++ b ∷ []) (λ header. tells (header_fits x b less header))

-- a byte of the header
pub after_header : (x : List ℕ) (scan : Kept) (b grown next : ℕ) (answer : Scanned) → Stands scan x → IsPartial x → b < 256 → scan.seen < 8
    → grown ≡ size_more scan.seen scan.size b → next ≡ checked scan.register b → TellsHeader scan.seen grown b answer
    → ((let kept : Kept = record { seen = scan.seen + 1; size = grown; register = next } in kept) ≡ scan_of (x ++ b ∷ [])) × IsScanned (x ++ b ∷ []) answer
after_header x scan b grown next answer s p h less g n tells =
    let short : length x < 8 = omega (arith, s.seen, less) in
    let size : grown ≡ size_in (x ++ b ∷ []) =
    g ∙ ap (λ (k : ℕ). size_more k scan.size b) s.seen ∙ ap (λ (k : ℕ). size_more (length x) k b) s.size ∙ sym (size_grows x b short) in
    let P : ℕ → ℕ → Type 0 = λ place k. TellsHeader place k b answer in
    let told : TellsHeader (length x) (size_in (x ++ b ∷ [])) b answer =
    subst (λ (k : ℕ). P (length x) k) size (subst (λ (k : ℕ). P k grown) s.seen tells) in (
      scan_stands _ (x ++ b ∷ []) (record {
        seen = omega (arith, s.seen, length-append x (b ∷ []));
        size = size;
        register = n ∙ ap (λ (k : ℕ). checked k b) s.register
            ∙ sym (register_grows x b (8 + size_in x) (8 + size_in (x ++ b ∷ [])) (omega (arith, short)) (omega (arith, short)));
      }),
      answer_in_header x b answer p h short told,
    )

-- a byte of the body
pub after_body : (x : List ℕ) (scan : Kept) (b next : ℕ) → Stands scan x → IsPartial x → b < 256 → 8 ≤ scan.seen → scan.seen < 8 + scan.size
    → next ≡ checked scan.register b
    → ((let kept : Kept = record { seen = scan.seen + 1; size = scan.size; register = next } in kept) ≡ scan_of (x ++ b ∷ [])) × IsPartial (x ++ b ∷ [])
after_body x scan b next s p h least less n =
    let long : 8 ≤ length x = omega (arith, s.seen, least) in
    let within : length x < 8 + size_in x = omega (arith, s.seen, s.size, less) in
    let size : size_in (x ++ b ∷ []) ≡ size_in x = size_stays x (b ∷ []) long in (
      scan_stands _ (x ++ b ∷ []) (record {
        seen = omega (arith, s.seen, length-append x (b ∷ []));
        size = s.size ∙ sym size;
        register = n ∙ ap (λ (k : ℕ). checked k b) s.register
            ∙ sym (register_grows x b (8 + size_in x) (8 + size_in (x ++ b ∷ [])) (omega (arith, within)) (omega (arith, within, size)));
      }),
      partial_before_check (x ++ b ∷ []) (IsBytes-grow x b p h) (header_stays x (b ∷ []) long (partial_header x p))
          (omega (arith, within, size, length-append x (b ∷ []))),
    )

-- one byte more, behind the body
record Behind (x : List ℕ) (b : ℕ) : Type 0 where
  body : HasBody (x ++ b ∷ [])
  size : size_in (x ++ b ∷ []) ≡ size_in x
  register : shown_check (x ++ b ∷ []) ≡ shown_check x
  partial : IsPartial x

behind : (x : List ℕ) (b : ℕ) → IsPartial x → b < 256 → 8 + size_in x ≤ length x → Behind x b
behind x b p h enough =
    let long : 8 ≤ length x = omega (arith, enough) in
    let size : size_in (x ++ b ∷ []) ≡ size_in x = size_stays x (b ∷ []) long in
    record {
      body = record {
        bytes = IsBytes-grow x b p h;
        header = header_stays x (b ∷ []) long (partial_header x p);
        enough = omega (arith, enough, size, length-append x (b ∷ []));
      };
      size = size;
      register = ap (λ (k : ℕ). check (take (8 + k) (x ++ b ∷ []))) size
          ∙ ap (λ (t : List ℕ). check t) (take-append-le (8 + size_in x) x (b ∷ []) enough);
      partial = p;
    }

read_last : (x : List ℕ) (b place wanted : ℕ) → place ≡ length x → get_or (x ++ b ∷ []) place wanted ≡ b
read_last x b place wanted e = ap (λ (k : ℕ). get_or (x ++ b ∷ []) k wanted) e ∙ get_or-append_seam x b [] wanted

answer_first : (x : List ℕ) (b : ℕ) (answer : Scanned) → Behind x b → length x ≡ 8 + size_in x
    → TellsCheck (shown_check (x ++ b ∷ [])) true b answer → IsScanned (x ++ b ∷ []) answer
answer_first x b More t e tells =
    let at_low : 8 + shown_size (x ++ b ∷ []) ≡ length x = omega (arith, e, t.size) in
    partial_by_check (x ++ b ∷ []) (record {
      body = t.body;
      low = read_last x b _ _ at_low ∙ tells;
      high = get_or_past (x ++ b ∷ []) _ _ (omega (arith, at_low, length-append x (b ∷ [])));
    }) (omega (arith, at_low, length-append x (b ∷ [])))
answer_first x b Whole t e tells = absurd tells
answer_first x b Junk t e tells =
    junk_by_check (x ++ b ∷ []) t.body (λ low high. tells (sym (read_last x b _ _ (omega (arith, e, t.size))) ∙ low))

answer_second : (x : List ℕ) (b : ℕ) (answer : Scanned) → Behind x b → length x ≡ 9 + size_in x
    → TellsCheck (shown_check (x ++ b ∷ [])) false b answer → IsScanned (x ++ b ∷ []) answer
answer_second x b More t e tells = absurd tells
answer_second x b Whole t e tells =
    let y : List ℕ = x ++ b ∷ [] in
    let right : HasCheck x = partial_check x t.partial (partial_body x t.partial (omega (arith, e))) in
    let P : ℕ → ℕ → Type 0 = λ k r. get_or x (8 + k) (byte_at 0 r) ≡ byte_at 0 r in
    let low : get_or x (8 + shown_size y) (byte_at 0 (shown_check y)) ≡ byte_at 0 (shown_check y) =
    subst₂ P (sym t.size) (sym t.register) right.low in
    let at_low : 8 + shown_size y < length x = omega (arith, e, t.size) in
    let whole : HasCheck y = record {
      body = t.body;
      low = get_or_append_left x (b ∷ []) (byte_at 0 (shown_check y)) (8 + shown_size y) at_low ∙ low;
      high = read_last x b _ _ (omega (arith, e, t.size)) ∙ tells;
    } in
    let size : length y ≡ 10 + shown_size y = omega (arith, e, t.size, length-append x (b ∷ [])) in
    let begins = whole_by_check y (length y) whole size (omega arith) in (
      shown_frame y,
      begins.valid,
      begins.split ∙ ap (λ (s : List ℕ). bytes_of (shown_frame y) ++ s) (drop_all (length y) y (omega arith))
          ∙ append-nil (bytes_of (shown_frame y)),
    )
answer_second x b Junk t e tells =
    junk_by_check (x ++ b ∷ []) t.body (λ low high. tells (sym (read_last x b _ _ (omega (arith, e, t.size))) ∙ high))

answer_in_check : (x : List ℕ) (b : ℕ) (first : Bool) (answer : Scanned) → Behind x b → 8 + size_in x ≤ length x
    → first ≡ (length x == 8 + size_in x) → TellsCheck (shown_check x) first b answer → IsScanned (x ++ b ∷ []) answer
answer_in_check x b true answer t enough e tells =
    let P : ℕ → Type 0 = λ r. TellsCheck r true b answer in
    answer_first x b answer t (eqb-true _ _ (sym e)) (subst P (sym t.register) tells)
answer_in_check x b false answer t enough e tells =
    let P : ℕ → Type 0 = λ r. TellsCheck r false b answer in
    let short = partial_short x t.partial in
    answer_second x b answer t (omega (arith, enough, short, eqb-false _ _ (sym e))) (subst P (sym t.register) tells)

-- a byte of the check
pub after_check : (x : List ℕ) (scan : Kept) (b : ℕ) (first : Bool) (answer : Scanned) → Stands scan x → IsPartial x → b < 256 → 8 + scan.size ≤ scan.seen
    → first ≡ (scan.seen == 8 + scan.size) → TellsCheck scan.register first b answer
    → ((let kept : Kept = record { seen = scan.seen + 1; size = scan.size; register = scan.register } in kept) ≡ scan_of (x ++ b ∷ []))
    × IsScanned (x ++ b ∷ []) answer
after_check x scan b first answer s p h enough e tells =
    let t = behind x b p h (omega (arith, s.seen, s.size, enough)) in
    let P : ℕ → Type 0 = λ r. TellsCheck r first b answer in (
      scan_stands _ (x ++ b ∷ []) (record {
        seen = omega (arith, s.seen, length-append x (b ∷ []));
        size = s.size ∙ sym t.size;
        register = s.register ∙ sym t.register;
      }),
      answer_in_check x b first answer t (omega (arith, s.seen, s.size, enough))
          (e ∙ ap₂ (λ (k m : ℕ). k == 8 + m) s.seen s.size) (subst P s.register tells),
    )

-- more bytes before the check, of which the number and the check are known
pub after_skip : (x y : List ℕ) (scan : Kept) (seen register : ℕ) → Stands scan x → IsPartial x → 8 ≤ length x → IsBytes y
    → seen ≡ length (x ++ y) → seen ≤ 8 + scan.size → register ≡ check (x ++ y)
    → ((let kept : Kept = record { seen = seen; size = scan.size; register = register } in kept) ≡ scan_of (x ++ y)) × IsPartial (x ++ y)
after_skip x y scan seen register s p least bytes e most r =
    let size : size_in (x ++ y) ≡ size_in x = size_stays x y least in
    let within : length (x ++ y) ≤ 8 + size_in (x ++ y) = omega (arith, e, most, s.size, size) in (
      scan_stands _ (x ++ y) (record {
        seen = e;
        size = s.size ∙ sym size;
        register = r ∙ ap (λ (t : List ℕ). check t) (sym (take_all (8 + size_in (x ++ y)) (x ++ y) within));
      }),
      partial_before_check (x ++ y) (IsBytes-append x y (IsPartial-bytes x p) bytes) (header_stays x y least (partial_header x p)) within,
    )
