-- Texts of lines, and what they are not.
use Rattle.std.proofs.Common.{◌≡◌, Option, Some, None, ℕ, zero, suc, ◌+◌, ◌-◌, ◌*◌, ◌/◌, ◌<◌, ◌≤◌, ◌&&◌, not, min, Bool, true, false, nat_le, List, [], ◌∷◌, ◌++◌, length, drop, get_or, codes, Result, Ok, Err, refl, sym, ap, ◌∙◌, subst, arith}
use Rattle.std.specs.Prelude.{MatchResult, MatchOption}
use Rattle.std.specs.List.{list_all}
use Rattle.std.specs.Str.{bytes_eq}
use Rattle.std.proofs.lemmas.List.{append_cancel_left}
use Rattle.std.proofs.lemmas.Bool.{le-leb, leb-true}
use Rattle.std.proofs.lemmas.Slice.Eq.{bytes_eq-Decides}
use Rattle.hex.specs.Hex.{encode_lower, decode_sized, lower_digits}
use Rattle.hex.specs.declared.error.FromHexError.{FromHexError}
use Rattle.hex.proofs.HexLemmas.{length-encode_with, decode_sized-encode_lower}
use Rattle.line_spec.specs.Frames.{IsBytes}
use Rattle.debug_spec.specs.Stop.{Cause, breakpoint, forced, by_step, by_reset, own_break, undefined, failed_write, cause_code}
use Rattle.record_spec.specs.declared.limits.TheConstants.{LINE_LIMIT}
use Rattle.record_spec.specs.Lines.{Line, event, out, comes, waits, line_ends, halts, IsText, digits_of, cause_digits, IsDecimal, is_digit, number_on, leads}
use Rattle.ice_verify.specs.Told.{IsTold, IsRead}
use Rattle.ice_verify.specs.declared.lines.Told.{Told}

-- two lists that are one begin alike
heads : (a b : ℕ) {xs ys : List ℕ} → a ∷ xs ≡ b ∷ ys → a ≡ b
heads a b e = ap (λ (t : List ℕ). get_or t 0 0) e

-- what stands behind `in` is neither `-` nor bytes
pub in_none : (text : List ℕ) → (text ≡ codes "-" → ⊥) →
    ((bytes : List ℕ) → 0 < length bytes → length bytes ≤ 512 → IsBytes bytes → text ≡ encode_lower bytes → ⊥) →
    (line : Line) → IsText (codes "in " ++ text) line → ⊥
in_none text dash none (event (comes [])) h = absurd (omega (arith, h.0))
in_none text dash none (event (comes (byte ∷ bytes))) h =
    none (byte ∷ bytes) h.0 h.1 h.2 (append_cancel_left (codes "in ") text (encode_lower (byte ∷ bytes)) h.3)
in_none text dash none (event waits) h = dash (append_cancel_left (codes "in ") text (codes "-") h)
in_none text dash none (event line_ends) h = absurd (omega (arith, heads 105 101 h))
in_none text dash none (event (halts end)) h = absurd (omega (arith, heads 105 104 h.2))
in_none text dash none (out bytes) h = absurd (omega (arith, heads 105 111 h.1))

-- and so behind `out`
pub out_none : (text : List ℕ) → (text ≡ codes "-" → ⊥) →
    ((bytes : List ℕ) → 0 < length bytes → IsBytes bytes → text ≡ encode_lower bytes → ⊥) →
    (line : Line) → IsText (codes "out " ++ text) line → ⊥
out_none text dash none (out []) h = dash (append_cancel_left (codes "out ") text (codes "-") h.1)
out_none text dash none (out (byte ∷ bytes)) h =
    none (byte ∷ bytes) (omega arith) h.0 (append_cancel_left (codes "out ") text (encode_lower (byte ∷ bytes)) h.1)
out_none text dash none (event (comes bytes)) h = absurd (omega (arith, heads 111 105 h.3))
out_none text dash none (event waits) h = absurd (omega (arith, heads 111 105 h))
out_none text dash none (event line_ends) h = absurd (omega (arith, heads 111 101 h))
out_none text dash none (event (halts end)) h = absurd (omega (arith, heads 111 104 h.2))

-- digits that are decoded, and those that are not
sized : (digits bytes : List ℕ) (n : ℕ) → n ≡ length digits / 2 → digits ≡ encode_lower bytes → length bytes ≡ n
sized digits bytes n half e = omega (arith, half, ap length e, length-encode_with lower_digits bytes)

decodes : (digits bytes : List ℕ) (n : ℕ) → n ≡ length digits / 2 → IsBytes bytes → digits ≡ encode_lower bytes → decode_sized digits n ≡ Ok bytes
decodes digits bytes n half h e =
    ap (λ (t : List ℕ). decode_sized t n) e ∙ decode_sized-encode_lower bytes n (sized digits bytes n half e) h

pub decoded : (digits made bytes : List ℕ) (n : ℕ) (r : Result (Unit {0}) FromHexError) →
    MatchResult (decode_sized digits n) (λ bytes. (r ≡ Ok tt) × (made ≡ bytes)) (λ e. r ≡ Err e) → n ≡ length digits / 2 →
    IsBytes bytes → digits ≡ encode_lower bytes → made ≡ bytes
decoded digits made bytes n r h half b e =
    (subst (λ (d : Result (List ℕ) FromHexError). MatchResult d (λ bytes. (r ≡ Ok tt) × (made ≡ bytes)) (λ e. r ≡ Err e))
    (decodes digits bytes n half b e) h).1

no_both : (r : Result (Unit {0}) FromHexError) (f : FromHexError) → r ≡ Err f → r ≡ Ok tt → ⊥
no_both (Ok u) f a b = cc
no_both (Err e) f a b = cc

pub undecoded : (digits made bytes : List ℕ) (n : ℕ) (f : FromHexError) (r : Result (Unit {0}) FromHexError) → r ≡ Err f →
    MatchResult (decode_sized digits n) (λ bytes. (r ≡ Ok tt) × (made ≡ bytes)) (λ e. r ≡ Err e) → n ≡ length digits / 2 →
    IsBytes bytes → digits ≡ encode_lower bytes → ⊥
undecoded digits made bytes n f r is h half b e = no_both r f is
    (subst (λ (d : Result (List ℕ) FromHexError). MatchResult d (λ bytes. (r ≡ Ok tt) × (made ≡ bytes)) (λ e. r ≡ Err e))
    (decodes digits bytes n half b e) h).0

-- digits, and one more
pub number_more : (number : ℕ) (digits : List ℕ) (digit : ℕ) →
    number_on number (digits ++ digit ∷ []) ≡ 10 * number_on number digits + (digit - 48)
number_more number [] digit = refl
number_more number (first ∷ digits) digit = number_more (10 * number + (first - 48)) digits digit

-- steps are counted digit by digit
pub counted_more : (now so_far digit next : ℕ) → now ≡ min so_far 100000001 → next ≡ min (10 * now + (digit - 48)) 100000001 →
    next ≡ min (10 * so_far + (digit - 48)) 100000001
counted_more now so_far digit next h k = omega (arith, h, k)

-- a text that is compared with `-`, and is another
pub not_dash : (text dash : List ℕ) (b : Bool) → dash ≡ codes "-" → b ≡ bytes_eq dash text → b ≡ false → text ≡ codes "-" → ⊥
not_dash text dash b is eq none e = apart (sym none ∙ eq ∙ ap (λ (d : List ℕ). bytes_eq d text) is ∙ ap (bytes_eq (codes "-")) e)
  where
    apart : false ≡ bytes_eq (codes "-") (codes "-") → ⊥
    apart k = cc

-- the front of what stands behind `halt`
pub halt_front : (text : List ℕ) (digit : ℕ) → 3 ≤ length text → get_or text 0 0 ≡ 48 → get_or text 1 0 ≡ digit → get_or text 2 0 ≡ 32 →
    text ≡ 48 ∷ digit ∷ 32 ∷ drop 3 text
halt_front [] digit long a b d = absurd (omega (arith, long))
halt_front (x ∷ []) digit long a b d = absurd (omega (arith, long))
halt_front (x ∷ y ∷ []) digit long a b d = absurd (omega (arith, long))
halt_front (x ∷ y ∷ z ∷ text) digit long a b d =
    ap (λ (n : ℕ). n ∷ y ∷ z ∷ text) a ∙ ap (λ (n : ℕ). 48 ∷ n ∷ z ∷ text) b ∙ ap (λ (n : ℕ). 48 ∷ digit ∷ n ∷ text) d

-- digits that are tested one by one
pub tested_more : (digits : List ℕ) (digit : ℕ) → list_all is_digit digits ≡ true → 48 ≤ digit → digit ≤ 57 →
    list_all is_digit (digits ++ digit ∷ []) ≡ true
tested_more [] digit h low high = both (nat_le 48 digit) (nat_le digit 57) (le-leb 48 digit low) (le-leb digit 57 high)
  where
    both : (a b : Bool) → a ≡ true → b ≡ true → ((a && b) && true) ≡ true
    both a b x y = cc
tested_more (first ∷ digits) digit h low high =
    both (is_digit first) (list_all is_digit digits) (list_all is_digit (digits ++ digit ∷ [])) h (λ k. tested_more digits digit k low high)
  where
    both : (a b c : Bool) → (a && b) ≡ true → (b ≡ true → c ≡ true) → (a && c) ≡ true
    both true b c x y = y x
    both false b c x y = cc

-- a text that is compared with another, and is that
pub is_text : (text other word : List ℕ) (b : Bool) → other ≡ word → b ≡ bytes_eq other text → b ≡ true → text ≡ word
is_text text other word b is eq same = sym ((bytes_eq-Decides other text).0 (sym eq ∙ same)) ∙ is

pub is_no_text : (text other word : List ℕ) (b : Bool) → other ≡ word → b ≡ bytes_eq other text → b ≡ false → text ≡ word → ⊥
is_no_text text other word b is eq differs e = apart (sym differs ∙ eq ∙ (bytes_eq-Decides other text).1 (is ∙ sym e))
  where
    apart : false ≡ true → ⊥
    apart h = cc

-- what is read of a text behind its word is read of the whole
pub read_whole : (text whole_ : List ℕ) (r : Option Told) → length text ≤ LINE_LIMIT → text ≡ whole_ → IsRead whole_ r →
    MatchOption r ((line : Line) → IsText text line → length text ≤ LINE_LIMIT → ⊥) (λ told. (length text ≤ LINE_LIMIT) × IsTold text told)
read_whole text whole_ None few e h = λ line is short. h line (subst (λ (t : List ℕ). IsText t line) e is)
read_whole text whole_ (Some told) few e h = (few, subst (λ (t : List ℕ). IsTold t told) (sym e) h)

-- a text with none of the words
pub no_line : (text : List ℕ) → ((rest : List ℕ) → text ≡ codes "in " ++ rest → ⊥) → ((rest : List ℕ) → text ≡ codes "out " ++ rest → ⊥) →
    ((rest : List ℕ) → text ≡ codes "halt " ++ rest → ⊥) → (text ≡ codes "end" → ⊥) → (line : Line) → IsText text line → ⊥
no_line text ins outs halts_ ends (event (comes bytes)) h = ins (digits_of bytes) h.3
no_line text ins outs halts_ ends (event waits) h = ins (digits_of []) h
no_line text ins outs halts_ ends (event line_ends) h = ends h
no_line text ins outs halts_ ends (event (halts end)) h = halts_ (cause_digits end.cause ++ codes " " ++ h.0) h.2
no_line text ins outs halts_ ends (out bytes) h = outs (digits_of bytes) h.1

-- bytes in digits, where there are some
pub digits_are : (bytes : List ℕ) → 0 < length bytes → encode_lower bytes ≡ digits_of bytes
digits_are [] some = absurd (omega (arith, some))
digits_are (byte ∷ bytes) some = refl

-- what stands behind `halt` is no cause with its steps
pub halt_none : (text : List ℕ) → ((why : Cause) (n : ℕ) → 3 ≤ length text → get_or text 0 0 ≡ 48 → get_or text 1 0 ≡ 48 + cause_code why →
    get_or text 2 0 ≡ 32 → IsDecimal (drop 3 text) n → ⊥) → (line : Line) → IsText (codes "halt " ++ text) line → ⊥
halt_none text none (event (halts end)) h =
    let e : text ≡ cause_digits end.cause ++ codes " " ++ h.0 =
    append_cancel_left (codes "halt ") text (cause_digits end.cause ++ codes " " ++ h.0) h.2 in
    none end.cause end.steps (omega (arith, ap length e)) (ap (λ (t : List ℕ). get_or t 0 0) e) (ap (λ (t : List ℕ). get_or t 1 0) e)
    (ap (λ (t : List ℕ). get_or t 2 0) e) (subst (λ (t : List ℕ). IsDecimal t end.steps) (sym (ap (λ (t : List ℕ). drop 3 t) e)) h.1)
halt_none text none (event (comes bytes)) h = absurd (omega (arith, heads 104 105 h.3))
halt_none text none (event waits) h = absurd (omega (arith, heads 104 105 h))
halt_none text none (event line_ends) h = absurd (omega (arith, heads 104 101 h))
halt_none text none (out bytes) h = absurd (omega (arith, heads 104 111 h.1))

-- a digit of no cause
pub no_cause : (digit : ℕ) → (digit ≡ 49 → ⊥) → (digit ≡ 50 → ⊥) → (digit ≡ 51 → ⊥) → (digit ≡ 52 → ⊥) → (digit ≡ 53 → ⊥) → (digit ≡ 54 → ⊥) →
    (digit ≡ 55 → ⊥) → (why : Cause) → digit ≡ 48 + cause_code why → ⊥
no_cause digit a b c d e f g breakpoint h = a h
no_cause digit a b c d e f g forced h = b h
no_cause digit a b c d e f g by_step h = c h
no_cause digit a b c d e f g by_reset h = d h
no_cause digit a b c d e f g own_break h = e h
no_cause digit a b c d e f g undefined h = f h
no_cause digit a b c d e f g failed_write h = g h

-- the digits that lead a number
pub leads_none : (digits : List ℕ) → length digits ≡ 0 → leads digits ≡ false
leads_none [] none = refl
leads_none (digit ∷ digits) none = absurd (omega (arith, none))

pub leads_one : (digits : List ℕ) → length digits ≡ 1 → leads digits ≡ true
leads_one [] one = absurd (omega (arith, one))
leads_one (digit ∷ []) one = refl
leads_one (digit ∷ next ∷ digits) one = absurd (omega (arith, one))

pub leads_more : (digits : List ℕ) → 2 ≤ length digits → leads digits ≡ nat_le 49 (get_or digits 0 0)
leads_more [] more = absurd (omega (arith, more))
leads_more (digit ∷ []) more = absurd (omega (arith, more))
leads_more (digit ∷ next ∷ digits) more = refl

-- each digit is one
pub digit_at : (digits : List ℕ) (i : ℕ) → i < length digits → list_all is_digit digits ≡ true →
    (48 ≤ get_or digits i 0) × (get_or digits i 0 ≤ 57)
digit_at [] i less h = absurd (omega (arith, less))
digit_at (digit ∷ digits) zero less h =
    (leb-true 48 digit (first (nat_le 48 digit) (nat_le digit 57) (list_all is_digit digits) h), leb-true digit 57 (second (nat_le 48 digit) (nat_le digit 57) (list_all is_digit digits) h))
  where
    first : (a b c : Bool) → ((a && b) && c) ≡ true → a ≡ true
    first true b c x = refl
    first false b c x = cc

    second : (a b c : Bool) → ((a && b) && c) ≡ true → b ≡ true
    second true true c x = refl
    second true false c x = cc
    second false b c x = cc
digit_at (digit ∷ digits) (suc i) less h = digit_at digits i (omega (arith, less)) (rest (is_digit digit) (list_all is_digit digits) h)
  where
    rest : (a b : Bool) → (a && b) ≡ true → b ≡ true
    rest true b x = x
    rest false b x = cc

-- bytes that are compared by `!=`
pub is_slice : (slice items bytes : List ℕ) (b : Bool) → slice ≡ items → b ≡ not (bytes_eq slice bytes) → b ≡ false → items ≡ bytes
is_slice slice items bytes b is eq alike = sym is ∙ (bytes_eq-Decides slice bytes).0 (same (bytes_eq slice bytes) (sym eq ∙ alike))
  where
    same : (a : Bool) → not a ≡ false → a ≡ true
    same true h = refl
    same false h = cc

pub is_no_slice : (slice items bytes : List ℕ) (b : Bool) → slice ≡ items → b ≡ not (bytes_eq slice bytes) → b ≡ true → items ≡ bytes → ⊥
is_no_slice slice items bytes b is eq differs e = apart (sym differs ∙ eq ∙ ap not ((bytes_eq-Decides slice bytes).1 (is ∙ e)))
  where
    apart : true ≡ false → ⊥
    apart h = cc
