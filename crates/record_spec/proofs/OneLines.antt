-- A text is one line at most.
use Rattle.std.proofs.Common.{◌≡◌, ℕ, zero, suc, List, [], ◌∷◌, ◌++◌, length, drop, get_or, codes, Result, Ok, refl, sym, ap, ◌∙◌, arith}
use Rattle.std.proofs.lemmas.List.{append_cancel_left}
use Rattle.hex.specs.Hex.{encode_lower, decode_sized, lower_digits}
use Rattle.hex.specs.declared.error.FromHexError.{FromHexError}
use Rattle.hex.proofs.HexLemmas.{length-encode_with, decode_sized-encode_lower}
use Rattle.line_spec.specs.Frames.{IsBytes}
use Rattle.line_spec.proofs.Bytes.{IsBytes-nil}
use Rattle.debug_spec.specs.Stop.{Cause, breakpoint, forced, by_step, by_reset, own_break, undefined, failed_write, cause_code}
use Rattle.debug_spec.specs.Run.{End}
use Rattle.record_spec.specs.Lines.{Event, Line, event, out, comes, waits, line_ends, halts, IsText, digits_of, cause_digits, number_on}
use Rattle.record_spec.specs.RecordLaws.{OneLine}

-- bytes that are written alike are one
same_encoded : (xs ys : List ℕ) → IsBytes xs → IsBytes ys → encode_lower xs ≡ encode_lower ys → xs ≡ ys
same_encoded xs ys in_xs in_ys e =
    let many : length ys ≡ length xs = omega (arith, ap length e, length-encode_with lower_digits xs, length-encode_with lower_digits ys) in
    inside xs ys (decode_sized (encode_lower xs) (length xs)) (decode_sized (encode_lower ys) (length xs))
    (decode_sized-encode_lower xs (length xs) refl in_xs) (decode_sized-encode_lower ys (length xs) many in_ys)
    (ap (λ (t : List ℕ). decode_sized t (length xs)) e)
  where
    inside : (a b : List ℕ) (x y : Result (List ℕ) FromHexError) → x ≡ Ok a → y ≡ Ok b → x ≡ y → a ≡ b
    inside a b x y h k same = cc

pub same_digits : (xs ys : List ℕ) → IsBytes xs → IsBytes ys → digits_of xs ≡ digits_of ys → xs ≡ ys
same_digits [] [] in_xs in_ys e = refl
same_digits [] (y ∷ ys) in_xs in_ys e = absurd (omega (arith, ap length e, length-encode_with lower_digits (y ∷ ys)))
same_digits (x ∷ xs) [] in_xs in_ys e = absurd (omega (arith, ap length e, length-encode_with lower_digits (x ∷ xs)))
same_digits (x ∷ xs) (y ∷ ys) in_xs in_ys e = same_encoded (x ∷ xs) (y ∷ ys) in_xs in_ys e

-- the cause of a code
abbrev cause_at : ℕ → Cause
cause_at zero = breakpoint
cause_at (suc zero) = breakpoint
cause_at (suc (suc zero)) = forced
cause_at (suc (suc (suc zero))) = by_step
cause_at (suc (suc (suc (suc zero)))) = by_reset
cause_at (suc (suc (suc (suc (suc zero))))) = own_break
cause_at (suc (suc (suc (suc (suc (suc zero)))))) = undefined
cause_at (suc (suc (suc (suc (suc (suc (suc n))))))) = failed_write

cause_back : (cause : Cause) → cause_at (cause_code cause) ≡ cause
cause_back breakpoint = refl
cause_back forced = refl
cause_back by_step = refl
cause_back by_reset = refl
cause_back own_break = refl
cause_back undefined = refl
cause_back failed_write = refl

pub same_cause : (a b : Cause) → cause_code a ≡ cause_code b → a ≡ b
same_cause a b e = sym (cause_back a) ∙ ap cause_at e ∙ cause_back b

same_end : (a b : End) → a.steps ≡ b.steps → a.cause ≡ b.cause → a ≡ b
same_end a b steps cause =
    let by_steps : ℕ → End = λ n. record { steps = n; cause = a.cause } in
    let by_cause : Cause → End = λ c. record { steps = b.steps; cause = c } in
    ap by_steps steps ∙ ap by_cause cause

-- the first byte of a line
abbrev first_byte : Line → ℕ
first_byte (event (comes bytes)) = 105
first_byte (event waits) = 105
first_byte (event line_ends) = 101
first_byte (event (halts end)) = 104
first_byte (out bytes) = 111

begins : (text : List ℕ) (line : Line) → IsText text line → get_or text 0 0 ≡ first_byte line
begins text (event (comes bytes)) h = ap (λ (t : List ℕ). get_or t 0 0) h.3
begins text (event waits) h = ap (λ (t : List ℕ). get_or t 0 0) h
begins text (event line_ends) h = ap (λ (t : List ℕ). get_or t 0 0) h
begins text (event (halts end)) h = ap (λ (t : List ℕ). get_or t 0 0) h.2
begins text (out bytes) h = ap (λ (t : List ℕ). get_or t 0 0) h.1

not_out : (text : List ℕ) (what : Event) → IsText text (event what) → get_or text 0 0 ≡ 111 → ⊥
not_out text (comes bytes) h e = absurd (omega (arith, begins text (event (comes bytes)) h, e))
not_out text waits h e = absurd (omega (arith, begins text (event waits) h, e))
not_out text line_ends h e = absurd (omega (arith, begins text (event line_ends) h, e))
not_out text (halts end) h e = absurd (omega (arith, begins text (event (halts end)) h, e))

pub one_line : OneLine
one_line text (event (comes xs)) (event (comes ys)) h k =
    ap (λ (b : List ℕ). event (comes b))
    (same_digits xs ys h.2 k.2 (append_cancel_left (codes "in ") (digits_of xs) (digits_of ys) (sym h.3 ∙ k.3)))
one_line text (event (comes xs)) (event waits) h k =
    let none : xs ≡ [] = same_digits xs [] h.2 IsBytes-nil (append_cancel_left (codes "in ") (digits_of xs) (digits_of []) (sym h.3 ∙ k)) in
    absurd (omega (arith, ap length none, h.0))
one_line text (event waits) (event (comes ys)) h k =
    let none : ys ≡ [] = same_digits ys [] k.2 IsBytes-nil (append_cancel_left (codes "in ") (digits_of ys) (digits_of []) (sym k.3 ∙ h)) in
    absurd (omega (arith, ap length none, k.0))
one_line text (event waits) (event waits) h k = refl
one_line text (event line_ends) (event line_ends) h k = refl
one_line text (event (halts a)) (event (halts b)) h k =
    let e : cause_digits a.cause ++ codes " " ++ h.0 ≡ cause_digits b.cause ++ codes " " ++ k.0 =
    append_cancel_left (codes "halt ") (cause_digits a.cause ++ codes " " ++ h.0) (cause_digits b.cause ++ codes " " ++ k.0) (sym h.2 ∙ k.2) in
    let code : cause_code a.cause ≡ cause_code b.cause = omega (arith, ap (λ (t : List ℕ). get_or t 1 0) e) in
    let digits : h.0 ≡ k.0 = ap (λ (t : List ℕ). drop 3 t) e in
    ap (λ (end : End). event (halts end))
    (same_end a b (h.1.value ∙ ap (λ (d : List ℕ). number_on 0 d) digits ∙ sym k.1.value) (same_cause a.cause b.cause code))
one_line text (out xs) (out ys) h k =
    ap (λ (b : List ℕ). out b) (same_digits xs ys h.0 k.0 (append_cancel_left (codes "out ") (digits_of xs) (digits_of ys) (sym h.1 ∙ k.1)))
one_line text (out xs) (event what) h k = absurd (not_out text what k (ap (λ (t : List ℕ). get_or t 0 0) h.1))
one_line text (event what) (out ys) h k = absurd (not_out text what h (ap (λ (t : List ℕ). get_or t 0 0) k.1))
one_line text line other h k = absurd (omega (arith, begins text line h, begins text other k))
