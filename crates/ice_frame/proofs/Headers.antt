-- A header is right as far as the bytes reach, or they are junk; so with the check.
use Rattle.std.proofs.Common.{ℕ, ◌+◌, ◌<◌, ◌≤◌, ◌⊎◌, inl, inr, List, length, drop, get_or, refl, arith}
use Rattle.std.specs.Int.{byte_at}
use Rattle.std.proofs.lemmas.Bool.{cases_eq, cases_lt}
use Rattle.std.proofs.lemmas.List.{get_or_past}
use Rattle.line_spec.specs.Frames.{IsBytes, IsPartial, IsJunk, body_limit}
use Rattle.line_spec.proofs.Cuts.{IsPartial-bytes, no_junk_partial, no_partial_whole}
use Rattle.line_spec.proofs.Fronts.{HasHeader, HasBody, HasCheck, shown_size, shown_check, shown_frame, junk_by_start, junk_by_size, junk_by_token, junk_by_check, partial_by_length, partial_by_check, whole_by_check}

header_or_junk : (x : List ℕ) → HasHeader x ⊎ IsJunk x
header_or_junk x =
    elim (cases_eq (get_or x 0 0x1B) 0x1B) [
      | inr wrong ↦ inr (junk_by_start x wrong)
      | inl start ↦ elim (cases_lt body_limit (shown_size x)) [
        | inl large ↦ inr (junk_by_size x large)
        | inr size ↦ elim (cases_eq (get_or x 7 0x0E) 0x0E) [
          | inr wrong ↦ inr (junk_by_token x wrong)
          | inl token ↦ inl (record { start = start; size = size; token = token })
        ]
      ]
    ]

check_or_junk : (x : List ℕ) → HasBody x → HasCheck x ⊎ IsJunk x
check_or_junk x body =
    elim (cases_eq (get_or x (8 + shown_size x) (byte_at 0 (shown_check x))) (byte_at 0 (shown_check x))) [
      | inr wrong ↦ inr (junk_by_check x body (λ l r. wrong l))
      | inl low ↦ elim (cases_eq (get_or x (9 + shown_size x) (byte_at 1 (shown_check x))) (byte_at 1 (shown_check x))) [
        | inr wrong ↦ inr (junk_by_check x body (λ l r. wrong r))
        | inl high ↦ inl (record { body = body; low = low; high = high })
      ]
    ]

pub junk_without_header : (x : List ℕ) → (HasHeader x → ⊥) → IsJunk x
junk_without_header x wrong = elim (header_or_junk x) [ inl header ↦ absurd (wrong header) | inr junk ↦ junk ]

pub partial_header : (x : List ℕ) → IsPartial x → HasHeader x
partial_header x p = elim (header_or_junk x) [ inl header ↦ header | inr junk ↦ absurd (no_junk_partial x junk p) ]

pub partial_body : (x : List ℕ) → IsPartial x → 8 + shown_size x ≤ length x → HasBody x
partial_body x p enough = record { bytes = IsPartial-bytes x p; header = partial_header x p; enough = enough }

pub partial_check : (x : List ℕ) → IsPartial x → HasBody x → HasCheck x
partial_check x p body = elim (check_or_junk x body) [ inl right ↦ right | inr junk ↦ absurd (no_junk_partial x junk p) ]

-- less than a frame ends before the frame does
pub partial_short : (x : List ℕ) → IsPartial x → length x < 10 + shown_size x
partial_short x p =
    elim (cases_lt (length x) (10 + shown_size x)) [
      | inl short ↦ short
      | inr enough ↦ (let right = partial_check x p (partial_body x p (omega (arith, enough))) in
          absurd (no_partial_whole x (drop (10 + shown_size x) x) (shown_frame x) p (whole_by_check x (10 + shown_size x) right refl enough)))
    ]

-- where no byte of the check is there, it is right
check_to_come : (x : List ℕ) → HasBody x → length x ≤ 8 + shown_size x → HasCheck x
check_to_come x body short = record {
  body = body;
  low = get_or_past x (8 + shown_size x) (byte_at 0 (shown_check x)) short;
  high = get_or_past x (9 + shown_size x) (byte_at 1 (shown_check x)) (omega (arith, short));
}

-- a right header, and no byte of the check
pub partial_before_check : (x : List ℕ) → IsBytes x → HasHeader x → length x ≤ 8 + shown_size x → IsPartial x
partial_before_check x bytes header most =
    elim (cases_lt (length x) (8 + shown_size x)) [
      | inl short ↦ partial_by_length x bytes header short
      | inr enough ↦ (let body : HasBody x = record { bytes = bytes; header = header; enough = enough } in
          partial_by_check x (check_to_come x body most) (omega (arith, most)))
    ]
