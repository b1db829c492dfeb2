-- What follows where a body belongs to a response.
use Rattle.std.proofs.Common.{◌≡◌, ◌≢◌, ℕ, ◌+◌, ◌-◌, ◌<◌, ◌≤◌, ◌^◌, List, [], ◌∷◌, ◌++◌, length, take, drop, slice_index, refl, sym, ap, subst, ◌∙◌, inl, inr, arith, lit<, append_assoc, length-append}
use Rattle.std.specs.Int.{w32, from_le_bytes}
use Rattle.std.specs.List.{Contains, HoldsAt}
use Rattle.std.proofs.Math.ListN.{get_or-append}
use Rattle.std.proofs.Math.Seq.{drop-append_seam}
use Rattle.std.proofs.lemmas.Bool.{cases_lt}
use Rattle.std.proofs.lemmas.Grind.{get_or_default_zero}
use Rattle.std.proofs.lemmas.List.{append_cancel_right, get_or-drop, get_or_past, length-take-le, take-append-drop}
use Rattle.line_spec.specs.declared.refusal.Refusal.{Refusal}
use Rattle.line_spec.specs.declared.refusal.Refusal.TheVariants.{Failed, IllegalParameter, IllegalMemoryType, IllegalMemoryRange, IllegalMcuState, IllegalValue, IllegalBreakpoint, IllegalCommand}
use Rattle.line_spec.specs.Frames.{IsBytes}
use Rattle.line_spec.specs.Messages.{Response, okay, parameter, memory, program_counter, refused, signed_on, memory_limit, refusal_code, response_codes, response_body, HasCode, IsResponseBody, IsNoResponse}
use Rattle.line_spec.proofs.Bodies.{response_of, response_belongs_back}
use Rattle.ice_msg.proofs.Numbers.{four_at, four_written, four_bytes_of}

pub refusal_has_code : (refusal : Refusal) → Contains response_codes (refusal_code refusal)
refusal_has_code Failed = (5, lit< tt, refl)
refusal_has_code IllegalParameter = (6, lit< tt, refl)
refusal_has_code IllegalMemoryType = (7, lit< tt, refl)
refusal_has_code IllegalMemoryRange = (8, lit< tt, refl)
refusal_has_code IllegalMcuState = (9, lit< tt, refl)
refusal_has_code IllegalValue = (10, lit< tt, refl)
refusal_has_code IllegalBreakpoint = (11, lit< tt, refl)
refusal_has_code IllegalCommand = (12, lit< tt, refl)

-- the code of a response is known
pub response_known : (response : Response) → HasCode response_codes (response_body response)
response_known okay = (0, lit< tt, refl)
response_known (parameter bytes) = (1, lit< tt, refl)
response_known (memory bytes) = (2, lit< tt, refl)
response_known (program_counter address) = (3, lit< tt, refl)
response_known (signed_on head name) = (4, lit< tt, refl)
response_known (refused refusal) = refusal_has_code refusal

pub response_has_code : (body : List ℕ) (response : Response) → IsResponseBody response body → HasCode response_codes body
response_has_code body response belongs = subst (HasCode response_codes) (sym belongs.1) (response_known response)

refusal_read : (refusal : Refusal) (rest : List ℕ) → response_of (refusal_code refusal ∷ rest) ≡ refused refusal
refusal_read Failed rest = refl
refusal_read IllegalParameter rest = refl
refusal_read IllegalMemoryType rest = refl
refusal_read IllegalMemoryRange rest = refl
refusal_read IllegalMcuState rest = refl
refusal_read IllegalValue rest = refl
refusal_read IllegalBreakpoint rest = refl
refusal_read IllegalCommand rest = refl

-- only the response that is read off a body can be its response
no_response : (body : List ℕ) → (IsResponseBody (response_of body) body → ⊥) → IsNoResponse body
no_response body differs response belongs = differs (response_belongs_back body response belongs)

-- nothing stands behind the code of OK
pub okay_alone : (rest : List ℕ) → 0 < length rest → IsNoResponse (0x80 ∷ rest)
okay_alone rest longer = no_response (0x80 ∷ rest) (λ own. omega (arith, ap length own.1))

-- a program counter has four bytes
pub pc_length : (rest : List ℕ) → length rest ≢ 4 → IsNoResponse (0x84 ∷ rest)
pc_length rest other = no_response (0x84 ∷ rest) (λ own. other (omega (arith, ap length own.1)))

pub pc_read : (rest : List ℕ) (address : ℕ) → IsBytes rest → length rest ≡ 4 → address < 2 ^ 32
    → address ≡ from_le_bytes w32 (four_at 0 rest) → IsResponseBody (program_counter address) (0x84 ∷ rest)
pc_read rest address bytes four fits made =
    (fits, ap (λ (xs : List ℕ). 0x84 ∷ xs) (four_bytes_of rest four ∙ sym (four_written 0 address rest bytes made)))

-- the bytes of a parameter fit a body
pub parameter_within : (rest : List ℕ) → 4105 < length rest → IsNoResponse (0x81 ∷ rest)
parameter_within rest more = no_response (0x81 ∷ rest) (λ own. omega (arith, more, own.0.1))

-- the bytes of a memory stay within the limit
pub memory_within : (rest : List ℕ) → memory_limit < length rest → IsNoResponse (0x82 ∷ rest)
memory_within rest longer = no_response (0x82 ∷ rest) (λ own. omega (arith, own.0.1))

-- nothing stands behind the code of a refusal
pub refusal_alone : (refusal : Refusal) (rest : List ℕ) → 0 < length rest → IsNoResponse (refusal_code refusal ∷ rest)
refusal_alone refusal rest longer =
    let body : List ℕ = refusal_code refusal ∷ rest in
    no_response body (λ own. let refused_body : IsResponseBody (refused refusal) body = subst (λ (r : Response). IsResponseBody r body) (refusal_read refusal rest) own in omega (arith, ap length refused_body.1))

-- what stands behind the code of a sign-on: 15 bytes, and a name with its zero
record IsSignOn (rest name : List ℕ) : Type 0 where
  long : 15 ≤ length rest
  behind : drop 15 rest ≡ name ++ 0x00 ∷ []
  within : length name ≤ 4089
  no_zero : (i : ℕ) → i < length name → slice_index name i ≢ 0

sign_on_parts : (rest : List ℕ) (response : Response) → IsResponseBody response (0x86 ∷ rest)
    → (name : List ℕ) × IsSignOn rest name
sign_on_parts rest response belongs =
    let head : List ℕ = take 15 rest in
    let behind : List ℕ = drop 15 rest in
    let name : List ℕ = take (length behind - 1) behind in
    let own : IsResponseBody (signed_on head name) (0x86 ∷ rest) = response_belongs_back (0x86 ∷ rest) response belongs in
    let split : rest ≡ (head ++ name) ++ 0x00 ∷ [] = cc (own.1) in
    let fifteen : length head ≡ 15 = own.0.2 in (
      name,
      record {
        long = omega (arith, ap length split, length-append (head ++ name) (0x00 ∷ []), length-append head name);
        behind =
            ap (drop 15) (split ∙ append_assoc head name (0x00 ∷ []))
            ∙ ap (λ (n : ℕ). drop n (head ++ (name ++ 0x00 ∷ []))) (sym fifteen)
            ∙ drop-append_seam head (name ++ 0x00 ∷ []);
        within = own.0.3;
        no_zero = own.0.4;
      },
    )

-- the name is what is left without the zero
name_of_parts : (rest name : List ℕ) (response : Response) → drop 15 rest ≡ name ++ 0x00 ∷ []
    → IsResponseBody response (0x86 ∷ rest) → IsSignOn rest name
name_of_parts rest name response ended belongs =
    let parts : (own : List ℕ) × IsSignOn rest own = sign_on_parts rest response belongs in
    let same : parts.0 ≡ name = append_cancel_right parts.0 name (0x00 ∷ []) (sym parts.1.behind ∙ ended) in
    subst (λ (own : List ℕ). IsSignOn rest own) same parts.1

-- what is behind the code is too short for a sign-on
pub sign_on_short : (rest : List ℕ) → length rest < 15 → IsNoResponse (0x86 ∷ rest)
sign_on_short rest short response belongs = omega (arith, (sign_on_parts rest response belongs).1.long)

-- no zero ends it
pub sign_on_unended : (rest : List ℕ) → ((name : List ℕ) → drop 15 rest ≢ name ++ 0x00 ∷ []) → IsNoResponse (0x86 ∷ rest)
sign_on_unended rest unended response belongs =
    let parts : (name : List ℕ) × IsSignOn rest name = sign_on_parts rest response belongs in
    unended parts.0 parts.1.behind

-- the name is too long
pub sign_on_long : (rest name : List ℕ) → drop 15 rest ≡ name ++ 0x00 ∷ [] → 4089 < length name
    → IsNoResponse (0x86 ∷ rest)
sign_on_long rest name ended long response belongs =
    omega (arith, (name_of_parts rest name response ended belongs).within)

-- the name has a zero
pub sign_on_zero : (rest name : List ℕ) → drop 15 rest ≡ name ++ 0x00 ∷ []
    → (k : ℕ) × (k < length name) × HoldsAt (λ x. x ≡ 0) name k → IsNoResponse (0x86 ∷ rest)
sign_on_zero rest name ended zero response belongs =
    (name_of_parts rest name response ended belongs).no_zero zero.0 zero.1 (zero.2 0)

bytes_front : (xs ys : List ℕ) → IsBytes (xs ++ ys) → IsBytes xs
bytes_front xs ys bytes i =
    elim (cases_lt i (length xs)) [
      | inl below ↦ rw (← get_or-append xs ys 0 i below) (bytes i)
      | inr past ↦ rw (get_or_past xs i 0 past) (lit< tt)
    ]

-- the parts make a sign-on
pub sign_on_read : (rest name : List ℕ) → IsBytes rest → 15 ≤ length rest → drop 15 rest ≡ name ++ 0x00 ∷ []
    → length name ≤ 4089 → ((k : ℕ) × (k < length name) × HoldsAt (λ x. x ≡ 0) name k → ⊥)
    → IsResponseBody (signed_on (take 15 rest) name) (0x86 ∷ rest)
sign_on_read rest name bytes long ended within no_zero =
    let whole : take 15 rest ++ drop 15 rest ≡ rest = take-append-drop 15 rest in
    let behind_bytes : IsBytes (drop 15 rest) = λ i. rw (get_or-drop 15 rest i 0) (bytes (15 + i)) in (
      (
        bytes_front (take 15 rest) (drop 15 rest) (subst (λ (xs : List ℕ). IsBytes xs) (sym whole) bytes),
        bytes_front name (0x00 ∷ []) (subst (λ (xs : List ℕ). IsBytes xs) ended behind_bytes),
        length-take-le 15 rest long,
        within,
        λ i below zero. no_zero (i, below, λ d. get_or_default_zero name i d below ∙ zero),
      ),
      ap (λ (xs : List ℕ). 0x86 ∷ xs)
          (sym whole ∙ ap (λ (xs : List ℕ). take 15 rest ++ xs) ended ∙ sym (append_assoc (take 15 rest) name (0x00 ∷ []))),
    )
