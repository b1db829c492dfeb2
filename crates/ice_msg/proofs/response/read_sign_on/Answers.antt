use Rattle.std.proofs.Common.{◌≡◌, ◌≢◌, ℕ, ◌≤◌, true, false, List, [], ◌∷◌, ◌++◌, length, take, drop, Some, None, refl, sym, subst, ◌∙◌, lit<, arith, eqb}
use Rattle.std.specs.List.{Contains}
use Rattle.std.proofs.lemmas.Bool.{false≢true}
use Rattle.std.proofs.lemmas.Bool.Decides.{Decides-eqb}
use Rattle.std.proofs.lemmas.List.Elements.{contains_decides}
use Rattle.std.proofs.lemmas.Slice.Eq.{strip_suffix_is}
use Rattle.line_spec.specs.Frames.{IsBytes}
use Rattle.line_spec.specs.Messages.{signed_on, response_codes, IsResponseBody}
use Rattle.ice_msg.proofs.Replies.{sign_on_short, sign_on_unended, sign_on_long, sign_on_zero, sign_on_read}
use Rattle.ice_msg.proofs.response.read_sign_on.Goals as goal
use Rattle.ice_msg.proofs.response.read_sign_on.Goals.{then-name-gt-NAME_LIMIT-via-then-name-gt-NAME_LIMIT, then-name-gt-NAME_LIMIT-via-else-name-gt-NAME_LIMIT+then-contains}

known : Contains response_codes 0x86
known = (4, lit< tt, refl)

pub returns-in_default : goal.returns-in_default
returns-in_default c = (known, sign_on_short c.args.rest.now c.in_default.ensures.cases)

pub returns-in_default-strip_suffix : goal.returns-in_default-strip_suffix
returns-in_default-strip_suffix c =
    let behind : List ℕ = c.in-Some.behind.now in
    let same : behind ≡ drop 15 c.args.rest.now = c.in-Some.ensures.cases.1 in
    let unended : (name : List ℕ) → behind ≢ name ++ 0x00 ∷ [] =
    strip_suffix_is Decides-eqb behind (0x00 ∷ []) None c.in_default-strip_suffix.ensures.cases in
    (known, sign_on_unended c.args.rest.now (λ name ended. unended name (same ∙ ended)))

pub returns-then-name-gt-NAME_LIMIT : goal.returns-then-name-gt-NAME_LIMIT
returns-then-name-gt-NAME_LIMIT c =
    let rest : List ℕ = c.args.rest.now in
    let behind : List ℕ = c.in-Some.behind.now in
    let name : List ℕ = c.in-Some-strip_suffix.name.now in
    let same : behind ≡ drop 15 rest = c.in-Some.ensures.cases.1 in
    let ended : behind ≡ name ++ 0x00 ∷ [] =
    strip_suffix_is Decides-eqb behind (0x00 ∷ []) (Some c.in-Some-strip_suffix.name) c.in-Some-strip_suffix.ensures.cases in
    elim c.then-name-gt-NAME_LIMIT.branch [
      | then-name-gt-NAME_LIMIT-via-then-name-gt-NAME_LIMIT w ↦
          (known, sign_on_long rest name (sym same ∙ ended) w.if-name-gt-NAME_LIMIT.true)
      | then-name-gt-NAME_LIMIT-via-else-name-gt-NAME_LIMIT+then-contains w ↦ (
        known,
        sign_on_zero rest name (sym same ∙ ended)
            ((contains_decides eqb Decides-eqb name 0 true w.if-contains.ensures.cases).0 refl),
      )
    ]

pub returns : goal.returns
returns c =
    let rest : List ℕ = c.args.rest.now in
    let behind : List ℕ = c.in-Some.behind.now in
    let name : List ℕ = c.in-Some-strip_suffix.name.now in
    let same : behind ≡ drop 15 rest = c.in-Some.ensures.cases.1 in
    let ended : behind ≡ name ++ 0x00 ∷ [] =
    strip_suffix_is Decides-eqb behind (0x00 ∷ []) (Some c.in-Some-strip_suffix.name) c.in-Some-strip_suffix.ensures.cases in
    let no_zero = contains_decides eqb Decides-eqb name 0 false c.if-contains.ensures.cases in
    let long : 15 ≤ length rest = omega (arith, c.in-Some.ensures.cases.2) in
    let bytes : IsBytes rest = λ i. omega (arith, c.type_inv.rest i) in
    let read : IsResponseBody (signed_on (take 15 rest) name) (0x86 ∷ rest) =
    sign_on_read rest name bytes long (sym same ∙ ended) c.if-name-gt-NAME_LIMIT.false (λ zero. false≢true (no_zero.1 zero)) in
    subst (λ (head : List ℕ). IsResponseBody (signed_on head name) (0x86 ∷ rest)) (sym c.in-Some.ensures.cases.0) read
