-- Lines that are no records.
use Rattle.std.proofs.Common.{◌≡◌, ℕ, ◌+◌, ◌*◌, ◌/◌, ◌<◌, min, slice_index, inl, inr, List, [], ◌∷◌, None, Result, Ok, Err, length, get_or, drop, refl, ap, ◌∙◌, arith}
use Rattle.std.specs.Prelude.{MatchResult}
use Rattle.std.proofs.lemmas.Bool.{cases_lt, ne_eqb}
use Rattle.hex.specs.Hex.{decode_of, decode_sized}
use Rattle.hex.specs.declared.error.FromHexError.{FromHexError}
use Rattle.hex.proofs.HexLemmas.{decode_of-ok, decode_sized-twice}
use Rattle.image_hex.specs.Records.{colon, record_in, decoded}
use Rattle.image_hex.specs.Told.{recordless, IsNoRecord}

-- a record has 260 bytes at most
record_in-long : (bytes : List ℕ) → ((i : ℕ) → slice_index bytes i < 256) → 260 < length bytes → record_in bytes ≡ None
record_in-long [] small long = refl
record_in-long (a ∷ []) small long = refl
record_in-long (a ∷ b ∷ []) small long = refl
record_in-long (a ∷ b ∷ c ∷ []) small long = refl
record_in-long (count ∷ high ∷ low ∷ kind ∷ behind) small long =
    rw (ne_eqb (length behind) (count + 1) (λ same. omega (arith, small 0))) refl

-- digits that do not fit the room for a record, or do not decode, are those of none
pub undecoded : (digits out : List ℕ) (room : ℕ) (error : FromHexError) → room ≡ min 260 (length digits / 2)
    → MatchResult (decode_sized digits room) (λ bytes. ◌≡◌ {A = Result (Unit {0}) FromHexError} (Err error) (Ok tt) × (out ≡ bytes))
    (λ other. ◌≡◌ {A = Result (Unit {0}) FromHexError} (Err error) (Err other))
    → IsNoRecord (colon ∷ digits)
undecoded digits out room error most told = by (decode_of digits) refl
  where
    by : (read : Result (List ℕ) FromHexError) → decode_of digits ≡ read → recordless (decoded read)
    by (Err other) is = tt
    by (Ok bytes) is =
        let ok = decode_of-ok digits bytes is in
        elim (cases_lt 260 (length bytes)) [
          | inl long ↦ record_in-long bytes ok.3 long
          | inr short ↦
              let twice : length digits ≡ 2 * room = omega (arith, ok.2) in
              let both = rw (decode_sized-twice digits room twice ∙ is) at told in cc both.0
        ]

-- a line that begins with a colon
pub headed : (line : List ℕ) → 0 < length line → get_or line 0 0 ≡ colon → line ≡ colon ∷ drop 1 line
headed [] some first = absurd (omega arith)
headed (byte ∷ line) some first = ap (λ (head : ℕ). head ∷ line) first
