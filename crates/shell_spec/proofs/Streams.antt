-- The cuts of the streams whose listings were worked by hand.
use Rattle.std.proofs.Common.{◌≡◌, ℕ, ◌==◌, true, not, nat_lt, List, [], ◌∷◌, ◌++◌, map, take, drop, refl, sym, ◌∙◌, ap, arith, codes}
use Rattle.std.specs.List.{list_all}
use Rattle.std.specs.Int.{byte_at}
use Rattle.std.proofs.lemmas.Bool.{and_parts, ltb-true, true≢false}
use Rattle.line_spec.specs.Check.{check, checked}
use Rattle.line_spec.specs.Frames.{Frame, IsBytes, IsJunk, IsPartial, unchecked, bytes_of}
use Rattle.line_spec.specs.Cut.{Item, whole, junk, Cuts}
use Rattle.line_spec.proofs.Bytes.{IsBytes-nil, IsBytes-cons}
use Rattle.line_spec.proofs.Cuts.{IsPartial-nil}
use Rattle.line_spec.proofs.Fronts.{HasBody, shown_check, junk_by_start, junk_by_check, partial_by_check}
use Rattle.std.specs.Fmt.{digits}
use Rattle.hex.specs.Hex.{encode_with}
use Rattle.shell_spec.specs.Listing.{IsListing}

pub are_bytes : (bytes : List ℕ) → list_all (λ byte. nat_lt byte 256) bytes ≡ true → IsBytes bytes
are_bytes [] all = IsBytes-nil
are_bytes (byte ∷ bytes) all =
    let parts = and_parts (nat_lt byte 256) (list_all (λ b. nat_lt b 256) bytes) all in
    IsBytes-cons byte bytes (ltb-true byte 256 parts.0) (are_bytes bytes parts.1)

-- the frame of the host that asks who is there
abbrev sign_on : Frame
sign_on = record { number = 0; body = 0x01 ∷ [] }

abbrev sign_on_bytes : List ℕ
sign_on_bytes = 0x1B ∷ 0x00 ∷ 0x00 ∷ 0x01 ∷ 0x00 ∷ 0x00 ∷ 0x00 ∷ 0x0E ∷ 0x01 ∷ 0xF3 ∷ 0x97 ∷ []

-- a frame of 11 bytes, with it as the body and a wrong check
abbrev pub damaged : List ℕ
damaged = 0x1B ∷ 0x05 ∷ 0x00 ∷ 0x0B ∷ 0x00 ∷ 0x00 ∷ 0x00 ∷ 0x0E ∷ sign_on_bytes ++ 0x00 ∷ 0x00 ∷ []

-- bytes that begin no frame
strays : (front after rest : List ℕ) (items : List Item) → list_all (λ byte. not (byte == 0x1B)) front ≡ true → Cuts after items rest →
    Cuts (front ++ after) (map junk front ++ items) rest
strays [] after rest items none cuts = cuts
strays (byte ∷ front) after rest items none cuts =
    let parts = and_parts (not (byte == 0x1B)) (list_all (λ b. not (b == 0x1B)) front) none in (
      front ++ after,
      refl,
      junk_by_start (byte ∷ front ++ after) (λ e. true≢false (sym parts.0 ∙ ap (λ (b : ℕ). not (b == 0x1B)) e)),
      strays front after rest items parts.1 cuts,
    )

body_there : HasBody damaged
body_there = record {
  bytes = are_bytes damaged refl;
  header = record { start = refl; size = omega arith; token = refl };
  enough = omega arith;
}

low_is : byte_at 0 (shown_check damaged) ≡ 0xA5
unfolding check checked
low_is = refl

damaged_is_junk : IsJunk damaged
damaged_is_junk = junk_by_check damaged body_there (λ low high. omega (arith, low, low_is))

abbrev behind_it : List ℕ
behind_it = 0x00 ∷ 0x00 ∷ []

frame_cuts : Cuts (sign_on_bytes ++ behind_it) (whole sign_on ∷ junk 0x00 ∷ junk 0x00 ∷ []) []
unfolding bytes_of unchecked check checked
frame_cuts = (
  behind_it,
  record { valid = record { number = omega arith; body = omega arith; bytes = are_bytes (0x01 ∷ []) refl }; split = refl },
  strays behind_it [] [] [] refl refl,
)

pub damaged_listing : IsListing damaged (codes "junk 8" ++ 10 ∷ codes "frame 0000 01" ++ 10 ∷ codes "junk 2" ++ 10 ∷ [])
unfolding digits encode_with
damaged_listing = record {
  items = junk 0x1B ∷ junk 0x05 ∷ junk 0x00 ∷ junk 0x0B ∷ junk 0x00 ∷ junk 0x00 ∷ junk 0x00 ∷ junk 0x0E ∷ whole sign_on ∷ junk 0x00 ∷
      junk 0x00 ∷ [];
  rest = [];
  cut = record {
    cuts = (
      drop 1 damaged,
      refl,
      damaged_is_junk,
      strays (take 7 (drop 1 damaged)) (sign_on_bytes ++ behind_it) [] (whole sign_on ∷ junk 0x00 ∷ junk 0x00 ∷ []) refl frame_cuts,
    );
    partial = IsPartial-nil;
  };
  is = refl;
}

-- the frame without its last byte
abbrev pub begun : List ℕ
begun = 0x1B ∷ 0x00 ∷ 0x00 ∷ 0x01 ∷ 0x00 ∷ 0x00 ∷ 0x00 ∷ 0x0E ∷ 0x01 ∷ 0xF3 ∷ []

begun_is_partial : IsPartial begun
unfolding check checked
begun_is_partial = partial_by_check begun (record {
  body = record {
    bytes = are_bytes begun refl;
    header = record { start = refl; size = omega arith; token = refl };
    enough = omega arith;
  };
  low = refl;
  high = refl;
}) (omega arith)

pub begun_listing : IsListing begun (codes "rest 10" ++ 10 ∷ [])
unfolding digits
begun_listing = record { items = []; rest = begun; cut = record { cuts = refl; partial = begun_is_partial }; is = refl }
