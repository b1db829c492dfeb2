-- What follows where a body belongs to an event.
use Rattle.std.proofs.Common.{◌≡◌, ◌≢◌, ℕ, ◌<◌, ◌^◌, List, [], ◌∷◌, ◌++◌, length, slice_index, sym, ap, ◌∙◌, arith}
use Rattle.std.specs.Int.{w32, from_le_bytes}
use Rattle.line_spec.specs.Frames.{IsBytes}
use Rattle.line_spec.specs.Messages.{break_at, IsEventBody, IsNoEvent}
use Rattle.line_spec.proofs.Bodies.{event_of, event_belongs_back}
use Rattle.ice_msg.proofs.Numbers.{four_at, four_written, five_bytes_of}

-- a stop has an address and a cause
pub break_length : (rest : List ℕ) → length rest ≢ 5 → IsNoEvent (0xE0 ∷ rest)
break_length rest other event belongs =
    let own : IsEventBody (event_of (0xE0 ∷ rest)) (0xE0 ∷ rest) = event_belongs_back (0xE0 ∷ rest) event belongs in
    other (omega (arith, ap length own.1))

last_five : (rest : List ℕ) → length rest ≡ 5 → rest ≡ four_at 0 rest ++ slice_index rest 4 ∷ []
last_five rest five = five_bytes_of rest five

pub break_read : (rest : List ℕ) (address : ℕ) → IsBytes rest → length rest ≡ 5 → address < 2 ^ 32
    → address ≡ from_le_bytes w32 (four_at 0 rest) → IsEventBody (break_at address (slice_index rest 4)) (0xE0 ∷ rest)
break_read rest address bytes five fits made = (
  (fits, bytes 4),
  ap (λ (xs : List ℕ). 0xE0 ∷ xs)
      (last_five rest five ∙ ap (λ (xs : List ℕ). xs ++ slice_index rest 4 ∷ []) (sym (four_written 0 address rest bytes made))),
)
