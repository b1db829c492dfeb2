-- A record of a session: a text of lines, which tell in turn what happens to the debugger and what it then sends.
use Rattle.std.specs.Prelude.{◌≡◌, ℕ, ◌+◌, ◌-◌, ◌*◌, ◌<◌, ◌≤◌, nat_le, ◌&&◌, Bool, true, false, List, [], ◌∷◌, ◌++◌, length, codes}
use Rattle.std.specs.List.{list_all}
use Rattle.hex.specs.Hex.{encode_lower}
use Rattle.line_spec.specs.Frames.{IsBytes}
use Rattle.debug_spec.specs.Stop.{Cause, cause_code}
use Rattle.debug_spec.specs.Run.{End}
use Rattle.record_spec.specs.declared.limits.TheConstants.{IN_LIMIT}

-- what happens: bytes of the line come in; none comes, and a frame that waits is heard; the line ends; the run that is out ends
pub data Event : Type 0 where
  comes : List ℕ → Event
  waits : Event
  line_ends : Event
  halts : End → Event

-- a line tells an event, or the bytes that the event of the line before sends
pub data Line : Type 0 where
  event : Event → Line
  out : List ℕ → Line

-- a decimal digit
abbrev pub is_digit : ℕ → Bool
is_digit byte = nat_le 0x30 byte && nat_le byte 0x39

-- the number so far, with these digits behind it
abbrev pub number_on : (number : ℕ) → (digits : List ℕ) → ℕ
number_on number [] = number
number_on number (digit ∷ digits) = number_on (10 * number + (digit - 0x30)) digits

-- a number is never written with a 0 ahead of another digit
abbrev pub leads : List ℕ → Bool
leads [] = false
leads (digit ∷ []) = true
leads (digit ∷ next ∷ digits) = nat_le 0x31 digit

-- these are the decimal digits of a number
pub record IsDecimal (digits : List ℕ) (number : ℕ) : Type 0 where
  pub each : list_all is_digit digits ≡ true
  pub leading : leads digits ≡ true
  pub value : number ≡ number_on 0 digits

-- bytes in digits, two in lower case for each; `-` stands for none
abbrev pub digits_of : List ℕ → List ℕ
digits_of [] = codes "-"
digits_of (byte ∷ bytes) = encode_lower (byte ∷ bytes)

-- the two digits of a cause
abbrev pub cause_digits : Cause → List ℕ
cause_digits cause = 0x30 ∷ (0x30 + cause_code cause) ∷ []

-- the text of a line, without its line feed: `in` and up to 512 bytes; `in -`; `end`; `halt`, the cause in two digits and the steps;
-- `out` and the bytes
abbrev pub IsText : List ℕ → Line → Type 0
IsText text (event (comes bytes)) =
    (0 < length bytes) × (length bytes ≤ IN_LIMIT) × IsBytes bytes × (text ≡ codes "in " ++ digits_of bytes)
IsText text (event waits) = text ≡ codes "in " ++ digits_of []
IsText text (event line_ends) = text ≡ codes "end"
IsText text (event (halts end)) =
    (digits : List ℕ) × IsDecimal digits end.steps × (text ≡ codes "halt " ++ cause_digits end.cause ++ codes " " ++ digits)
IsText text (out bytes) = IsBytes bytes × (text ≡ codes "out " ++ digits_of bytes)
