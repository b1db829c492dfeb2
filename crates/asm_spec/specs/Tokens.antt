-- The smallest parts of a line: blanks, names, numbers, and a statement's mnemonic and operands.
use Rattle.std.specs.Prelude.{ℕ, ◌+◌, ◌-◌, ◌*◌, ◌==◌, ◌&&◌, ◌||◌, Bool, true, false, not, eqb, nat_le, nat_lt, if◌then◌else◌, List, [], ◌∷◌}
use Rattle.std.specs.Prelude.{length, drop, map, reverse, codes, Option, None, Some}
use Rattle.std.specs.List.{list_all, slice_split, starts_with, take_while}

-- a space or a tab
abbrev pub is_blank : ℕ → Bool
is_blank byte = (byte == 0x20) || (byte == 0x09)

-- without the blanks in front
abbrev pub behind_blanks : List ℕ → List ℕ
behind_blanks [] = []
behind_blanks (byte ∷ bytes) = if is_blank byte then behind_blanks bytes else byte ∷ bytes

-- without the blanks at both ends
abbrev pub trimmed : List ℕ → List ℕ
trimmed bytes = reverse (behind_blanks (reverse (behind_blanks bytes)))

-- a digit from 0 to 9
abbrev pub is_digit : ℕ → Bool
is_digit byte = nat_le 0x30 byte && nat_le byte 0x39

-- a letter of either case, or `_`
abbrev pub is_letter : ℕ → Bool
is_letter byte = (nat_le 0x41 byte && nat_le byte 0x5a) || (nat_le 0x61 byte && nat_le byte 0x7a) || (byte == 0x5f)

-- a name: a letter, and at most 30 more letters or digits
abbrev pub is_name : List ℕ → Bool
is_name [] = false
is_name (first ∷ more) = is_letter first && nat_le (length more) 30 && list_all (λ byte. is_letter byte || is_digit byte) more

-- the value of a digit, up to 15 in either case; of another byte 16
abbrev pub digit_value : ℕ → ℕ
digit_value byte =
    if is_digit byte then byte - 0x30
    else if nat_le 0x41 byte && nat_le byte 0x46 then byte - 0x37
    else if nat_le 0x61 byte && nat_le byte 0x66 then byte - 0x57
    else 16

-- each is a digit in a base
abbrev pub are_digits : (base : ℕ) → List ℕ → Bool
are_digits base bytes = list_all (λ byte. nat_lt (digit_value byte) base) bytes

-- the number so far, with these digits behind it
abbrev pub number_on : (base number : ℕ) → List ℕ → ℕ
number_on base number [] = number
number_on base number (digit ∷ digits) = number_on base (base * number + digit_value digit) digits

-- at least one byte, and no 0 in front of another
abbrev pub has_no_leading_zero : List ℕ → Bool
has_no_leading_zero [] = false
has_no_leading_zero (digit ∷ []) = true
has_no_leading_zero (digit ∷ more) = not (digit == 0x30)

-- a number in decimal digits
abbrev pub decimal_number : List ℕ → Option ℕ
decimal_number digits = if are_digits 10 digits && has_no_leading_zero digits then Some (number_on 10 0 digits) else None

-- a number of 1 to 8 hexadecimal digits
abbrev pub hex_number : List ℕ → Option ℕ
hex_number digits =
    if nat_le 1 (length digits) && nat_le (length digits) 8 && are_digits 16 digits then Some (number_on 16 0 digits) else None

-- a number: hexadecimal digits behind `0x`, or decimal ones
abbrev pub number : List ℕ → Option ℕ
number bytes = if starts_with eqb bytes (codes "0x") then hex_number (drop 2 bytes) else decimal_number bytes

-- a register: `r` and its number in decimal
abbrev pub register_number : List ℕ → Option ℕ
register_number bytes = if starts_with eqb bytes (codes "r") then decimal_number (drop 1 bytes) else None

-- a mnemonic with its operands
pub record Statement : Type 0 where
  pub name : List ℕ
  pub operands : List (List ℕ)

-- the operands: none in nothing, else those between commas, without the blanks round them
abbrev pub operands_in : List ℕ → List (List ℕ)
operands_in [] = []
operands_in (byte ∷ bytes) = map trimmed (slice_split (λ other. other == 0x2c) (byte ∷ bytes))

-- the statement that bytes without blanks at their ends are: the mnemonic up to the first blank, and operands behind blanks
abbrev pub statement_of : List ℕ → Statement
statement_of bytes =
    let name : List ℕ = take_while (λ byte. not (is_blank byte)) bytes in
    record { name = name; operands = operands_in (behind_blanks (drop (length name) bytes)) }
