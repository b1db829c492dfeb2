-- The parameters of the tool: what each holds at the start, and what may be written to it (AVR067, 'Parameters').
use Rattle.std.specs.Prelude.{◌≡◌, ℕ, ◌+◌, ◌*◌, ◌==◌, nat_le, Bool, true, false, ◌&&◌, if◌then◌else◌, List, [], ◌∷◌, length, map, Option}
use Rattle.std.specs.Prelude.{None, Some, Result, Ok, Err}
use Rattle.line_spec.specs.declared.refusal.Refusal.{Refusal}
use Rattle.line_spec.specs.declared.refusal.Refusal.TheVariants.{IllegalParameter, IllegalValue}

-- which values may be written to a parameter: none, any of its size, or the numbers of its size from the least to the most
pub data Accepted : Type 0 where
  read_only : Accepted
  any_value : Accepted
  numbers : (least most : ℕ) → Accepted

-- a parameter: its id, its value as bytes, and what may be written to it
pub record Parameter : Type 0 where
  pub id : ℕ
  pub value : List ℕ
  pub accepted : Accepted

-- a line of the table
abbrev pub line : ℕ → List ℕ → Accepted → Parameter
line id value accepted = record { id = id; value = value; accepted = accepted }

-- the table: each parameter of which a value is kept, as it is at the start
abbrev pub parameters_at_start : List Parameter
parameters_at_start =
    line 0x01 (0x01 ∷ 0x01 ∷ []) read_only ∷  -- hardware version
    line 0x02 (0x00 ∷ 0x06 ∷ 0x00 ∷ 0x06 ∷ []) read_only ∷  -- firmware version
    line 0x03 (0x01 ∷ []) (numbers 0x01 0x01) ∷  -- emulator mode
    line 0x05 (0x04 ∷ []) (numbers 0x01 0x08) ∷  -- baud rate
    line 0x06 (0x88 ∷ 0x13 ∷ []) read_only ∷  -- voltage of the target, in millivolts
    line 0x07 (0x04 ∷ []) any_value ∷  -- JTAG clock
    line 0x09 (0x00 ∷ []) (numbers 0x00 0x01) ∷  -- timers running
    line 0x13 (0x00 ∷ []) (numbers 0x00 0x01) ∷  -- external reset
    line 0x14 (0x80 ∷ 0x00 ∷ []) any_value ∷  -- flash page size
    line 0x15 (0x04 ∷ []) any_value ∷  -- EEPROM page size
    line 0x1B (0x00 ∷ 0x00 ∷ 0x00 ∷ 0x00 ∷ []) (numbers 0x00 0x00) ∷  -- daisy chain information
    line 0x1C (0x00 ∷ 0x00 ∷ 0x00 ∷ 0x00 ∷ []) any_value ∷  -- boot address
    []

-- the id of the parameter that is read as the state of the target, and of which no value is kept
abbrev pub mcu_state : ℕ
mcu_state = 0x1A

-- the parameter with the id
abbrev pub parameter_of : List Parameter → ℕ → Option Parameter
parameter_of [] id = None
parameter_of (parameter ∷ others) id = if id == parameter.id then Some parameter else parameter_of others id

-- the value of a parameter, if there is one
abbrev pub value_of : Option Parameter → Result (List ℕ) Refusal
value_of None = Err IllegalParameter
value_of (Some parameter) = Ok parameter.value

-- what is read of the parameter with the id, while the target is in the state
abbrev pub parameter_read : List Parameter → (state id : ℕ) → Result (List ℕ) Refusal
parameter_read parameters state id = if id == mcu_state then Ok (state ∷ []) else value_of (parameter_of parameters id)

-- the number that the bytes are, low byte first
abbrev pub number_of : List ℕ → ℕ
number_of [] = 0
number_of (byte ∷ bytes) = byte + 256 * number_of bytes

-- whether the value is one of those accepted
abbrev pub accepts : Accepted → (value : List ℕ) → Bool
accepts read_only value = false
accepts any_value value = true
accepts (numbers least most) value = nat_le least (number_of value) && nat_le (number_of value) most

-- whether the value has the parameter's size and may be written to it
abbrev pub takes : Parameter → (value : List ℕ) → Bool
takes parameter value = length value == length parameter.value && accepts parameter.accepted value

-- why a value that may not be written is refused
abbrev pub write_refusal : Accepted → Refusal
write_refusal read_only = IllegalParameter
write_refusal any_value = IllegalValue
write_refusal (numbers least most) = IllegalValue

-- the parameters, with the value for the one with the id
abbrev pub with_value : List Parameter → ℕ → (value : List ℕ) → List Parameter
with_value [] id value = []
with_value (parameter ∷ others) id value =
    if id == parameter.id then record parameter { value = value } ∷ others else parameter ∷ with_value others id value

-- the parameters once the value is written at the id, where that is the parameter's line
abbrev pub written_at : Option Parameter → List Parameter → ℕ → (value : List ℕ) → Result (List Parameter) Refusal
written_at None parameters id value = Err IllegalParameter
written_at (Some parameter) parameters id value =
    if takes parameter value then Ok (with_value parameters id value) else Err (write_refusal parameter.accepted)

-- what a write of the value to the parameter with the id leaves, or why it is refused
abbrev pub parameter_written : List Parameter → (id : ℕ) → (value : List ℕ) → Result (List Parameter) Refusal
parameter_written parameters id value = written_at (parameter_of parameters id) parameters id value

-- what never changes of a parameter: its id, its size and what may be written
abbrev pub shape_of : Parameter → ℕ × ℕ × Accepted
shape_of parameter = (parameter.id, length parameter.value, parameter.accepted)

-- the parameters are the table's, with values of the table's sizes
abbrev pub IsTable : List Parameter → Type 0
IsTable parameters = map shape_of parameters ≡ map shape_of parameters_at_start
