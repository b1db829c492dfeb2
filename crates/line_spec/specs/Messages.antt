-- The bodies of frames: commands of the host and responses of the tool, each number low byte first (AVR067, 'Commands', 'Responses').
use Rattle.std.specs.Prelude.{◌≡◌, ◌≢◌, ℕ, ◌<◌, ◌≤◌, ◌^◌, List, [], ◌∷◌, ◌++◌, length, slice_index, Contains}
use Rattle.std.specs.Int.{w32, to_le_bytes}
use Rattle.line_spec.specs.declared.refusal.Refusal.{Refusal}
use Rattle.line_spec.specs.declared.refusal.Refusal.TheVariants.{Failed, IllegalParameter, IllegalMemoryType, IllegalMemoryRange}
use Rattle.line_spec.specs.declared.refusal.Refusal.TheVariants.{IllegalMcuState, IllegalValue, IllegalBreakpoint, IllegalCommand}
use Rattle.line_spec.specs.declared.limits.TheConstants.{MEMORY_LIMIT, OWN_HEAD, OWN_NAME}
use Rattle.line_spec.specs.Frames.{IsBytes}

-- the most bytes that one command reads from memory
abbrev pub memory_limit : ℕ
memory_limit = MEMORY_LIMIT

-- what the host may ask
pub data Command : Type 0 where
  sign_off : Command
  get_sign_on : Command
  set_parameter : (id : ℕ) (value : List ℕ) → Command
  get_parameter : (id : ℕ) → Command
  write_memory : (kind address : ℕ) (bytes : List ℕ) → Command
  read_memory : (kind count address : ℕ) → Command
  write_pc : (address : ℕ) → Command
  read_pc : Command
  go : Command
  single_step : Command
  forced_stop : Command
  reset : Command
  set_device_descriptor : (bytes : List ℕ) → Command
  erase_page : (address : ℕ) → Command
  get_sync : Command
  set_break : (kind number address : ℕ) → Command
  chip_erase : Command
  enter_programming : Command
  leave_programming : Command
  clear_break : (number address : ℕ) → Command
  run_to : (address : ℕ) → Command
  clear_events : Command

-- the first byte of each command
abbrev pub command_code : Command → ℕ
command_code sign_off = 0x00
command_code get_sign_on = 0x01
command_code (set_parameter id value) = 0x02
command_code (get_parameter id) = 0x03
command_code (write_memory kind address bytes) = 0x04
command_code (read_memory kind count address) = 0x05
command_code (write_pc address) = 0x06
command_code read_pc = 0x07
command_code go = 0x08
command_code single_step = 0x09
command_code forced_stop = 0x0A
command_code reset = 0x0B
command_code (set_device_descriptor bytes) = 0x0C
command_code (erase_page address) = 0x0D
command_code get_sync = 0x0F
command_code (set_break kind number address) = 0x11
command_code chip_erase = 0x13
command_code enter_programming = 0x14
command_code leave_programming = 0x15
command_code (clear_break number address) = 0x1A
command_code (run_to address) = 0x1C
command_code clear_events = 0x22

-- every such byte
abbrev pub command_codes : List ℕ
command_codes =
    0x00 ∷ 0x01 ∷ 0x02 ∷ 0x03 ∷ 0x04 ∷ 0x05 ∷ 0x06 ∷ 0x07 ∷ 0x08 ∷ 0x09 ∷ 0x0A ∷ 0x0B ∷ 0x0C ∷ 0x0D ∷ 0x0F ∷ 0x11 ∷
    0x13 ∷ 0x14 ∷ 0x15 ∷ 0x1A ∷ 0x1C ∷ 0x22 ∷ []

-- what stands behind the code and means something
abbrev pub command_fields : Command → List ℕ
command_fields (set_parameter id value) = id ∷ value
command_fields (get_parameter id) = id ∷ []
command_fields (write_memory kind address bytes) = kind ∷ to_le_bytes w32 (length bytes) ++ to_le_bytes w32 address ++ bytes
command_fields (read_memory kind count address) = kind ∷ to_le_bytes w32 count ++ to_le_bytes w32 address
command_fields (write_pc address) = to_le_bytes w32 address
command_fields (set_device_descriptor bytes) = bytes
command_fields (erase_page address) = to_le_bytes w32 address
command_fields (set_break kind number address) = kind ∷ number ∷ to_le_bytes w32 address
command_fields (clear_break number address) = number ∷ to_le_bytes w32 address
command_fields (run_to address) = to_le_bytes w32 address
command_fields sign_off = []
command_fields get_sign_on = []
command_fields read_pc = []
command_fields go = []
command_fields single_step = []
command_fields forced_stop = []
command_fields reset = []
command_fields get_sync = []
command_fields chip_erase = []
command_fields enter_programming = []
command_fields leave_programming = []
command_fields clear_events = []

-- how many bytes may stand behind these, whose values are ignored: the flags of a step, a stop and a reset, and the mode of a breakpoint
abbrev pub ignored_lengths : Command → List ℕ
ignored_lengths single_step = 0 ∷ 2 ∷ []
ignored_lengths forced_stop = 0 ∷ 1 ∷ []
ignored_lengths reset = 0 ∷ 1 ∷ []
ignored_lengths (set_break kind number address) = 1 ∷ []
ignored_lengths _ = 0 ∷ []

-- the ignored bytes that this project's own writer puts there
abbrev pub ignored_written : Command → List ℕ
ignored_written forced_stop = 0x01 ∷ []
ignored_written reset = 0x01 ∷ []
ignored_written (set_break kind number address) = 0x00 ∷ []
ignored_written _ = []

-- the command has bytes and numbers that its fields can hold
abbrev pub IsCommand : Command → Type 0
IsCommand (set_parameter id value) = (id < 2 ^ 8) × IsBytes value × (length value ≤ 4104)
IsCommand (get_parameter id) = id < 2 ^ 8
IsCommand (write_memory kind address bytes) = (kind < 2 ^ 8) × (address < 2 ^ 32) × IsBytes bytes × (length bytes < 2 ^ 32)
IsCommand (read_memory kind count address) = (kind < 2 ^ 8) × (count < 2 ^ 32) × (address < 2 ^ 32)
IsCommand (write_pc address) = address < 2 ^ 32
IsCommand (set_device_descriptor bytes) = IsBytes bytes × (length bytes ≤ 4105)
IsCommand (erase_page address) = address < 2 ^ 32
IsCommand (set_break kind number address) = (kind < 2 ^ 8) × (number < 2 ^ 8) × (address < 2 ^ 32)
IsCommand (clear_break number address) = (number < 2 ^ 8) × (address < 2 ^ 32)
IsCommand (run_to address) = address < 2 ^ 32
IsCommand _ = Unit {0}

-- the body of a command with these ignored bytes
abbrev pub command_body : Command → List ℕ → List ℕ
command_body command ignored = command_code command ∷ command_fields command ++ ignored

-- the body belongs to the command
pub record IsCommandBody (command : Command) (body : List ℕ) : Type 0 where
  pub valid : IsCommand command
  pub ignored : List ℕ
  pub any_bytes : IsBytes ignored
  pub so_many : Contains (ignored_lengths command) (length ignored)
  pub made : body ≡ command_body command ignored

-- the body has a first byte, and it is one of the codes
abbrev pub HasCode : List ℕ → List ℕ → Type 0
HasCode known [] = ⊥
HasCode known (code ∷ rest) = Contains known code

-- no command has this body
abbrev pub IsNoCommand : List ℕ → Type 0
IsNoCommand body = (command : Command) → IsCommandBody command body → ⊥

-- the first byte of a refusal
abbrev pub refusal_code : Refusal → ℕ
refusal_code Failed = 0xA0
refusal_code IllegalParameter = 0xA1
refusal_code IllegalMemoryType = 0xA2
refusal_code IllegalMemoryRange = 0xA3
refusal_code IllegalMcuState = 0xA5
refusal_code IllegalValue = 0xA6
refusal_code IllegalBreakpoint = 0xA8
refusal_code IllegalCommand = 0xAA

-- what the tool may answer
pub data Response : Type 0 where
  okay : Response
  parameter : (bytes : List ℕ) → Response
  memory : (bytes : List ℕ) → Response
  program_counter : (address : ℕ) → Response
  signed_on : (head name : List ℕ) → Response
  refused : Refusal → Response

-- the first byte of each response
abbrev pub response_codes : List ℕ
response_codes = 0x80 ∷ 0x81 ∷ 0x82 ∷ 0x84 ∷ 0x86 ∷ 0xA0 ∷ 0xA1 ∷ 0xA2 ∷ 0xA3 ∷ 0xA5 ∷ 0xA6 ∷ 0xA8 ∷ 0xAA ∷ []

-- the body of a response
abbrev pub response_body : Response → List ℕ
response_body okay = 0x80 ∷ []
response_body (parameter bytes) = 0x81 ∷ bytes
response_body (memory bytes) = 0x82 ∷ bytes
response_body (program_counter address) = 0x84 ∷ to_le_bytes w32 address
response_body (signed_on head name) = 0x86 ∷ head ++ name ++ 0x00 ∷ []
response_body (refused refusal) = refusal_code refusal ∷ []

-- a response within its limits: what a body can hold, a memory answer of at most so many bytes, a sign-on of 15 bytes and a name
-- without a zero
abbrev pub IsResponse : Response → Type 0
IsResponse okay = Unit {0}
IsResponse (parameter bytes) = IsBytes bytes × (length bytes ≤ 4105)
IsResponse (memory bytes) = IsBytes bytes × (length bytes ≤ memory_limit)
IsResponse (program_counter address) = address < 2 ^ 32
IsResponse (signed_on head name) = IsBytes head × IsBytes name × (length head ≡ 15) × (length name ≤ 4089)
    × ((i : ℕ) → i < length name → slice_index name i ≢ 0)
IsResponse (refused refusal) = Unit {0}

-- the body belongs to the response
abbrev pub IsResponseBody : Response → List ℕ → Type 0
IsResponseBody response body = IsResponse response × (body ≡ response_body response)

-- no response has this body
abbrev pub IsNoResponse : List ℕ → Type 0
IsNoResponse body = (response : Response) → IsResponseBody response body → ⊥

-- what the tool tells unasked
pub data Event : Type 0 where
  break_at : (address cause : ℕ) → Event

-- the first byte of each event
abbrev pub event_codes : List ℕ
event_codes = 0xE0 ∷ []

-- the body of an event: the target stopped at a word address, for a cause
abbrev pub event_body : Event → List ℕ
event_body (break_at address cause) = 0xE0 ∷ to_le_bytes w32 address ++ cause ∷ []

-- an event within its limits
abbrev pub IsEvent : Event → Type 0
IsEvent (break_at address cause) = (address < 2 ^ 32) × (cause < 2 ^ 8)

-- the body belongs to the event
abbrev pub IsEventBody : Event → List ℕ → Type 0
IsEventBody event body = IsEvent event × (body ≡ event_body event)

-- no event has this body
abbrev pub IsNoEvent : List ℕ → Type 0
IsNoEvent body = (event : Event) → IsEventBody event body → ⊥

-- what this tool signs on with: protocol 01; boot 01, firmware 06.00, hardware 01 of the master and of the slave; the serial number
abbrev pub own_head : List ℕ
own_head = OWN_HEAD

-- the name that this tool signs on with
abbrev pub own_name : List ℕ
own_name = OWN_NAME
