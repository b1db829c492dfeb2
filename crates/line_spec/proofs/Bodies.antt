-- A command, a response or an event is read off its body, so a body belongs to one at most.
use Rattle.std.proofs.Common.{◌≡◌, ℕ, zero, suc, ◌-◌, ◌<◌, List, [], ◌∷◌, ◌++◌, length, take, drop, slice_index, if◌then◌else◌, ◌==◌, refl}
use Rattle.std.proofs.Common.{sym, ap, subst, ◌∙◌, arith, append_assoc, append-nil, length-append, lit<}
use Rattle.std.proofs.lemmas.List.{nil_from_length}
use Rattle.std.specs.List.{Contains}
use Rattle.std.specs.Int.{w32, to_le_bytes, from_le_bytes}
use Rattle.std.proofs.lemmas.Nat.{from_le_bytes-to_le_bytes_4}
use Rattle.std.proofs.Math.Seq.{take-append_seam, drop-append_seam}
use Rattle.line_spec.specs.declared.refusal.Refusal.{Refusal}
use Rattle.line_spec.specs.declared.refusal.Refusal.TheVariants.{Failed, IllegalParameter, IllegalMemoryType, IllegalMemoryRange}
use Rattle.line_spec.specs.declared.refusal.Refusal.TheVariants.{IllegalMcuState, IllegalValue, IllegalBreakpoint, IllegalCommand}
use Rattle.line_spec.specs.Frames.{IsBytes}
use Rattle.line_spec.specs.Messages.{Command, sign_off, get_sign_on, set_parameter, get_parameter, write_memory, read_memory, write_pc}
use Rattle.line_spec.specs.Messages.{read_pc, go, single_step, forced_stop, reset, set_device_descriptor, erase_page, get_sync, set_break}
use Rattle.line_spec.specs.Messages.{chip_erase, enter_programming, leave_programming, clear_break, run_to, clear_events, ignored_lengths}
use Rattle.line_spec.specs.Messages.{ignored_written, IsCommand, command_body, IsCommandBody, Response, okay, parameter, memory}
use Rattle.line_spec.specs.Messages.{program_counter, signed_on, refused, refusal_code, response_body, IsResponse, IsResponseBody, Event}
use Rattle.line_spec.specs.Messages.{break_at, event_body, IsEvent, IsEventBody}

-- the number of four bytes at a place
abbrev pub number_at : ℕ → List ℕ → ℕ
number_at place bytes = from_le_bytes w32 (take 4 (drop place bytes))

-- the command of a code and what is behind it
abbrev pub command_at : ℕ → List ℕ → Command
command_at code rest =
    if code == 0x00 then sign_off
    else if code == 0x01 then get_sign_on
    else if code == 0x02 then set_parameter (slice_index rest 0) (drop 1 rest)
    else if code == 0x03 then get_parameter (slice_index rest 0)
    else if code == 0x04 then write_memory (slice_index rest 0) (number_at 5 rest) (drop 9 rest)
    else if code == 0x05 then read_memory (slice_index rest 0) (number_at 1 rest) (number_at 5 rest)
    else if code == 0x06 then write_pc (number_at 0 rest)
    else if code == 0x07 then read_pc
    else if code == 0x08 then go
    else if code == 0x09 then single_step
    else if code == 0x0A then forced_stop
    else if code == 0x0B then reset
    else if code == 0x0C then set_device_descriptor rest
    else if code == 0x0D then erase_page (number_at 0 rest)
    else if code == 0x0F then get_sync
    else if code == 0x11 then set_break (slice_index rest 0) (slice_index rest 1) (number_at 2 rest)
    else if code == 0x13 then chip_erase
    else if code == 0x14 then enter_programming
    else if code == 0x15 then leave_programming
    else if code == 0x1A then clear_break (slice_index rest 0) (number_at 1 rest)
    else if code == 0x1C then run_to (number_at 0 rest)
    else clear_events

-- the command of a body that has one
abbrev pub command_of : List ℕ → Command
command_of [] = sign_off
command_of (code ∷ rest) = command_at code rest

-- where no byte is ignored, none stands behind the fields
pub none_ignored : (ignored : List ℕ) → Contains (0 ∷ []) (length ignored) → ignored ≡ []
none_ignored ignored (zero, below, found) = nil_from_length ignored (sym found)
none_ignored ignored (suc i, below, found) = absurd (omega (arith, below))

all_behind : (bytes ignored : List ℕ) → Contains (0 ∷ []) (length ignored) → bytes ++ ignored ≡ bytes
all_behind bytes ignored none = ap (λ (xs : List ℕ). bytes ++ xs) (none_ignored ignored none) ∙ append-nil bytes

-- the fields of a command are read off its body
fields_back : (command : Command) (ignored : List ℕ) → IsCommand command → Contains (ignored_lengths command) (length ignored)
    → command_of (command_body command ignored) ≡ command
fields_back sign_off ignored valid so_many = refl
fields_back get_sign_on ignored valid so_many = refl
fields_back (set_parameter id value) ignored valid so_many = ap (set_parameter id) (all_behind value ignored so_many)
fields_back (get_parameter id) ignored valid so_many = refl
fields_back (write_memory kind address bytes) ignored valid so_many =
    ap (λ (n : ℕ). write_memory kind n (bytes ++ ignored)) (from_le_bytes-to_le_bytes_4 address valid.1)
    ∙ ap (write_memory kind address) (all_behind bytes ignored so_many)
fields_back (read_memory kind count address) ignored valid so_many =
    ap (λ (n : ℕ). read_memory kind n (from_le_bytes w32 (to_le_bytes w32 address))) (from_le_bytes-to_le_bytes_4 count valid.1)
    ∙ ap (read_memory kind count) (from_le_bytes-to_le_bytes_4 address valid.2)
fields_back (write_pc address) ignored valid so_many = ap write_pc (from_le_bytes-to_le_bytes_4 address valid)
fields_back read_pc ignored valid so_many = refl
fields_back go ignored valid so_many = refl
fields_back single_step ignored valid so_many = refl
fields_back forced_stop ignored valid so_many = refl
fields_back reset ignored valid so_many = refl
fields_back (set_device_descriptor bytes) ignored valid so_many = ap set_device_descriptor (all_behind bytes ignored so_many)
fields_back (erase_page address) ignored valid so_many = ap erase_page (from_le_bytes-to_le_bytes_4 address valid)
fields_back get_sync ignored valid so_many = refl
fields_back chip_erase ignored valid so_many = refl
fields_back enter_programming ignored valid so_many = refl
fields_back leave_programming ignored valid so_many = refl
fields_back (set_break kind number address) ignored valid so_many =
    ap (set_break kind number) (from_le_bytes-to_le_bytes_4 address valid.2)
fields_back (clear_break number address) ignored valid so_many =
    ap (clear_break number) (from_le_bytes-to_le_bytes_4 address valid.1)
fields_back (run_to address) ignored valid so_many = ap run_to (from_le_bytes-to_le_bytes_4 address valid)
fields_back clear_events ignored valid so_many = refl

command_back : (body : List ℕ) (command : Command) → IsCommandBody command body → command_of body ≡ command
command_back body command belongs =
    ap command_of belongs.made ∙ fields_back command belongs.ignored belongs.valid belongs.so_many

-- a body that belongs to a command belongs to the one that is read off it
pub command_belongs_back : (body : List ℕ) (command : Command) → IsCommandBody command body
    → IsCommandBody (command_of body) body
command_belongs_back body command belongs =
    subst (λ (c : Command). IsCommandBody c body) (sym (command_back body command belongs)) belongs

pub one_command : (body : List ℕ) (command other : Command) → IsCommandBody command body
    → IsCommandBody other body → command ≡ other
one_command body command other belongs other_belongs =
    sym (command_back body command belongs) ∙ command_back body other other_belongs

no_bytes : IsBytes []
no_bytes i = lit< tt

pub one_byte : (byte : ℕ) → byte < 256 → IsBytes (byte ∷ [])
one_byte byte fits zero = fits
one_byte byte fits (suc i) = lit< tt

written_bytes : (command : Command) → IsBytes (ignored_written command)
written_bytes sign_off = no_bytes
written_bytes get_sign_on = no_bytes
written_bytes (set_parameter id value) = no_bytes
written_bytes (get_parameter id) = no_bytes
written_bytes (write_memory kind address bytes) = no_bytes
written_bytes (read_memory kind count address) = no_bytes
written_bytes (write_pc address) = no_bytes
written_bytes read_pc = no_bytes
written_bytes go = no_bytes
written_bytes single_step = no_bytes
written_bytes forced_stop = one_byte 1 (lit< tt)
written_bytes reset = one_byte 1 (lit< tt)
written_bytes (set_device_descriptor bytes) = no_bytes
written_bytes (erase_page address) = no_bytes
written_bytes get_sync = no_bytes
written_bytes chip_erase = no_bytes
written_bytes enter_programming = no_bytes
written_bytes leave_programming = no_bytes
written_bytes (set_break kind number address) = one_byte 0 (lit< tt)
written_bytes (clear_break number address) = no_bytes
written_bytes (run_to address) = no_bytes
written_bytes clear_events = no_bytes

so_many_written : (command : Command) → Contains (ignored_lengths command) (length (ignored_written command))
so_many_written sign_off = (0, lit< tt, refl)
so_many_written get_sign_on = (0, lit< tt, refl)
so_many_written (set_parameter id value) = (0, lit< tt, refl)
so_many_written (get_parameter id) = (0, lit< tt, refl)
so_many_written (write_memory kind address bytes) = (0, lit< tt, refl)
so_many_written (read_memory kind count address) = (0, lit< tt, refl)
so_many_written (write_pc address) = (0, lit< tt, refl)
so_many_written read_pc = (0, lit< tt, refl)
so_many_written go = (0, lit< tt, refl)
so_many_written single_step = (0, lit< tt, refl)
so_many_written forced_stop = (1, lit< tt, refl)
so_many_written reset = (1, lit< tt, refl)
so_many_written (set_device_descriptor bytes) = (0, lit< tt, refl)
so_many_written (erase_page address) = (0, lit< tt, refl)
so_many_written get_sync = (0, lit< tt, refl)
so_many_written chip_erase = (0, lit< tt, refl)
so_many_written enter_programming = (0, lit< tt, refl)
so_many_written leave_programming = (0, lit< tt, refl)
so_many_written (set_break kind number address) = (0, lit< tt, refl)
so_many_written (clear_break number address) = (0, lit< tt, refl)
so_many_written (run_to address) = (0, lit< tt, refl)
so_many_written clear_events = (0, lit< tt, refl)

-- the body that this project's writer makes belongs to its command
pub written_belongs : (command : Command) → IsCommand command
    → IsCommandBody command (command_body command (ignored_written command))
written_belongs command valid = record {
  valid = valid;
  ignored = ignored_written command;
  any_bytes = written_bytes command;
  so_many = so_many_written command;
  made = refl;
}

-- the refusal of a code
abbrev pub refusal_of : ℕ → Refusal
refusal_of code =
    if code == 0xA0 then Failed
    else if code == 0xA1 then IllegalParameter
    else if code == 0xA2 then IllegalMemoryType
    else if code == 0xA3 then IllegalMemoryRange
    else if code == 0xA5 then IllegalMcuState
    else if code == 0xA6 then IllegalValue
    else if code == 0xA8 then IllegalBreakpoint
    else IllegalCommand

abbrev pub all_but_last : List ℕ → List ℕ
all_but_last bytes = take (length bytes - 1) bytes

-- the response of a code and what is behind it
abbrev pub response_at : ℕ → List ℕ → Response
response_at code rest =
    if code == 0x80 then okay
    else if code == 0x81 then parameter rest
    else if code == 0x82 then memory rest
    else if code == 0x84 then program_counter (number_at 0 rest)
    else if code == 0x86 then signed_on (take 15 rest) (all_but_last (drop 15 rest))
    else refused (refusal_of code)

-- the response of a body that has one
abbrev pub response_of : List ℕ → Response
response_of [] = okay
response_of (code ∷ rest) = response_at code rest

take-front : (xs ys : List ℕ) (n : ℕ) → n ≡ length xs → take n (xs ++ ys) ≡ xs
take-front xs ys n same = rw same (take-append_seam xs ys)

drop-front : (xs ys : List ℕ) (n : ℕ) → n ≡ length xs → drop n (xs ++ ys) ≡ ys
drop-front xs ys n same = rw same (drop-append_seam xs ys)

sign_on_back : (head name : List ℕ) → length head ≡ 15
    → response_at 0x86 ((head ++ name) ++ 0x00 ∷ []) ≡ signed_on head name
sign_on_back head name fifteen =
    let rest : List ℕ = (head ++ name) ++ 0x00 ∷ [] in
    let parted : rest ≡ head ++ (name ++ 0x00 ∷ []) = append_assoc head name (0x00 ∷ []) in
    let front : take 15 rest ≡ head = ap (take 15) parted ∙ take-front head (name ++ 0x00 ∷ []) 15 (sym fifteen) in
    let behind : drop 15 rest ≡ name ++ 0x00 ∷ [] = ap (drop 15) parted ∙ drop-front head (name ++ 0x00 ∷ []) 15 (sym fifteen) in
    let named : all_but_last (drop 15 rest) ≡ name =
    ap all_but_last behind ∙ take-front name (0x00 ∷ []) _ (omega (arith, length-append name (0x00 ∷ []))) in
    ap (λ (xs : List ℕ). signed_on xs (all_but_last (drop 15 rest))) front ∙ ap (signed_on head) named

refusal_back : (refusal : Refusal) → response_of (refusal_code refusal ∷ []) ≡ refused refusal
refusal_back Failed = refl
refusal_back IllegalParameter = refl
refusal_back IllegalMemoryType = refl
refusal_back IllegalMemoryRange = refl
refusal_back IllegalMcuState = refl
refusal_back IllegalValue = refl
refusal_back IllegalBreakpoint = refl
refusal_back IllegalCommand = refl

response_back : (response : Response) → IsResponse response → response_of (response_body response) ≡ response
response_back okay valid = refl
response_back (parameter bytes) valid = refl
response_back (memory bytes) valid = refl
response_back (program_counter address) valid = ap program_counter (from_le_bytes-to_le_bytes_4 address valid)
response_back (signed_on head name) valid = sign_on_back head name valid.2
response_back (refused refusal) valid = refusal_back refusal

-- a body that belongs to a response belongs to the one that is read off it
pub response_belongs_back : (body : List ℕ) (response : Response) → IsResponseBody response body
    → IsResponseBody (response_of body) body
response_belongs_back body response belongs =
    let same : response ≡ response_of body =
    sym (response_back response belongs.0) ∙ ap response_of (sym belongs.1) in
    subst (λ (r : Response). IsResponseBody r body) same belongs

pub one_response : (body : List ℕ) (response other : Response) → IsResponseBody response body
    → IsResponseBody other body → response ≡ other
one_response body response other belongs other_belongs =
    sym (response_back response belongs.0)
    ∙ ap response_of (sym belongs.1 ∙ other_belongs.1)
    ∙ response_back other other_belongs.0

-- the event of a body that has one
abbrev pub event_of : List ℕ → Event
event_of body = break_at (number_at 1 body) (slice_index body 5)

event_back : (event : Event) → IsEvent event → event_of (event_body event) ≡ event
event_back (break_at address cause) valid =
    ap (λ (n : ℕ). break_at n cause) (from_le_bytes-to_le_bytes_4 address valid.0)

-- a body that belongs to an event belongs to the one that is read off it
pub event_belongs_back : (body : List ℕ) (event : Event) → IsEventBody event body → IsEventBody (event_of body) body
event_belongs_back body event belongs =
    let same : event ≡ event_of body = sym (event_back event belongs.0) ∙ ap event_of (sym belongs.1) in
    subst (λ (e : Event). IsEventBody e body) same belongs

pub one_event : (body : List ℕ) (event other : Event) → IsEventBody event body → IsEventBody other body → event ≡ other
one_event body event other belongs other_belongs =
    sym (event_back event belongs.0) ∙ ap event_of (sym belongs.1 ∙ other_belongs.1) ∙ event_back other other_belongs.0
