-- What the code's messages stand for, and what a reader of bodies answers.
use Rattle.std.specs.Prelude.{ℕ, List, Result, Ok, Err}
use Rattle.line_spec.specs.Messages.{Command as Asked, sign_off, get_sign_on, set_parameter, get_parameter, write_memory, read_memory, write_pc, read_pc, go, single_step, forced_stop, reset, set_device_descriptor, erase_page, get_sync, set_break, chip_erase, enter_programming, leave_programming, clear_break, run_to, clear_events, command_codes, IsCommandBody, IsNoCommand, HasCode, Response as Answered, okay, parameter, memory, program_counter, signed_on, refused, response_codes, IsResponseBody, IsNoResponse, Event as Told, break_at, event_codes, IsEventBody, IsNoEvent}
use Rattle.ice_msg.specs.declared.command.Command.{Command}
use Rattle.ice_msg.specs.declared.command.Command.TheVariants.{SignOff, GetSignOn, SetParameter, GetParameter, WriteMemory, ReadMemory, WritePc, ReadPc, Go, SingleStep, ForcedStop, Reset, SetDeviceDescriptor, ErasePage, GetSync, SetBreak, ChipErase, EnterProg, LeaveProg, ClrBreak, RunTo, ClearEvents}
use Rattle.ice_msg.specs.declared.response.Response.{Response}
use Rattle.ice_msg.specs.declared.response.Response.TheVariants.{Okay, Parameter, Memory, Pc, SignOn, Refused}
use Rattle.ice_msg.specs.declared.event.Event.{Event}
use Rattle.ice_msg.specs.declared.event.Event.TheVariants.{Break}
use Rattle.ice_msg.specs.declared.bad.Bad.{Bad}
use Rattle.ice_msg.specs.declared.bad.Bad.TheVariants.{Code, Length}

-- the command that the code's value stands for
abbrev pub asked : Command → Asked
asked SignOff = sign_off
asked GetSignOn = get_sign_on
asked (SetParameter id value) = set_parameter id value.now
asked (GetParameter id) = get_parameter id
asked (WriteMemory kind address bytes) = write_memory kind address bytes.now
asked (ReadMemory kind count address) = read_memory kind count address
asked (WritePc address) = write_pc address
asked ReadPc = read_pc
asked Go = go
asked SingleStep = single_step
asked ForcedStop = forced_stop
asked Reset = reset
asked (SetDeviceDescriptor bytes) = set_device_descriptor bytes.now
asked (ErasePage address) = erase_page address
asked GetSync = get_sync
asked (SetBreak kind number address) = set_break kind number address
asked ChipErase = chip_erase
asked EnterProg = enter_programming
asked LeaveProg = leave_programming
asked (ClrBreak number address) = clear_break number address
asked (RunTo address) = run_to address
asked ClearEvents = clear_events

-- the response that the code's value stands for
abbrev pub answered : Response → Answered
answered Okay = okay
answered (Parameter bytes) = parameter bytes.now
answered (Memory bytes) = memory bytes.now
answered (Pc address) = program_counter address
answered (SignOn reply) = signed_on reply.head reply.name.now
answered (Refused refusal) = refused refusal

-- the event that the code's value stands for
abbrev pub told : Event → Told
told (Break pc cause) = break_at pc cause

-- the answer of a reader of commands: the command of the body, no such code, or no such length
abbrev pub ReadsCommand : List ℕ → Result Command Bad → Type 0
ReadsCommand body (Ok command) = IsCommandBody (asked command) body
ReadsCommand body (Err Code) = HasCode command_codes body → ⊥
ReadsCommand body (Err Length) = HasCode command_codes body × IsNoCommand body

-- the answer of a reader of responses, likewise
abbrev pub ReadsResponse : List ℕ → Result Response Bad → Type 0
ReadsResponse body (Ok response) = IsResponseBody (answered response) body
ReadsResponse body (Err Code) = HasCode response_codes body → ⊥
ReadsResponse body (Err Length) = HasCode response_codes body × IsNoResponse body

-- the answer of a reader of events, likewise
abbrev pub ReadsEvent : List ℕ → Result Event Bad → Type 0
ReadsEvent body (Ok event) = IsEventBody (told event) body
ReadsEvent body (Err Code) = HasCode event_codes body → ⊥
ReadsEvent body (Err Length) = HasCode event_codes body × IsNoEvent body
