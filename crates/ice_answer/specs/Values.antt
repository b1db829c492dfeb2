-- What the code's values stand for in the book.
use Rattle.std.specs.Prelude.{Option, Some, None, Result, Ok, Err}
use Rattle.line_spec.specs.Hearing.{Request, asks, unknown_code, wrong_length}
use Rattle.debug_spec.specs.Stop.{Cause as Why, breakpoint, forced, by_step, by_reset, own_break, undefined, failed_write}
use Rattle.debug_spec.specs.Debugger.{Mode as BookMode, stopped, launching, running, programming, leaving, closed}
use Rattle.debug_spec.specs.MemoryTypes.{Memory as Holds, data_space, io_space, program, fuses, lock_bits, signature}
use Rattle.ice_msg.specs.Reading.{asked}
use Rattle.ice_msg.specs.declared.command.Command.{Command}
use Rattle.ice_msg.specs.declared.bad.Bad.{Bad}
use Rattle.ice_msg.specs.declared.bad.Bad.TheVariants.{Code, Length}
use Rattle.ice_answer.specs.declared.cause.Cause.{Cause}
use Rattle.ice_answer.specs.declared.cause.Cause.TheVariants.{Breakpoint, Forced, SingleStep, Restarted, OwnBreak, Undefined, FailedWrite}
use Rattle.ice_answer.specs.declared.memory.Memory.{Memory}
use Rattle.ice_answer.specs.declared.memory.Memory.TheVariants.{DataSpace, IoSpace, Program, Fuses, LockBits, Signature}
use Rattle.ice_answer.specs.declared.mode.Mode.{Mode}
use Rattle.ice_answer.specs.declared.mode.Mode.TheVariants.{Stopped, Launching, Running, Programming, Leaving, Closed}

-- a cause
abbrev pub why_of : Cause → Why
why_of Breakpoint = breakpoint
why_of Forced = forced
why_of SingleStep = by_step
why_of Restarted = by_reset
why_of OwnBreak = own_break
why_of Undefined = undefined
why_of FailedWrite = failed_write

-- a cause that may not be there
abbrev pub whys_of : Option Cause → Option Why
whys_of None = None
whys_of (Some cause) = Some (why_of cause)

-- a mode
abbrev pub mode_of : Mode → BookMode
mode_of Stopped = stopped
mode_of (Launching number) = launching number
mode_of Running = running
mode_of Programming = programming
mode_of Leaving = leaving
mode_of (Closed restored) = closed restored

-- the request that a reader of bodies answered
abbrev pub request_of : Result Command Bad → Request
request_of (Ok command) = asks (asked command)
request_of (Err Code) = unknown_code
request_of (Err Length) = wrong_length

-- a memory
abbrev pub memory_of : Memory → Holds
memory_of DataSpace = data_space
memory_of IoSpace = io_space
memory_of Program = program
memory_of Fuses = fuses
memory_of LockBits = lock_bits
memory_of Signature = signature

-- a memory that may not be there
abbrev pub memories_of : Option Memory → Option Holds
memories_of None = None
memories_of (Some memory) = Some (memory_of memory)
