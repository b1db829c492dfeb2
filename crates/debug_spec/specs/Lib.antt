-- planted words, and runs of the target under them
pub mod Patch
pub mod Stop
pub mod Run
pub mod Clean
pub mod RunLaws
pub mod CleanLaws
-- page writes and what comes of them
pub mod Device
pub mod Programming
pub mod PageLaws
pub mod Moved
-- the debugger: its state, and what each event does
pub mod Debugger
pub mod Running
pub mod Breakpoints
pub mod MemoryTypes
pub mod Commands
-- sessions: over a line alone, and over notes
pub mod Replay
pub mod Schedule
pub mod SessionLaws
pub mod Opening
-- sessions as one makes them who takes bytes and moves a flash
pub mod Take
pub mod TakeLaws
pub mod TakeReplays
pub mod Carries
-- what is open in a schedule, sessions whose bytes cannot be sent on, and what pins a schedule down
pub mod ScheduleEnds
pub mod CutShort
pub mod CutShortLaws
pub mod Pinned
-- break events, and what asks a run to stop
pub mod Events
-- the patched debugger and the plain one
pub mod CleanSessions
pub mod DeviceRuns
pub mod Looks
pub mod ServedAlike
pub mod Passes
-- the headline
pub mod Headline
-- what only the sessions worked by hand use
pub mod inside
