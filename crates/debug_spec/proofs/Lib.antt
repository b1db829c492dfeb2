-- sets of planted addresses, and runs under them
pub mod Sets
pub mod CleanExact
pub mod StepAlike
pub mod RunEnds
pub mod RunAlike
pub mod DeviceRunLemmas
pub mod LookLemmas
-- page writes, and what they keep
pub mod PageLemmas
pub mod Fits
pub mod ProgrammingLemmas
pub mod ProgrammingMoves
pub mod Moving
pub mod MovedLemmas
-- what each event of a session keeps, and whole sessions
pub mod Soundness
pub mod Sessions
pub mod Chunks
pub mod OneChunk
pub mod Hearings
pub mod EndsNow
-- sessions as one makes them who takes bytes and moves a flash
pub mod TakeLemmas
pub mod TakeChunks
pub mod TakeTotal
pub mod TakeReplayLemmas
pub mod CarriesLemmas
-- sessions that are cut short, what is open in a schedule, and what pins it down
pub mod JustTaken
pub mod CutShortLemmas
pub mod ScheduleCutLemmas
pub mod ScheduleEndLemmas
pub mod PinnedLemmas
-- break events
pub mod EventLemmas
-- the patched debugger and the plain one, to the headline
pub mod HeadlineLemmas
pub mod ServedLemmas
pub mod HeadlineProof
-- what the sessions worked by hand share
pub mod ServedRows
