-- What a replay makes of a session: the bytes taken are replayed, or cut short behind a frame, and the line ends.
use Rattle.std.specs.Prelude.{◌≡◌, ℕ, Bool, true, false, not, List, ◌++◌}
use Rattle.part_spec.specs.Chip.{Chip}
use Rattle.line_spec.specs.Frames.{IsPartial}
use Rattle.debug_spec.specs.Debugger.{closed, is_out, listens}
use Rattle.debug_spec.specs.Replay.{bytes_sent, settled}
use Rattle.debug_spec.specs.Schedule.{Session, line_ended}
use Rattle.debug_spec.specs.TakeReplays.{IsReplayed, settled_then}
use Rattle.ice_replay.specs.Steps.{IsStep}
use Rattle.ice_replay.specs.declared.settle.Came.TheVariants.{Frame}

-- the bytes are replayed whole; the session is closed with them, or less than a frame is held
pub record IsWhole (signed : Bool) (part : Chip) (stops bytes : List ℕ) (before after : Session) : Type 0 where
  pub replayed : IsReplayed true part stops bytes before after
  pub open_till : listens after.state.mode ≡ not signed
  pub partial : listens after.state.mode ≡ true → IsPartial after.held
  pub quiet : settled true part stops after.state ≡ after.state

-- the last of them complete a frame, with which they are used; these bytes were sent ahead of it
pub record Completes (part : Chip) (stops bytes ahead : List ℕ) (before after : Session) : Type 0 where
  pub first : List ℕ
  pub used : List ℕ
  pub left : List ℕ
  pub split : bytes ≡ first ++ used
  pub middle : Session
  pub replayed : IsReplayed true part stops first before middle
  pub step : IsStep Frame part stops used left middle after
  pub sent : bytes_sent middle.state ≡ bytes_sent before.state ++ ahead

-- a session is closed with that frame, which stopped a run or not
pub record ClosesWhile (stopped : Bool) (part : Chip) (stops bytes : List ℕ) (before after : Session) : Type 0 where
  pub replayed : IsReplayed true part stops bytes before after
  pub ahead : List ℕ
  pub completes : Completes part stops bytes ahead before after
  pub was : is_out completes.middle.state.mode ≡ stopped

-- they are cut short behind that frame; where the session is closed with it and not restored, a run was stopped for it, and so the reply
-- to it came first
pub record IsCut (part : Chip) (stops bytes ahead : List ℕ) (before after : Session) : Type 0 where
  pub completes : Completes part stops bytes ahead before after
  pub cause : after.state.mode ≡ closed false → is_out completes.middle.state.mode ≡ true

-- and then the line ends
pub record Ends (part : Chip) (stops : List ℕ) (Goes : Session → Session → Type 0) (before after : Session) : Type 0 where
  pub between : Session
  pub goes : Goes before between
  pub is : after.state ≡ (settled_then true part stops (line_ended part between)).state
