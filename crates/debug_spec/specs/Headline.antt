-- The headline: what the host sees of the debugger that plants breakpoints in the device is what it would see of one whose target runs
-- the program as last programmed, until the program takes a planted word as an operand or as data; and a session that closes leaves
-- that program in the device.
--
-- It holds of every part, program, device and list of its outcomes, whether the session opened or not; of every line of bytes however
-- it is cut, every list of steps behind which a run is forced to end, and every schedule of notes with every end that its runs may have.
use Rattle.std.specs.Prelude.{◌≡◌, ℕ, true, false, List, length}
use Rattle.std.specs.List.{All}
use Rattle.part_spec.specs.Chip.{Chip, words_of}
use Rattle.debug_spec.specs.Device.{Device}
use Rattle.debug_spec.specs.Debugger.{Debugger, opened}
use Rattle.debug_spec.specs.Replay.{IsReplay}
use Rattle.debug_spec.specs.Schedule.{Session, Note}
use Rattle.debug_spec.specs.SessionLaws.{IsFit, is_closed, LeavesProgram}
use Rattle.debug_spec.specs.Opening.{opening}
use Rattle.debug_spec.specs.CleanSessions.{clean_session, clean_frames, SendsFirst}
use Rattle.debug_spec.specs.Passes.{Passes, PassesAlike}

-- the ends of two sessions over one line, of the patched debugger and of the plain one:
pub record EndsAgree (part : Chip) (stops prog : List ℕ) (device : Device) (bytes : List ℕ) (patched plain : Debugger)
    (k : IsReplay false part stops prog device bytes plain) : Type 0 where
  -- where all runs of the plain one are clean, they are equal: in the frames sent, the target, the totals, and in what was asked of the
  -- device and what it holds
  pub clean : clean_session part stops k.heard k.rest (opened part prog device) ≡ true → patched ≡ plain
  -- in any case both have sent the same frames, and their bytes, up to and with the reply that starts the first run that is not clean
  pub first : let frames = clean_frames part stops k.heard k.rest (opened part prog device) in
      SendsFirst frames patched × SendsFirst frames plain
  -- both are closed
  pub closed : (is_closed patched.mode ≡ true) × (is_closed plain.mode ≡ true)
  -- and where its closing restore did not fail, the device of each holds its program
  pub leaves : LeavesProgram device patched × LeavesProgram device plain

-- over bytes: the program has the words of the part, and so does the device, of which each page write that fails leaves the words of a page
abbrev pub ReplaysAgree : Type 0
ReplaysAgree = (part : Chip) (stops prog : List ℕ) (device : Device) (bytes : List ℕ) (patched plain : Debugger) →
    length prog ≡ words_of part → IsFit part device →
    IsReplay true part stops prog device bytes patched → (k : IsReplay false part stops prog device bytes plain) →
    EndsAgree part stops prog device bytes patched plain k

-- over notes: the sessions that the patched debugger passes are those of the plain one, note by note, up to the first run that is not
-- clean; and whichever of them is closed, clean or not, leaves the program in the device where its restore did not fail
abbrev pub SchedulesAgree : Type 0
SchedulesAgree = (part : Chip) (prog : List ℕ) (device : Device) (notes : List Note) (sessions : List Session) →
    length prog ≡ words_of part → IsFit part device →
    Passes true part notes (opening part prog device) sessions →
    PassesAlike part notes (opening part prog device) sessions × All (λ (s : Session). LeavesProgram device s.state) sessions
