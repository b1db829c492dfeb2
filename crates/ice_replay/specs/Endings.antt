-- How a replay ends: what was read, what was written, and what the book makes of it.
use Rattle.std.specs.Prelude.{◌≡◌, ◌⊎◌, ℕ, ◌%◌, ◌^◌, Bool, true, false, not, if◌then◌else◌, List, [], ◌++◌, length}
use Rattle.std.specs.Io.KnownBytes.{Appends, IsAtEnd}
use Rattle.part_spec.specs.declared.part.Part.{Part}
use Rattle.part_spec.specs.Chip.{Chip, chip_of}
use Rattle.line_spec.specs.Cut.{Item}
use Rattle.ice_base.specs.Counts.{Rose}
use Rattle.debug_spec.specs.Device.{Outcome, Asked, Device}
use Rattle.debug_spec.specs.PageLaws.{AreAnswered}
use Rattle.debug_spec.specs.Moved.{Flash, Moved}
use Rattle.debug_spec.specs.Debugger.{Mode, stopped, launching, running, programming, leaving, closed, Debugger, opened, is_out, listens}
use Rattle.debug_spec.specs.Replay.{IsReplay, IsReplayCutShort, bytes_sent, totals}
use Rattle.debug_spec.specs.Schedule.{Session, line_ended}
use Rattle.debug_spec.specs.TakeReplays.{IsReplayed, settled_then}
use Rattle.run_control.specs.declared.inline.Inline.{Inline}
use Rattle.run_control.specs.declared.job.Job.{Job}
use Rattle.ice_emul.specs.Standing.{StandsFor, held}
use Rattle.ice_emul.specs.declared.emulator.Emulator.{Emulator}
use Rattle.ice_emul.specs.declared.session.Totals.{Totals}
use Rattle.ice_replay.specs.Keeping.{Place}
use Rattle.ice_replay.specs.Steps.{Continues}
use Rattle.ice_line.specs.Lines.{Line, IsStill}
use Rattle.ice_line.specs.Reads.{IsRead, input_limit}
use Rattle.ice_replay.specs.Lines.{WritesPast, WritesLate}
use Rattle.ice_replay.specs.Replaying.{IsWhole, Completes, IsCut, Ends}
use Rattle.ice_replay.specs.Chunks.{TakesSome}
use Rattle.ice_replay.specs.declared.session.End.{End}
use Rattle.ice_replay.specs.declared.session.End.TheVariants.{Okay, Flash as Fault, Read, Write, TooLong}
use Rattle.ice_replay.specs.declared.session.Replayed.{Replayed}

-- the session is closed
abbrev pub is_closed : Mode → Bool
is_closed stopped = false
is_closed (launching number) = false
is_closed running = false
is_closed programming = false
is_closed leaving = false
is_closed (closed restored) = true

-- the line ends, and nothing is sent
abbrev pub LineEnds : {F : Type 0} → Flash F → (F → Part) → Place F → Emulator F → Inline F → Type 0
LineEnds flash part_of p e r = Continues flash part_of
    (λ s t. t.state ≡ (settled_then true (chip_of p.emulator.tool.plan.part) p.runner.stops.items
    (line_ended (chip_of p.emulator.tool.plan.part) s)).state)
    p [] e r

-- a session that ended for this, unless a page could not be written where nothing came before
abbrev pub EndsWith : End → End → Mode → Type 0
EndsWith Okay end mode = (restored : Bool) × (mode ≡ closed restored) × (end ≡ (if restored then Okay else Fault))
EndsWith Fault end mode = (is_closed mode ≡ true) × (end ≡ Fault)
EndsWith Read end mode = (is_closed mode ≡ true) × (end ≡ Read)
EndsWith Write end mode = (is_closed mode ≡ true) × (end ≡ Write)
EndsWith TooLong end mode = (is_closed mode ≡ true) × (end ≡ TooLong)

-- whole, with the session closed by its bytes or not; or cut short; and then the line ends
abbrev pub Whole : Bool → Chip → List ℕ → List ℕ → Session → Session → Type 0
Whole signed part stops bytes = Ends part stops (IsWhole signed part stops bytes)

abbrev pub Cut : (ahead : List ℕ) → Chip → List ℕ → List ℕ → Session → Session → Type 0
Cut ahead part stops bytes = Ends part stops (IsCut part stops bytes ahead)

-- the frame with which a session is closed came while no run was out: what it is answered came behind the closing restore
abbrev pub IsClosedAtHome : Chip → (stops bytes : List ℕ) → Session → Type 0
IsClosedAtHome part stops bytes s = (ahead : List ℕ) × (after : Session) × (c : Completes part stops bytes ahead s after) ×
    (is_out c.middle.state.mode ≡ false)

-- whole, and where it is late, so
pub record WholeOrLate (signed late : Bool) (part : Chip) (stops bytes : List ℕ) (before after : Session) : Type 0 where
  pub whole : Whole signed part stops bytes before after
  pub late_at_home : late ≡ true → IsClosedAtHome part stops bytes before

-- what was read and written of the line, and whose calls failed, by why it ended: at its end or with an answered sign-off, at a failed read, with a byte more than
-- a session takes, or where not all could be written
abbrev pub EndsLine : End → (signed late : Bool) → (before after : Line) → (bytes extra ahead out : List ℕ) → Type 0
EndsLine Okay signed late before after bytes extra ahead out =
    Appends before.written after.written out × ((signed ≡ true) ⊎ ((extra ≡ []) × IsAtEnd after.left)) ×
    IsStill before.source_faults after.source_faults × IsStill before.sink_faults after.sink_faults
EndsLine Fault signed late before after bytes extra ahead out =
    WritesLate late before.written after.written before.sink_faults after.sink_faults out × (late ≡ true → signed ≡ true) ×
    ((signed ≡ true) ⊎ ((extra ≡ []) × IsAtEnd after.left)) × IsStill before.source_faults after.source_faults
EndsLine Read signed late before after bytes extra ahead out = Appends before.written after.written out × (signed ≡ false) × (extra ≡ []) ×
    Rose before.source_faults after.source_faults × IsStill before.sink_faults after.sink_faults
EndsLine Write signed late before after bytes extra ahead out = (more : List ℕ) × (out ≡ ahead ++ more) ×
    WritesPast before.written after.written before.sink_faults after.sink_faults ahead more × IsStill before.source_faults after.source_faults
EndsLine TooLong signed late before after bytes extra ahead out = Appends before.written after.written out × (signed ≡ false) ×
    (length bytes ≡ input_limit) × (length extra ≡ 1) × IsStill before.source_faults after.source_faults ×
    IsStill before.sink_faults after.sink_faults

-- and where the session then is
abbrev pub ClosesBy : End → Mode → Type 0
ClosesBy Okay mode = mode ≡ closed true
ClosesBy Fault mode = mode ≡ closed false
ClosesBy Read mode = is_closed mode ≡ true
ClosesBy Write mode = is_closed mode ≡ true
ClosesBy TooLong mode = is_closed mode ≡ true

-- a run over the whole line: what is kept goes on by what its end says of sessions
abbrev pub GoesBy : End → (signed late : Bool) → (ahead : List ℕ) → Chip → List ℕ → List ℕ → Session → Session → Type 0
GoesBy Okay signed late ahead = Whole signed
GoesBy Fault signed late ahead = WholeOrLate signed late
GoesBy Read signed late ahead = Whole signed
GoesBy Write signed late ahead = Cut ahead
GoesBy TooLong signed late ahead = Whole signed

pub record EndsRun {F : Type 0} (flash : Flash F) (part_of : F → Part) (end : End) (p : Place F) (before after : Line) (e : Emulator F)
    (r : Inline F) : Type 0 where
  pub bytes : List ℕ
  pub extra : List ℕ
  pub ahead : List ℕ
  pub out : List ℕ
  pub signed : Bool
  pub late : Bool
  pub takes : TakesSome flash part_of (GoesBy end signed late ahead) p bytes out e r
  pub read : IsRead before after bytes extra
  pub line : EndsLine end signed late before after bytes extra ahead out
  pub closes : ClosesBy end e.tool.mode

-- a replay that is cut short behind a frame, which the last of the bytes completes
abbrev pub IsCutBehind : Chip → (stops prog : List ℕ) → Device → (bytes : List ℕ) → List Item → Debugger → Type 0
IsCutBehind part stops prog device bytes items end =
    (cut : IsReplayCutShort true part stops prog device bytes items end) × (cut.left ≡ [])

-- the book's replay of a program on a device over these bytes: whole, or cut short behind the frame that was not answered
abbrev pub ReplaysBy : End → Chip → (stops prog : List ℕ) → Device → (bytes : List ℕ) → Debugger → Type 0
ReplaysBy Okay part stops prog device bytes end = IsReplay true part stops prog device bytes end
ReplaysBy Fault part stops prog device bytes end = IsReplay true part stops prog device bytes end
ReplaysBy Read part stops prog device bytes end = IsReplay true part stops prog device bytes end
ReplaysBy Write part stops prog device bytes end = (items : List Item) × IsCutBehind part stops prog device bytes items end
ReplaysBy TooLong part stops prog device bytes end = IsReplay true part stops prog device bytes end

-- a session that was opened so is closed by these bytes, or listens behind them
abbrev pub SignsOff : (signed : Bool) → Chip → (stops prog : List ℕ) → Device → (bytes : List ℕ) → Type 0
SignsOff signed part stops prog device bytes = (between : Session) ×
    IsReplayed true part stops bytes (record { held = []; state = opened part prog device }) between ×
    (listens between.state.mode ≡ not signed)

-- where the bytes were replayed whole; a reply that failed behind a closing restore that failed is the one to a sign-off at home, and one
-- that cut the session short came ahead of a restore that failed, and behind all that was sent ahead of its frame
abbrev pub SignsBy : End → (signed late : Bool) → (ahead : List ℕ) → Chip → (stops prog : List ℕ) → Device → (bytes : List ℕ) → Type 0
SignsBy Okay signed late ahead part stops prog device bytes = SignsOff signed part stops prog device bytes
SignsBy Fault signed late ahead part stops prog device bytes = SignsOff signed part stops prog device bytes ×
    (late ≡ true → IsClosedAtHome part stops bytes (record { held = []; state = opened part prog device }))
SignsBy Read signed late ahead part stops prog device bytes = SignsOff signed part stops prog device bytes
SignsBy Write signed late ahead part stops prog device bytes =
    (after : Session) × IsCut part stops bytes ahead (record { held = []; state = opened part prog device }) after
SignsBy TooLong signed late ahead part stops prog device bytes = SignsOff signed part stops prog device bytes

-- the totals of a session; the count of dropped bytes modulo 2^64
abbrev pub AreTotals : Totals → Debugger → Type 0
AreTotals given end = (given.cycles ≡ (totals end).cycles) × (given.steps ≡ (totals end).steps) × (given.writes ≡ (totals end).writes) ×
    (given.dropped ≡ (totals end).dropped % 2 ^ 64)

-- a replay of the line: there are asks by which the flash moved, and for each program and device of which the emulator was the opened
-- session, whose outcomes answer them, the book's replay comes to an end with these bytes sent, these asks made, and the words of this
-- flash
pub record Replays {F : Type 0} (flash : Flash F) (part_of : F → Part) (e : Emulator F) (own : Job F) (stops : List ℕ)
    (result : Replayed F) (before after : Line) : Type 0 where
  pub bytes : List ℕ
  pub extra : List ℕ
  pub ahead : List ℕ
  pub out : List ℕ
  pub signed : Bool
  pub late : Bool
  pub read : IsRead before after bytes extra
  pub line : EndsLine result.end signed late before after bytes extra ahead out
  pub asks : List Asked
  pub moved : Moved flash own.flash asks result.flash
  pub leads : let part = chip_of e.tool.plan.part in (prog : List ℕ) (device : Device) (left : List Outcome) →
      StandsFor flash (held e own) (record { held = []; state = opened part prog device }) →
      AreAnswered (opened part prog device).device.outcomes asks left →
      (end : Debugger) × ReplaysBy result.end part stops prog device bytes end × ClosesBy result.end end.mode ×
      SignsBy result.end signed late ahead part stops prog device bytes × (bytes_sent end ≡ out) ×
      (end.device.outcomes ≡ left) × (end.device.asked ≡ (opened part prog device).device.asked ++ asks) ×
      (end.device.words ≡ flash.words result.flash) × AreTotals result.totals end
