-- A session that has begun and is replayed is one of the book, and ends so.
use Rattle.std.proofs.Common.{◌≡◌, ℕ, ◌<◌, ◌≤◌, ◌^◌, Bool, true, false, inl, inr, List, [], ◌++◌, map, Option}
use Rattle.std.proofs.Common.{refl, sym, ap, ◌∙◌, subst, append-nil, arith}
use Rattle.std.specs.Prelude.{length, codes}
use Rattle.part_spec.specs.declared.part.Part.{Part}
use Rattle.part_spec.specs.Chip.{Chip, chip_of, words_of}
use Rattle.debug_spec.specs.Device.{Outcome, IsOutcome, Asked, outcome_of, Device}
use Rattle.std.specs.List.{All}
use Rattle.debug_spec.specs.PageLaws.{AreAnswered}
use Rattle.debug_spec.specs.Moved.{Flash, Moved, asked_of}
use Rattle.debug_spec.specs.SessionLaws.{IsFit}
use Rattle.debug_spec.specs.Debugger.{Debugger, opened}
use Rattle.debug_spec.specs.Replay.{totals}
use Rattle.debug_spec.specs.Opening.{IsOpened}
use Rattle.debug_spec.proofs.MovedLemmas.{flash_moves, answers_go_on}
use Rattle.ice_base.specs.Counts.{Rose}
use Rattle.ice_emul.specs.Session.{Begins, DoesNotOpen}
use Rattle.ice_emul.specs.Standing.{StandsFor, held}
use Rattle.ice_emul.specs.declared.emulator.Emulator.{Emulator}
use Rattle.run_control.specs.declared.job.Job.{Job}
use Rattle.ice_emul.specs.declared.session.Totals.{Totals}
use Rattle.ice_line.specs.Lines.{Line, Writes}
use Rattle.ice_replay.specs.Endings.{EndsLine, AreTotals, Replays}
use Rattle.ice_replay.specs.declared.session.End.{End}
use Rattle.ice_replay.specs.declared.session.End.TheVariants.{Okay as Whole, Flash as Unrestored, Read as Unread, Write as Unsent}
use Rattle.ice_replay.specs.declared.session.End.TheVariants.{TooLong as Long}
use Rattle.ice_replay.specs.declared.session.Replayed.{Replayed}
use Rattle.ice_top.specs.Notes.{line, totals as totals_line}
use Rattle.ice_top.proofs.Dropping.{replay_drops, cut_drops}
use Rattle.ice_top.specs.declared.status.Status.{Status}
use Rattle.ice_top.specs.declared.status.Status.TheVariants.{Okay, Usage, Image, Loader, Read, Write, Flash as Unwritten, Memory, TooLong}
use Rattle.ice_top.specs.declared.status.Status.TheVariants.{NoThread, Link, Refuted}
use Rattle.ice_top.specs.Outside.{Ends, Noted}
use Rattle.ice_top.specs.Replays.{device_of, Session, FailsToOpen, DidNotBegin, line_of_totals, status_at, Ran}

-- a device is its words, what was asked of it, and the outcomes to come
pub device_by : (d : Device) (words : List ℕ) (asked : List Asked) (outcomes : List Outcome) → d.words ≡ words → d.asked ≡ asked →
    d.outcomes ≡ outcomes → d ≡ record { words = words; asked = asked; outcomes = outcomes }
device_by d words asked outcomes w a o =
    let by_words : List ℕ → Device = λ x. record { words = x; asked = d.asked; outcomes = d.outcomes } in
    let by_asked : List Asked → Device = λ x. record { words = words; asked = x; outcomes = d.outcomes } in
    let by_outcomes : List Outcome → Device = λ x. record { words = words; asked = asked; outcomes = x } in
    ap by_words w ∙ ap by_asked a ∙ ap by_outcomes o

-- the outcomes of a session's device answer its asks, with none left over
answered_all : (words : List ℕ) (asks : List Asked) → AreAnswered (device_of words asks).outcomes asks []
answered_all words asks =
    subst (λ (o : List Outcome). AreAnswered o asks []) (append-nil (map outcome_of asks)) (answers_go_on.own asks [])

-- a session that has begun, on a device with one outcome for each ask: the opening's and these later ones, which are made so
pub record Begun {F : Type 0} (flash : Flash F) (program : List ℕ) (from : F) (e : Emulator F) (own : Job F) (later : List Asked)
    (Moves : List Asked → Type 0) : Type 0 where
  pub asks : List Asked
  pub moved : Moves asks
  pub fit : IsFit (chip_of e.tool.plan.part) (device_of (flash.words from) asks)
  pub opens : IsOpened (chip_of e.tool.plan.part) program (device_of (flash.words from) asks)
  pub stands : StandsFor flash (held e own)
      (record { held = []; state = opened (chip_of e.tool.plan.part) program (device_of (flash.words from) asks) })
  pub answered : AreAnswered (opened (chip_of e.tool.plan.part) program (device_of (flash.words from) asks)).device.outcomes later []
  pub asked : (opened (chip_of e.tool.plan.part) program (device_of (flash.words from) asks)).device.asked ++ later ≡ asks

pub begun_so : {F : Type 0} (flash : Flash F) (part_of : F → Part) (program : List ℕ) (from : F) (e : Emulator F) →
    length (flash.words from) ≡ words_of (chip_of (part_of from)) → (begun : Begins flash part_of program from e) → (later : List Asked)
    (Moves : List Asked → Type 0) → Moves (begun.asks ++ later) → All IsOutcome (map outcome_of (begun.asks ++ later)) →
    Begun flash program from e begun.own later Moves
begun_so flash part_of program from e whole begun later Moves moved outcomes =
    let asks : List Asked = begun.asks ++ later in
    let device : Device = device_of (flash.words from) asks in
    let fit : IsFit (chip_of (part_of from)) device = record { size = whole; outcomes = outcomes } in
    let parts = answers_go_on.back device.outcomes [] begun.asks later (answered_all (flash.words from) asks) in
    let Stood : Part → Type 0 = λ p. StandsFor flash (held e begun.own) (record { held = []; state = opened (chip_of p) program device }) ×
    ((opened (chip_of p) program device).device ≡ asked_of device (flash.words begun.own.flash) begun.asks parts.0) in
    let stood : Stood e.tool.plan.part = subst Stood (sym begun.part) (begun.leads device parts.0 fit refl parts.1) in record {
      asks = asks;
      moved = moved;
      fit = subst (λ (p : Part). IsFit (chip_of p) device) (sym begun.part) fit;
      opens = subst (λ (p : Part). IsOpened (chip_of p) program device) (sym begun.part) (begun.opens device parts.0 refl parts.1);
      stands = stood.0;
      answered = subst (λ (o : List Outcome). AreAnswered o later []) (sym (ap (λ (d : Device). d.outcomes) stood.1)) parts.2;
      asked = ap (λ (d : Device). d.asked ++ later) stood.1;
    }

-- and the flash alone was moved
pub begun_on : {F : Type 0} (flash : Flash F) (part_of : F → Part) (program : List ℕ) (from : F) (e : Emulator F) →
    length (flash.words from) ≡ words_of (chip_of (part_of from)) → (begun : Begins flash part_of program from e) → (later : List Asked)
    (to : F) → Moved flash begun.own.flash later to → Begun flash program from e begun.own later (λ asks. Moved flash from asks to)
begun_on flash part_of program from e whole begun later to moved_later =
    let asks : List Asked = begun.asks ++ later in
    let moved : Moved flash from asks to = (flash_moves flash).onward from begun.own.flash to begun.asks later begun.moved moved_later in
    begun_so flash part_of program from e whole begun later (λ asks. Moved flash from asks to) moved
    ((flash_moves flash).fits from to asks moved)

module _ {F : Type 0} (flash : Flash F) (part_of : F → Part) (program stops : List ℕ) (from : F) (e : Emulator F) (result : Replayed F)
    (before after : Line) (size : length program ≡ words_of (chip_of (part_of from)))
    (whole : length (flash.words from) ≡ words_of (chip_of (part_of from))) (begun : Begins flash part_of program from e)
    (ran : Replays flash part_of e begun.own stops result before after) where
  abbrev Done : Part → Type 0
  Done p = (s : Session flash result.end (chip_of p) program stops before after from result.flash) × AreTotals result.totals s.last

  pub session : Done (part_of from)
  session =
      let on = begun_on flash part_of program from e whole begun ran.asks result.flash ran.moved in
      let led = ran.leads program (device_of (flash.words from) on.asks) [] on.stands on.answered in
      subst Done begun.part (
        record {
          asks = on.asks;
          moved = on.moved;
          size = size ∙ ap (λ (p : Part). words_of (chip_of p)) (sym begun.part);
          fit = on.fit;
          opens = on.opens;
          bytes = ran.bytes;
          extra = ran.extra;
          read = ran.read;
          signed = ran.signed;
          late = ran.late;
          ahead = ran.ahead;
          signs = led.3;
          last = led.0;
          replay = led.1;
          closes = led.2;
          sends = subst (λ (bytes : List ℕ). EndsLine result.end ran.signed ran.late before after ran.bytes ran.extra ran.ahead bytes)
              (sym led.4) ran.line;
          device = device_by led.0.device (flash.words result.flash) on.asks [] led.7 (led.6 ∙ on.asked) led.5;
        },
        led.8,
      )

-- it drops no more bytes than it took, so their count is whole
few_dropped : {F : Type 0} (flash : Flash F) (end : End) (part : Chip) (program stops : List ℕ) (before after : Line) (from to : F) →
    (s : Session flash end part program stops before after from to) → s.last.dropped ≤ length s.bytes
few_dropped flash Whole part program stops before after from to s = replay_drops part stops program _ s.bytes s.last s.replay
few_dropped flash Unrestored part program stops before after from to s = replay_drops part stops program _ s.bytes s.last s.replay
few_dropped flash Unread part program stops before after from to s = replay_drops part stops program _ s.bytes s.last s.replay
few_dropped flash Unsent part program stops before after from to s =
    cut_drops part stops program _ s.bytes s.replay.0 s.last s.replay.1.0
few_dropped flash Long part program stops before after from to s = replay_drops part stops program _ s.bytes s.last s.replay

-- the line of its totals
pub same_line : (given : Totals) (s : Debugger) → AreTotals given s → s.dropped < 2 ^ 64 →
    totals_line given.cycles given.steps given.writes given.dropped ≡ line_of_totals s
same_line given s t few =
    let whole : given.dropped ≡ s.dropped = omega (arith, t.3, few) in
    ap (λ (n : ℕ). totals_line n given.steps given.writes given.dropped) t.0 ∙
    ap (λ (n : ℕ). totals_line (totals s).cycles n given.writes given.dropped) t.1 ∙
    ap (λ (n : ℕ). totals_line (totals s).cycles (totals s).steps n given.dropped) t.2 ∙
    ap (λ (n : ℕ). totals_line (totals s).cycles (totals s).steps (totals s).writes n) whole

-- what was put is noted, or a front of it with a cause
pub Noted-writes : (all : Bool) (before after : Option (List ℕ)) (faults faults_after : ℕ) (text : List ℕ) →
    Writes all before after faults faults_after text → Noted before after faults faults_after text
Noted-writes true before after faults faults_after text w = inl w.0
Noted-writes false before after faults faults_after text w = inr (w.1, w.0)

-- a session and its line in the notes make the end of the call
ends_by : {F : Type 0} (flash : Flash F) (end : End) (noted : Bool) (part : Chip) (program stops : List ℕ) (before after : Ends)
    (from to : F) →
    (s : Session flash end part program stops before.line after.line from to) →
    Writes noted before.noted after.noted before.notes_faults after.notes_faults (line_of_totals s.last) →
    Ran flash (status_at end noted) part program stops before after from to
ends_by flash Whole true part program stops before after from to s w = (s, w)
ends_by flash Whole false part program stops before after from to s w = inr (s, w.1, w.0)
ends_by flash Unrestored noted part program stops before after from to s w = inl (s, Noted-writes noted _ _ _ _ _ w)
ends_by flash Unread noted part program stops before after from to s w = (s, Noted-writes noted _ _ _ _ _ w)
ends_by flash Unsent noted part program stops before after from to s w = inl (s, Noted-writes noted _ _ _ _ _ w)
ends_by flash Long noted part program stops before after from to s w = (s, Noted-writes noted _ _ _ _ _ w)

-- a session that has begun, is replayed, and is noted
pub Ran-session : {F : Type 0} (flash : Flash F) (part_of : F → Part) (program stops : List ℕ) (from : F) (e : Emulator F)
    (result : Replayed F) (noted : Bool) (text : List ℕ) (status : Status) (before after : Ends) →
    length program ≡ words_of (chip_of (part_of from)) → length (flash.words from) ≡ words_of (chip_of (part_of from)) →
    (begun : Begins flash part_of program from e) → Replays flash part_of e begun.own stops result before.line after.line →
    text ≡ totals_line result.totals.cycles result.totals.steps result.totals.writes result.totals.dropped →
    Writes noted before.noted after.noted before.notes_faults after.notes_faults text → status ≡ status_at result.end noted →
    Ran flash status (chip_of (part_of from)) program stops before after from result.flash
Ran-session flash part_of program stops from e result noted text status before after size whole begun ran said wrote is =
    let done = session flash part_of program stops from e result before.line after.line size whole begun ran in
    let few = few_dropped flash result.end (chip_of (part_of from)) program stops before.line after.line from result.flash done.0 in
    let Ended : Status → Type 0 = λ x. Ran flash x (chip_of (part_of from)) program stops before after from result.flash in
    let Wrote : List ℕ → Type 0 = λ x. Writes noted before.noted after.noted before.notes_faults after.notes_faults x in
    subst Ended (sym is) (ends_by flash result.end noted (chip_of (part_of from)) program stops before after from result.flash done.0
    (subst Wrote (said ∙ same_line result.totals done.0.last done.1 (omega (arith, few, done.0.read.most))) wrote))

-- a session that does not begin, for want of memory
pub DidNotBegin-memory : {F : Type 0} (flash : Flash F) (part_of : F → Part) (program : List ℕ) (status : Status) (before after : Ends)
    (from to : F) → to ≡ from → after.line ≡ before.line →
    Noted before.noted after.noted before.notes_faults after.notes_faults (line (codes "memory")) → status ≡ Memory →
    DidNotBegin flash status (chip_of (part_of from)) program before after from to
DidNotBegin-memory flash part_of program status before after from to same still noted is =
    let Ended : Status → Type 0 = λ x. DidNotBegin flash x (chip_of (part_of from)) program before after from to in
    subst Ended (sym is) ((still, noted), same)

-- and as a page of the program could not be written
pub DidNotBegin-flash : {F : Type 0} (flash : Flash F) (part_of : F → Part) (program : List ℕ) (status : Status) (before after : Ends)
    (from to : F) → DoesNotOpen flash part_of program from to × Rose (flash.faults from) (flash.faults to) → after.line ≡ before.line →
    Noted before.noted after.noted before.notes_faults after.notes_faults (line (codes "flash")) → status ≡ Unwritten →
    DidNotBegin flash status (chip_of (part_of from)) program before after from to
DidNotBegin-flash flash part_of program status before after from to failed still noted is =
    let Ended : Status → Type 0 = λ x. DidNotBegin flash x (chip_of (part_of from)) program before after from to in
    let fails : FailsToOpen flash (chip_of (part_of from)) program from to = record {
      asks = failed.0.asks;
      moved = failed.0.moved;
      fails = failed.0.leads (device_of (flash.words from) failed.0.asks) [] refl (answered_all (flash.words from) failed.0.asks);
      cause = failed.1;
    } in
    subst Ended (sym is) (fails, (still, noted))

-- so no replay did
pub Ran-not : {F : Type 0} (flash : Flash F) (status : Status) (part : Chip) (program stops : List ℕ) (before after : Ends) (from to : F) →
    DidNotBegin flash status part program before after from to → Ran flash status part program stops before after from to
Ran-not flash Memory part program stops before after from to d = d
Ran-not flash Unwritten part program stops before after from to d = inr d
Ran-not flash Okay part program stops before after from to d = absurd d
Ran-not flash Usage part program stops before after from to d = absurd d
Ran-not flash Image part program stops before after from to d = absurd d
Ran-not flash Loader part program stops before after from to d = absurd d
Ran-not flash Read part program stops before after from to d = absurd d
Ran-not flash Write part program stops before after from to d = absurd d
Ran-not flash TooLong part program stops before after from to d = absurd d
Ran-not flash NoThread part program stops before after from to d = absurd d
Ran-not flash Link part program stops before after from to d = absurd d
Ran-not flash Refuted part program stops before after from to d = absurd d

-- the part of the words is the part of the flash
pub Ran-part : {F : Type 0} (flash : Flash F) (status : Status) (said part : Part) (program stops : List ℕ) (before after : Ends)
    (from to : F) → said ≡ part → Ran flash status (chip_of part) program stops before after from to →
    Ran flash status (chip_of said) program stops before after from to
Ran-part flash status said part program stops before after from to same ran =
    subst (λ (p : Part). Ran flash status (chip_of p) program stops before after from to) (sym same) ran
