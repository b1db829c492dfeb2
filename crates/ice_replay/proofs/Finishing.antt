-- A replay from its opened session to what is left of it.
use Rattle.std.proofs.Common.{◌≡◌, ◌≤◌, ℕ, Bool, true, false, List, [], Option, Some, None, refl, sym, ap, ◌∙◌, subst}
use Rattle.std.specs.Prelude.{is_some}
use Rattle.part_spec.specs.declared.part.Part.{Part}
use Rattle.part_spec.specs.Chip.{Chip, chip_of}
use Rattle.avr_spec.specs.Kept.{Kept}
use Rattle.line_spec.specs.Frames.{IsBytes}
use Rattle.debug_spec.specs.Device.{Asked, Device}
use Rattle.debug_spec.specs.PageLaws.{AreAnswered}
use Rattle.debug_spec.specs.Moved.{Flash, Moved}
use Rattle.debug_spec.specs.Debugger.{Mode, stopped, launching, running, programming, leaving, closed, opened, is_out}
use Rattle.debug_spec.specs.Schedule.{Session}
use Rattle.run_control.specs.Ends.{IsSoundInline, is_taken}
use Rattle.run_control.specs.declared.inline.Inline.{Inline}
use Rattle.run_control.specs.declared.job.Job.{Job}
use Rattle.ice_emul.specs.Beginning.{Leaves}
use Rattle.ice_answer.specs.Kept.{ToolState}
use Rattle.ice_emul.specs.Launching.{rests}
use Rattle.ice_emul.specs.Standing.{IsJob, IsSoundEmulator}
use Rattle.ice_emul.specs.declared.emulator.Emulator.{Emulator}
use Rattle.ice_emul.specs.declared.session.Totals.{Totals}
use Rattle.ice_replay.specs.Keeping.{place, WaitsIf, IsKept, Stands}
use Rattle.ice_line.specs.Lines.{Line}
use Rattle.ice_replay.specs.Endings.{is_closed, Whole, ClosesBy, GoesBy, EndsRun, ReplaysBy, SignsOff, SignsBy, Replays}
use Rattle.ice_replay.specs.declared.session.End.{End}
use Rattle.ice_replay.specs.declared.session.End.TheVariants.{Okay, Flash as Fault, Read, Write, TooLong}
use Rattle.ice_replay.proofs.LineEnding.{whole_replays, cut_replays}

-- one that has just begun is kept, with a runner that has launched nothing
pub kept_start : {F : Type 0} (flash : Flash F) (part_of : F → Part) (e : Emulator F) (r : Inline F) (own : Job F) → e.target ≡ Some own →
    e.tool.mode ≡ stopped → IsSoundEmulator part_of e → IsSoundInline r.stops.items r.seat → is_taken r.seat ≡ false →
    r.collects ≤ r.launches → IsKept flash part_of (place e r own [])
kept_start flash part_of e r own there mode sound runner free counts = record {
  sound = sound;
  held = subst (λ (o : Option (Job _)). IsJob part_of o e.tool own) (sym there) refl;
  runner = runner;
  seat = subst (λ (b : Bool). WaitsIf flash part_of b (place e r own [])) (sym (ap is_out mode))
      (record { free = free; seen = refl; counts = counts });
}

-- its target is at home
pub own_of : {F : Type 0} (target : Option (Job F)) (mode : Mode) → is_some target ≡ rests mode → rests mode ≡ true →
    (own : Job F) × (target ≡ Some own)
own_of None mode here home = absurd (none (here ∙ home))
  where
    none : false ≡ true → ⊥
    none h = cc
own_of (Some own) mode here home = (own, refl)

closed_home : (m : Mode) → is_closed m ≡ true → rests m ≡ true
closed_home stopped h = cc
closed_home (launching number) h = cc
closed_home running h = cc
closed_home programming h = cc
closed_home leaving h = cc
closed_home (closed restored) h = refl

closed_in : (m : Mode) → is_closed m ≡ true → is_out m ≡ false
closed_in stopped h = cc
closed_in (launching number) h = cc
closed_in running h = cc
closed_in programming h = cc
closed_in leaving h = cc
closed_in (closed restored) h = refl

-- the target of a closed session is the one that is kept
pub closed_target : {F : Type 0} (part_of : F → Part) (e : Emulator F) (job : Job F) → IsSoundEmulator part_of e → is_closed e.tool.mode ≡ true →
    IsJob part_of e.target e.tool job → e.target ≡ Some job
closed_target part_of e job sound shut is =
    let there = own_of e.target e.tool.mode sound.here (closed_home e.tool.mode shut) in
    let same : job ≡ there.0 = subst (λ (o : Option (Job _)). IsJob part_of o e.tool job) there.1 is in
    there.1 ∙ ap Some (sym same)

-- the book's replay, by why it ended
replays_by : (end : End) (signed late : Bool) (ahead : List ℕ) (part : Chip) (stops prog bytes : List ℕ) (device : Device) (t : Session) → IsBytes bytes →
    GoesBy end signed late ahead part stops bytes (record { held = []; state = opened part prog device }) t →
    ReplaysBy end part stops prog device bytes t.state
replays_by Okay signed late ahead part stops prog bytes device t valid h = whole_replays signed part stops prog bytes device t valid h
replays_by Fault signed late ahead part stops prog bytes device t valid h =
    whole_replays signed part stops prog bytes device t valid h.whole
replays_by Read signed late ahead part stops prog bytes device t valid h = whole_replays signed part stops prog bytes device t valid h
replays_by Write signed late ahead part stops prog bytes device t valid h = cut_replays part stops prog bytes ahead device t h
replays_by TooLong signed late ahead part stops prog bytes device t valid h = whole_replays signed part stops prog bytes device t valid h

signs_whole : (signed : Bool) (part : Chip) (stops prog bytes : List ℕ) (device : Device) (t : Session) →
    Whole signed part stops bytes (record { held = []; state = opened part prog device }) t → SignsOff signed part stops prog device bytes
signs_whole signed part stops prog bytes device t h = (h.between, h.goes.replayed, h.goes.open_till)

signs_by : (end : End) (signed late : Bool) (ahead : List ℕ) (part : Chip) (stops prog bytes : List ℕ) (device : Device) (t : Session) →
    GoesBy end signed late ahead part stops bytes (record { held = []; state = opened part prog device }) t →
    SignsBy end signed late ahead part stops prog device bytes
signs_by Okay signed late ahead part stops prog bytes device t h = signs_whole signed part stops prog bytes device t h
signs_by Fault signed late ahead part stops prog bytes device t h =
    (signs_whole signed part stops prog bytes device t h.whole, h.late_at_home)
signs_by Read signed late ahead part stops prog bytes device t h = signs_whole signed part stops prog bytes device t h
signs_by Write signed late ahead part stops prog bytes device t h = (h.between, h.goes)
signs_by TooLong signed late ahead part stops prog bytes device t h = signs_whole signed part stops prog bytes device t h

module _ {F : Type 0} (flash : Flash F) (part_of : F → Part) (e last : Emulator F) (r now : Inline F) (own : Job F) (stops : List ℕ)
    (same_stops : r.stops.items ≡ stops) (none : r.launches ≡ 0) (end : End) (before after : Line)
    (run : EndsRun flash part_of end (place e r own []) before after last now) (shut : is_closed last.tool.mode ≡ true)
    (given : F) (totals : Totals) (leaves : Leaves last run.takes.job given totals) where
  abbrev chip : Chip
  chip = chip_of e.tool.plan.part

  pend_none : run.takes.pend ≡ []
  pend_none = (subst (λ (b : Bool). WaitsIf flash part_of b (place last now run.takes.job run.takes.pend))
      (closed_in last.tool.mode shut) run.takes.kept.seat).seen

  pub finished : Replays flash part_of e own stops (record { end = end; flash = given; totals = totals }) before after
  finished = record {
    bytes = run.bytes;
    extra = run.extra;
    ahead = run.ahead;
    out = run.out;
    signed = run.signed;
    late = run.late;
    read = run.read;
    line = run.line;
    asks = run.takes.goes.asks;
    moved = subst (λ (f : F). Moved flash own.flash run.takes.goes.asks f) (sym leaves.flash_is) run.takes.goes.moved;
    leads = λ prog device left stands answered.
        let s : Session = record { held = []; state = opened chip prog device } in
        let stands_s : Stands flash (place e r own []) s = record { stands = stands; launches = sym none; asked = λ out. refl } in
        let t = run.takes.goes.leads s left left stands_s answered
        (subst (λ (l : List Asked). AreAnswered left l left) (sym pend_none) refl) in
        let goes : GoesBy end run.signed run.late run.ahead chip stops run.bytes s t.0 =
        subst (λ (l : List ℕ). GoesBy end run.signed run.late run.ahead chip l run.bytes s t.0) same_stops t.1 in
        let mode : last.tool.mode ≡ t.0.state.mode = ap (λ (k : ToolState). k.mode) t.2.stands.tool in (
          t.0.state,
          replays_by end run.signed run.late run.ahead chip stops prog run.bytes device t.0 run.read.valid goes,
          subst (λ (m : Mode). ClosesBy end m) mode run.closes,
          signs_by end run.signed run.late run.ahead chip stops prog run.bytes device t.0 goes,
          t.4,
          t.3,
          t.5,
          sym t.2.stands.words ∙ ap flash.words (sym leaves.flash_is),
          (
            leaves.cycles ∙ ap (λ (k : Kept). k.io.cycles) t.2.stands.core,
            leaves.steps ∙ ap (λ (k : Kept). k.steps) t.2.stands.core,
            leaves.writes ∙ ap (λ (k : Kept). k.io.total) t.2.stands.core,
            leaves.dropped ∙ ap (λ (k : ToolState). k.dropped) t.2.stands.tool,
          ),
        );
  }
