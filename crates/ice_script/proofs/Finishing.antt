-- What is left of a script: the book's script of its lines, with the flash as it moved.
use Rattle.std.proofs.Common.{◌≡◌, ℕ, ◌+◌, ◌≤◌, Bool, true, false, List, [], ◌++◌, length, Some, refl, sym, ap, ◌∙◌}
use Rattle.std.proofs.Common.{subst, arith}
use Rattle.std.specs.Prelude.{not}
use Rattle.std.proofs.lemmas.Bool.{true≢false}
use Rattle.part_spec.specs.declared.part.Part.{Part}
use Rattle.part_spec.specs.Chip.{Chip, chip_of}
use Rattle.avr_spec.specs.Kept.{Kept}
use Rattle.debug_spec.specs.Device.{Asked, Device}
use Rattle.debug_spec.specs.PageLaws.{AreAnswered}
use Rattle.debug_spec.specs.Moved.{Flash, Moved}
use Rattle.debug_spec.specs.Debugger.{Mode, stopped, launching, running, programming, leaving, closed, Debugger, opened, is_out, listens}
use Rattle.debug_spec.specs.Running.{left, line_end}
use Rattle.debug_spec.specs.Replay.{settled, settled_in}
use Rattle.debug_spec.specs.Schedule.{Session, line_ended}
use Rattle.debug_spec.specs.TakeReplays.{settled_then}
use Rattle.debug_spec.specs.Carries.{Along}
use Rattle.run_control.specs.declared.inline.Inline.{Inline}
use Rattle.run_control.specs.declared.job.Job.{Job}
use Rattle.host_session.specs.Standing.{Hosted}
use Rattle.ice_answer.specs.Kept.{ToolState}
use Rattle.ice_emul.specs.Standing.{held}
use Rattle.ice_emul.specs.Beginning.{Leaves}
use Rattle.ice_emul.specs.declared.emulator.Emulator.{Emulator}
use Rattle.ice_line.specs.Lines.{Line}
use Rattle.ice_replay.specs.Keeping.{Place, place, WaitsIf, IsKept, Stands}
use Rattle.ice_replay.specs.Steps.{Continues}
use Rattle.ice_replay.specs.Endings.{is_closed}
use Rattle.ice_replay.proofs.Going.{onward, weaker as lighter}
use Rattle.ice_replay.proofs.Finishing.{kept_start, closed_target}
use Rattle.shell_spec.specs.Script.{begun, script}
use Rattle.shell_spec.specs.Transcript.{AreTexts}
use Rattle.debug_shell.specs.declared.script_end.ScriptEnd.{ScriptEnd}
use Rattle.ice_script.specs.Leaving.{EndsIf, LeavesBehind}
use Rattle.ice_script.specs.Scripts.{IsFresh, IsScripted, Scripts}
use Rattle.ice_script.specs.Wires.{LineEndsThen, Side, WireState}
use Rattle.ice_script.specs.declared.wire.Left.{Left}
use Rattle.ice_script.proofs.Answering.{Good}
use Rattle.ice_script.proofs.Running.{Ran, Tells, follows_start}
use Rattle.ice_script.proofs.Ways.{Empty, Moves, Seen, frame_limit, place_of, seen_so}

closed_in : (m : Mode) → is_closed m ≡ true → is_out m ≡ false
closed_in stopped h = absurd (true≢false (sym h))
closed_in (launching number) h = absurd (true≢false (sym h))
closed_in running h = absurd (true≢false (sym h))
closed_in programming h = absurd (true≢false (sym h))
closed_in leaving h = absurd (true≢false (sym h))
closed_in (closed restored) h = refl

-- a session that is closed stays as it is
settled_closed : (part : Chip) (stops : List ℕ) (m : Mode) (s : Debugger) → is_closed m ≡ true → settled_in true part stops m s ≡ s
settled_closed part stops stopped s h = absurd (true≢false (sym h))
settled_closed part stops (launching number) s h = absurd (true≢false (sym h))
settled_closed part stops running s h = absurd (true≢false (sym h))
settled_closed part stops programming s h = absurd (true≢false (sym h))
settled_closed part stops leaving s h = absurd (true≢false (sym h))
settled_closed part stops (closed restored) s h = refl

line_end_deaf : (part : Chip) (held : List ℕ) (s : Debugger) → listens s.mode ≡ false → line_end part held s ≡ s
line_end_deaf part held s off =
    ap (λ (b : Bool). elim b [ true ↦ left part (record s { dropped = s.dropped + length held }) | false ↦ s ]) off

twice : (b : Bool) → not (not b) ≡ b
twice true = refl
twice false = refl

module _ {F : Type 0} (flash : Flash F) (part_of : F → Part) (stops : List ℕ) (host now : Hosted (WireState F)) (own : Job F)
    (fresh : IsFresh part_of stops host) (there : host.standing.link.side.emulator.target ≡ Some own) (end : ScriptEnd)
    (before after : Line)
    (ran : Ran flash part_of (chip_of host.standing.link.side.emulator.tool.plan.part) stops host now end before after) (given : Left F)
    (behind : LeavesBehind flash part_of now.standing.link given) where
  abbrev chip : Chip
  chip = chip_of host.standing.link.side.emulator.tool.plan.part

  abbrev from : WireState F
  from = host.standing.link

  abbrev w : WireState F
  w = now.standing.link

  abbrev on_w : Bool
  on_w = listens w.side.emulator.tool.mode

  abbrev Told : Debugger → Debugger → Type 0
  Told = Tells flash part_of chip stops host now ran.lines ran.earlier ran.text ran.first ran.ending

  abbrev Made : Session → Session → Type 0
  Made = Moves flash part_of chip stops w Told

  -- the line ends where the debugger listens
  record Last (t u : Session) : Type 0 where
    mode : listens t.state.mode ≡ on_w
    line : listens t.state.mode ≡ true → u.state ≡ settled true chip stops (line_end chip t.held t.state)
    same : listens t.state.mode ≡ false → u.state ≡ t.state

  kept : IsKept flash part_of (place_of from own [])
  kept = kept_start flash part_of from.side.emulator from.side.runner own there fresh.wire.mode fresh.wire.sound fresh.wire.runner
      fresh.wire.free (omega (arith, fresh.wire.launches, fresh.wire.collects))

  is_on : listens from.side.emulator.tool.mode ≡ true → (chip ≡ chip) × (from.side.runner.stops.items ≡ stops)
  is_on listening = (refl, fresh.wire.stops_are)

  went : (out : List ℕ) × Continues flash part_of Made (place_of from own []) out w.side.emulator w.side.runner
  went = ran.way.goes is_on own [] kept

  abbrev mid : Place F
  mid = place_of w went.1.job went.1.pend

  enough : frame_limit ≤ w.allowed
  enough = omega (arith, ran.spends, ran.few, fresh.wire.allowed)

  mode_at : (p : Place F) (s : Session) → Stands flash p s → s.state.mode ≡ p.emulator.tool.mode
  mode_at p s stands = sym (ap (λ (k : ToolState). k.mode) stands.stands.tool)

  abbrev Ended_so : Emulator F → Inline F → Type 0
  Ended_so e r = (out : List ℕ) × Continues flash part_of (Along Made Last) (place_of from own []) out e r

  line_ends : on_w ≡ true → LineEndsThen flash part_of w.side behind.at → Ended_so behind.at.emulator behind.at.runner
  line_ends on ends =
      let line = ends went.1.job went.1.pend went.1.kept in
      let is = ran.way.on is_on on in
      let last = place behind.at.emulator behind.at.runner line.job line.pend in
      let Line_so : Session → Session → Type 0 = λ t u.
      let part = chip_of w.side.emulator.tool.plan.part in
      u.state ≡ (settled_then true part w.side.runner.stops.items (line_ended part t)).state in (
        went.0 ++ [],
        record {
          job = line.job;
          pend = line.pend;
          kept = line.kept;
          goes = onward flash Made Last (place_of from own []) mid last went.0 [] went.1.goes
              (lighter flash (Seen flash Line_so mid [] last) Last mid last []
              (λ t u seen. record {
                mode = ap listens (mode_at mid t seen.from);
                line = λ listening.
                    let P : Chip → List ℕ → Type 0 = λ c l. u.state ≡ settled true c l (line_end c t.held t.state) in
                    subst (λ (l : List ℕ). P chip l) is.1 (subst (λ (c : Chip). P c w.side.runner.stops.items) is.0 seen.goes);
                same = λ off. absurd (true≢false (sym on ∙ ap listens (sym (mode_at mid t seen.from)) ∙ off));
              })
              (seen_so flash Line_so mid last [] line.goes));
        },
      )

  stays_shut : on_w ≡ false → behind.at ≡ w.side → Ended_so behind.at.emulator behind.at.runner
  stays_shut off same = subst (λ (x : Side F). Ended_so x.emulator x.runner) (sym same) (
    went.0,
    record {
      job = went.1.job;
      pend = went.1.pend;
      kept = went.1.kept;
      goes = lighter flash (Seen flash Made (place_of from own []) went.0 mid) (Along Made Last) (place_of from own []) mid went.0
          (λ s t seen. (
            t,
            seen.goes,
            record {
              mode = ap listens (mode_at mid t seen.to);
              line = λ listening. absurd (true≢false (sym listening ∙ ap listens (mode_at mid t seen.to) ∙ off));
              same = λ deaf. refl;
            },
          ))
          (seen_so flash Made (place_of from own []) mid went.0 went.1.goes);
    },
  )

  all : Ended_so behind.at.emulator behind.at.runner
  all = by_test on_w refl behind.ends
    where
      by_test : (b : Bool) → on_w ≡ b → EndsIf flash part_of b w.side behind.at → Ended_so behind.at.emulator behind.at.runner
      by_test true e ends = line_ends e ends
      by_test false e same = stays_shut e same

  abbrev last : Place F
  last = place behind.at.emulator behind.at.runner all.1.job all.1.pend

  pend_none : all.1.pend ≡ []
  pend_none = (subst (λ (b : Bool). WaitsIf flash part_of b last) (closed_in behind.at.emulator.tool.mode behind.shut) all.1.kept.seat).seen

  leaves : Leaves behind.at.emulator all.1.job given.flash given.totals
  leaves = behind.leaves all.1.job
      (closed_target part_of behind.at.emulator all.1.job all.1.kept.sound behind.shut all.1.kept.held)

  -- nothing is lost where a line closed the session, and nothing was where it is open
  not_lost : (t : Session) → listens t.state.mode ≡ on_w → (listens t.state.mode ≡ false → Good w) → w.lost ≡ false
  not_lost t same good = by_test on_w refl w.lost refl
    where
      by_test : (b : Bool) → on_w ≡ b → (l : Bool) → w.lost ≡ l → w.lost ≡ false
      by_test b e false f = f
      by_test true e true f = absurd (true≢false (sym e ∙ behind.lost f))
      by_test false e true f = good (same ∙ e)

  module _ (prog : List ℕ) (device : Device) (t u : Session)
      (told : Told (opened chip prog device) t.state) (empty : Empty t) (ended : Last t u)
      (closes : u.state.mode ≡ behind.at.emulator.tool.mode) where
    says : let r = script true chip stops prog device ran.lines in (r.debugger ≡ t.state) × AreTexts r.said ran.text ×
        (r.ending ≡ ran.ending) × AreTexts (script true chip stops prog device ran.earlier).said ran.first ×
        (listens t.state.mode ≡ false → Good w)
    says = told.tells (begun (opened chip prog device)) refl (follows_start part_of stops host fresh chip prog device) refl

    shut : is_closed u.state.mode ≡ true
    shut = ap is_closed closes ∙ behind.shut

    end_is : (b : Bool) → listens t.state.mode ≡ b → u.state ≡ settled true chip stops (line_end chip [] t.state)
    end_is true on =
        ended.line on ∙ ap (λ (l : List ℕ). settled true chip stops (line_end chip l t.state)) (empty on)
    end_is false off =
        let same : u.state ≡ t.state = ended.same off in
        same ∙ sym (settled_closed chip stops t.state.mode t.state (ap (λ (d : Debugger). is_closed d.mode) (sym same) ∙ shut)) ∙
        ap (λ (d : Debugger). settled true chip stops d) (sym (line_end_deaf chip [] t.state off))

    scripted : IsScripted chip stops prog device ran.lines ran.earlier ran.text ran.first ran.ending given.signed given.restored u.state
    scripted = record {
      transcript = record {
        texts = says.1;
        is_ending = sym says.2;
        is_end = end_is (listens t.state.mode) refl ∙
            ap (λ (d : Debugger). settled true chip stops (line_end chip [] d)) (sym says.0);
      };
      ahead = says.3;
      signs = ap (λ (d : Debugger). listens d.mode) says.0 ∙ ended.mode ∙ sym (twice on_w) ∙ ap not (sym behind.signed);
      closes = closes ∙ behind.mode (not_lost t ended.mode says.4);
    }

  pub finished : Scripts flash from.side.emulator own stops (record {
    end = end;
    signed = given.signed;
    restored = given.restored;
    flash = given.flash;
    totals = given.totals;
  }) before after
  finished = record {
    lines = ran.lines;
    earlier = ran.earlier;
    text = ran.text;
    first = ran.first;
    ending = ran.ending;
    ends = ran.ends;
    asks = all.1.goes.asks;
    moved = subst (λ (f : F). Moved flash own.flash all.1.goes.asks f) (sym leaves.flash_is) all.1.goes.moved;
    leads = λ prog device left stands answered.
        let s : Session = record { held = []; state = opened chip prog device } in
        let stands_s : Stands flash (place_of from own []) s =
        record { stands = stands; launches = sym fresh.wire.launches; asked = λ out. refl } in
        let u = all.1.goes.leads s left left stands_s answered
        (subst (λ (l : List Asked). AreAnswered left l left) (sym pend_none) refl) in
        let t : Session = u.1.0 in
        let empty : Empty t = u.1.1.empty (λ on. refl) in
        let told = u.1.1.does (λ on. refl) enough in (
          u.0.state,
          scripted prog device t u.0 told empty u.1.2 (mode_at last u.0 u.2),
          u.3,
          u.5,
          sym u.2.stands.words ∙ ap flash.words (sym leaves.flash_is),
          (
            leaves.cycles ∙ ap (λ (k : Kept). k.io.cycles) u.2.stands.core,
            leaves.steps ∙ ap (λ (k : Kept). k.steps) u.2.stands.core,
            leaves.writes ∙ ap (λ (k : Kept). k.io.total) u.2.stands.core,
            leaves.dropped ∙ ap (λ (k : ToolState). k.dropped) u.2.stands.tool,
          ),
        );
  }
