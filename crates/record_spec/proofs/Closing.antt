-- How a record goes on from each point that lines reach, up to the end of the session.
use Rattle.std.proofs.Common.{◌≡◌, ℕ, zero, suc, ◌+◌, ◌≤◌, ◌&&◌, cond, Bool, true, false, List, [], ◌∷◌, ◌++◌, length, codes}
use Rattle.std.proofs.Common.{Option, Some, None, refl, sym, ap, ◌∙◌, subst, arith, append-nil, append_assoc}
use Rattle.std.specs.List.{All, flat_map}
use Rattle.std.proofs.lemmas.List.Elements.{All-nil, All-cons}
use Rattle.part_spec.specs.Chip.{Chip}
use Rattle.avr_spec.specs.Step.{ahead}
use Rattle.line_spec.specs.Frames.{bytes_of}
use Rattle.line_spec.proofs.Bytes.{IsBytes-nil}
use Rattle.debug_spec.specs.Stop.{Cause, undefined, failed_write}
use Rattle.debug_spec.specs.Run.{onward, stop_here, End, is_undefined, end_by}
use Rattle.debug_spec.specs.Debugger.{Mode, stopped, launching, running, programming, leaving, closed, Debugger, run_out}
use Rattle.debug_spec.specs.Running.{replant_failed, line_end}
use Rattle.debug_spec.specs.Replay.{bytes_sent}
use Rattle.debug_spec.specs.Schedule.{Session}
use Rattle.debug_spec.specs.SessionLaws.{is_closed}
use Rattle.debug_spec.proofs.Soundness.{at}
use Rattle.debug_spec.proofs.RunEnds.{end_at, early_or, forced_by, natural_by, end_by_is_end}
use Rattle.record_spec.specs.Lines.{Event, line_ends, halts, Line, event, out, IsDecimal, cause_digits}
use Rattle.record_spec.specs.Fits.{Point, Happens, beginning, halted_by, steps_in, Follows, Reaches, Fits}
use Rattle.record_spec.specs.Judging.{Reads, IsRefuted, GoesOn}
use Rattle.record_spec.specs.RecordLaws.{HasText, telling, SomeFits, FrontsGoOn, RefutedExactly}
use Rattle.record_spec.proofs.OneLines.{one_line}
use Rattle.record_spec.proofs.Ways.{one_way}
use Rattle.record_spec.proofs.Asking.{RestsOf}
use Rattle.record_spec.proofs.Reached.{rests-reached}

-- a run that is out and asked to stop ends at its first boundary
abbrev soon : Chip → Debugger → End
soon part s = end_by part (run_out false s) (replant_failed s) 1

-- with one step at most
soon_short : (part : Chip) (s : Debugger) → (soon part s).steps ≤ 1
soon_short part s =
    let r = run_out false s in
    by_tests (r.fresh && is_undefined (ahead part r.start r.first)) (r.replants && replant_failed s) (stop_here part (onward part r))
  where
    by_tests : (a b : Bool) (o : Option Cause) →
        (forced_by (early_or (cond a (Some (end_at 0 undefined)) (cond b (Some (end_at 1 failed_write)) None)) (natural_by part o None)) 1).steps ≤ 1
    by_tests true b o = omega arith
    by_tests false true o = omega arith
    by_tests false false None = omega arith
    by_tests false false (Some cause) = omega arith

-- the lines that close a session have texts
text-ends : HasText (event line_ends)
text-ends = (codes "end", omega arith, refl)

text-nothing : HasText (out [])
text-nothing = (codes "out -", omega arith, (IsBytes-nil, refl))

digit : (n : ℕ) → n ≤ 1 → (digits : List ℕ) × IsDecimal digits n × (length digits ≡ 1)
digit zero h = (0x30 ∷ [], record { each = refl; leading = refl; value = refl }, refl)
digit (suc zero) h = (0x31 ∷ [], record { each = refl; leading = refl; value = refl }, refl)
digit (suc (suc n)) h = absurd (omega (arith, h))

text-halts : (end : End) → end.steps ≤ 1 → HasText (event (halts end))
text-halts end short =
    let one = digit end.steps short in
    (codes "halt " ++ cause_digits end.cause ++ codes " " ++ one.0, omega (arith, one.2), (one.0, one.1, refl))

-- the point at which nothing is to be told
abbrev there : List ℕ → Debugger → ℕ → Point
there held s steps = record { session = record { held = held; state = s }; owed = None; steps = steps }

-- and the one behind an event that sends nothing
abbrev owing : List ℕ → Debugger → ℕ → Point
owing held s steps = record { session = record { held = held; state = s }; owed = Some []; steps = steps }

-- lines, each with a text and all with so many steps at most, close the session from a point on
record Closes (part : Chip) (room : ℕ) (from : Point) : Type 0 where
  more : List Line
  texts : All HasText more
  end : Point
  reaches : Reaches part more from end
  told : end.owed ≡ None
  closed : is_closed end.session.state.mode ≡ true
  few : end.steps ≤ from.steps + room

module _ (part : Chip) where
  -- an event that sends nothing, and the line that tells so, ahead of others
  closes_by : (room rest : ℕ) (what : Event) (held later : List ℕ) (s t : Debugger) (steps : ℕ) → HasText (event what) →
      Happens part what (record { held = held; state = s }) (record { held = later; state = t }) → t.sent ≡ s.sent →
      steps_in (event what) + rest ≤ room → Closes part rest (there later t (steps + steps_in (event what))) →
      Closes part room (there held s steps)
  closes_by room rest what held later s t steps text happens silent enough c = record {
    more = event what ∷ out [] ∷ c.more;
    texts = All-cons HasText (event what) (out [] ∷ c.more) text (All-cons HasText (out []) c.more text-nothing c.texts);
    end = c.end;
    reaches = (
      owing later t (steps + steps_in (event what)),
      (
        refl,
        [],
        record { held = later; state = t },
        record { happens = happens; sends = ap (flat_map bytes_of) silent ∙ sym (append-nil (bytes_sent s)) },
        refl,
      ),
      (there later t (steps + steps_in (event what)), (refl, refl), c.reaches),
    );
    told = c.told;
    closed = c.closed;
    few = omega (arith, c.few, enough);
  }

  closes_now : (held : List ℕ) (s : Debugger) (steps : ℕ) → is_closed s.mode ≡ true → Closes part 0 (there held s steps)
  closes_now held s steps over = record {
    more = [];
    texts = All-nil HasText;
    end = there held s steps;
    reaches = refl;
    told = refl;
    closed = over;
    few = omega arith;
  }

  closes_leaving : (held : List ℕ) (s : Debugger) (steps : ℕ) → s.stop_asked ≡ true → Closes part 1 (there held (at leaving s) steps)
  closes_leaving held s steps asked =
      let end = soon part (at leaving s) in
      let over = halted_by part end (record { held = held; state = at leaving s }) in
      let short = soon_short part (at leaving s) in
      closes_by 1 0 (halts end) held held (at leaving s) over.state steps (text-halts end short) (
        record {
          out = refl;
          is_end = end_by_is_end part (run_out false (at leaving s)) (replant_failed (at leaving s)) 1 (omega arith);
          asked = λ e. asked;
        },
        refl,
      )
      refl (omega (arith, short)) (closes_now held over.state (steps + end.steps) refl)

  closes_line : (room : ℕ) (held : List ℕ) (s : Debugger) (steps : ℕ) → is_closed s.mode ≡ false → (line_end part held s).sent ≡ s.sent →
      room ≤ 1 → Closes part room (there [] (line_end part held s) (steps + 0)) → Closes part 1 (there held s steps)
  closes_line room held s steps open_yet silent enough c =
      closes_by 1 room line_ends held [] s (line_end part held s) steps text-ends (open_yet, refl) silent (omega (arith, enough)) c

  closes : (held : List ℕ) (m : Mode) (s : Debugger) (steps : ℕ) → RestsOf (at m s) → Closes part 1 (there held (at m s) steps)
  closes held stopped s steps rests =
      let t = line_end part held (at stopped s) in
      closes_line 0 held (at stopped s) steps refl refl (omega arith) (closes_now [] t (steps + 0) refl)
  closes held (launching number) s steps rests = absurd rests
  closes held running s steps rests =
      let t = line_end part held (at running s) in
      closes_line 1 held (at running s) steps refl refl (omega arith) (closes_leaving [] t (steps + 0) refl)
  closes held programming s steps rests =
      let t = line_end part held (at programming s) in
      closes_line 0 held (at programming s) steps refl refl (omega arith) (closes_now [] t (steps + 0) refl)
  closes held leaving s steps rests = closes_leaving held s steps rests
  closes held (closed restored) s steps rests =
      let c = closes_now held (at (closed restored) s) steps refl in
      record { more = c.more; texts = c.texts; end = c.end; reaches = c.reaches; told = c.told; closed = c.closed; few = omega (arith, c.few) }

  reaches_on : (lines more : List Line) (before between after : Point) → Reaches part lines before between →
      Reaches part more between after → Reaches part (lines ++ more) before after
  reaches_on [] more before between after h k = subst (λ (p : Point). Reaches part more p after) h k
  reaches_on (line ∷ lines) more before between after h k = (h.0, h.1, reaches_on lines more h.0 between after h.2 k)

  -- where bytes are to be told, they are told first
  goes_on_by : (owed : Option (List ℕ)) (session : Session) (steps : ℕ) (c : Closes part 1 (record { session = session; owed = None; steps = steps })) →
      Reaches part (telling owed ++ c.more) (record { session = session; owed = owed; steps = steps }) c.end
  goes_on_by None session steps c = c.reaches
  goes_on_by (Some bytes) session steps c =
      (record { session = session; owed = None; steps = steps }, (refl, refl), c.reaches)

pub fronts_go_on : FrontsGoOn
fronts_go_on part prog lines at_ r =
    let rests = rests-reached part lines (beginning part prog) at_ r tt in
    let c = closes part at_.session.held at_.session.state.mode at_.session.state at_.steps rests in (
      c.more,
      c.texts,
      record {
        end = c.end;
        reaches = reaches_on part lines (telling at_.owed ++ c.more) (beginning part prog) at_ c.end r
            (goes_on_by part at_.owed at_.session at_.steps c);
        told = c.told;
        closed = c.closed;
      },
      c.few,
    )

-- a line that is true behind others is one of a record that fits, and the other way
fits_on : (part : Chip) (prog : List ℕ) (lines : List Line) (line : Line) (at_ after : Point) →
    Reaches part lines (beginning part prog) at_ → Follows part line at_ after → SomeFits part prog lines line
fits_on part prog lines line at_ after r f =
    let on = fronts_go_on part prog (lines ++ line ∷ []) after
    (reaches_on part lines (line ∷ []) (beginning part prog) at_ after r (after, f, refl)) in
    let more = telling after.owed ++ on.0 in
    (more, subst (Fits part prog) (append_assoc lines (line ∷ []) more) on.2)

next_follows : (part : Chip) (lines more : List Line) (line : Line) (before at_ end : Point) → Reaches part lines before at_ →
    Reaches part (lines ++ line ∷ more) before end → (after : Point) × Follows part line at_ after
next_follows part [] more line before at_ end r h =
    (h.0, subst (λ (p : Point). Follows part line p h.0) (sym r) h.1)
next_follows part (first ∷ lines) more line before at_ end r h =
    let same = one_way part first before h.0 r.0 h.1 r.1 in
    next_follows part lines more line r.0 at_ end r.2 (subst (λ (p : Point). Reaches part (lines ++ line ∷ more) p end) same h.2)

pub refuted_exactly : RefutedExactly
refuted_exactly part prog lines at_ text line r reads within = record {
  is_true = (true_fits, fits_true);
  is_refuted = (
    λ refuted f. by_follow refuted (follow f),
    λ none. (line, reads, within, λ after f. none (fits_on part prog lines line at_ after r f)),
  );
}
  where
    same : (other : Line) → Reads at_ text other → other ≡ line
    same other h = one_line text other line h.is reads.is

    true_fits : ((after : Point) × GoesOn part at_ text after) → SomeFits part prog lines line
    true_fits t =
        fits_on part prog lines line at_ t.0 r (subst (λ (l : Line). Follows part l at_ t.0) (same t.1.0 t.1.1) t.1.3)

    follow : SomeFits part prog lines line → (after : Point) × Follows part line at_ after
    follow f = next_follows part lines f.0 line (beginning part prog) at_ f.1.end r f.1.reaches

    fits_true : SomeFits part prog lines line → (after : Point) × GoesOn part at_ text after
    fits_true f = let next = follow f in (next.0, (line, reads, within, next.1))

    by_follow : IsRefuted part at_ text → ((after : Point) × Follows part line at_ after) → ⊥
    by_follow refuted next =
        refuted.3 next.0 (subst (λ (l : Line). Follows part l at_ next.0) (sym (same refuted.0 refuted.1)) next.1)
