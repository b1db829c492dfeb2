-- A script that was run: how it ended, and what the book makes of its lines.
use Rattle.std.proofs.Common.{◌≡◌, ℕ, ◌+◌, ◌*◌, ◌≤◌, true, false, List, [], ◌∷◌, ◌++◌, length, take, refl, sym, ◌∙◌, ap}
use Rattle.std.proofs.Common.{subst, arith, inl, inr, append-nil, length-append, Some}
use Rattle.std.specs.Io.KnownBytes.{Consumes}
use Rattle.std.proofs.KnownBytes.{Appends-trans}
use Rattle.std.proofs.lemmas.Bool.{true≢false}
use Rattle.part_spec.specs.declared.part.Part.{Part}
use Rattle.part_spec.specs.Chip.{Chip}
use Rattle.debug_spec.specs.Device.{Device}
use Rattle.debug_spec.specs.Moved.{Flash}
use Rattle.debug_spec.specs.Debugger.{Debugger, listens, opened}
use Rattle.host_session.specs.Standing.{Hosted}
use Rattle.host_session.specs.Words.{Words}
use Rattle.ice_base.specs.Counts.{Rose}
use Rattle.ice_line.specs.Lines.{Line}
use Rattle.shell_spec.specs.Script.{Script, Said, Ending, goes_on, has_quit, has_failed, begun, through}
use Rattle.shell_spec.specs.Text.{joined, with_last}
use Rattle.shell_spec.specs.Transcript.{AreTexts}
use Rattle.debug_shell.specs.Endings.{EndsBy, Stops, RunsLines, Scene, input_limit}
use Rattle.debug_shell.specs.Printing.{Gains, GainsFront, Outside, Prints}
use Rattle.debug_shell.specs.Transcript.{Runs, RunsAll}
use Rattle.debug_shell.specs.declared.script_end.After.{After}
use Rattle.debug_shell.specs.declared.script_end.After.TheVariants.{Goes, Quits, Fails}
use Rattle.debug_shell.specs.declared.script_end.ScriptEnd.{ScriptEnd}
use Rattle.debug_shell.specs.declared.script_end.ScriptEnd.TheVariants.{Done, Read, Write, Link, TooLong}
use Rattle.script_laws.specs.Waiting.{AreKept}
use Rattle.script_laws.specs.Following.{Follows}
use Rattle.script_laws.proofs.Lines.{SaysText, LinesDo, LastDoes, WayIs, lines_go, last_goes}
use Rattle.script_laws.proofs.Replies.{short_at_start}
use Rattle.ice_script.specs.Ends.{EndsScript, PutsAll, PutsFront, ReadsTo}
use Rattle.ice_script.specs.Queue.{Waiting}
use Rattle.ice_script.specs.Scripts.{IsFresh}
use Rattle.ice_script.specs.Wires.{WireState, waiting, wire_words}
use Rattle.ice_script.proofs.Answering.{Good, answers_way}
use Rattle.ice_script.proofs.Spending.{few_lines, few_with_last, line_few, lines_few}
use Rattle.ice_script.proofs.Ways.{Same, Way, along, frame_limit, gives, less, never_sends, stay}

-- a host that has made no call follows a script at its start
pub follows_start : {F : Type 0} (part_of : F → Part) (stops : List ℕ) (host : Hosted (WireState F)) → IsFresh part_of stops host →
    (chip : Chip) (prog : List ℕ) (device : Device) → Follows waiting host (begun (opened chip prog device))
follows_start part_of stops host fresh chip prog device = record {
  kept_frames = [];
  waiting = [];
  are = subst (AreKept []) (sym fresh.kept) tt;
  queue = refl;
  streams = ap (λ (l : List ℕ). l ++ waiting host.standing.link) fresh.pending ∙ ap (λ (q : Waiting). q.bytes) fresh.wire.queue;
  events = tt;
  valid = tt;
  few = omega arith;
  number = fresh.number;
  listening = refl;
  short = short_at_start;
  going = refl;
}

-- both ends of a script at one moment, as those of a line
abbrev pub line_of : {L : Type 0} → Scene L → Line
line_of at = record {
  left = at.source.bytes;
  source_faults = at.source.faults;
  written = at.sink.bytes;
  sink_faults = at.sink.faults;
}

-- how a script stands behind a line
abbrev ending_of : After → Ending
ending_of Goes = goes_on
ending_of Quits = has_quit
ending_of Fails = has_failed

-- more that is said where nothing was is all
all_said : (s t : Script) (text : List ℕ) → SaysText s t text → s.said ≡ [] → AreTexts t.said text
all_said s t text says none =
    subst (λ (l : List Said). AreTexts l text) (sym (says.said ∙ ap (λ (l : List Said). l ++ says.more) none)) says.texts

-- all texts were put
puts_all : {L : Type 0} (before after : Scene L) (text : List ℕ) → Gains before.sink after.sink text →
    PutsAll (line_of before) (line_of after) text
puts_all before after text g = (g.gains, g.still)

-- the last text too, or a front of it
puts_last : {L : Type 0} (before after : Scene L) (at : Outside) (first text : List ℕ) → Gains before.sink at first →
    Gains at after.sink text → PutsAll (line_of before) (line_of after) (first ++ text)
puts_last before after at first text g h =
    (Appends-trans before.sink.bytes at.bytes after.sink.bytes first text g.gains h.gains, h.still ∙ g.still)

puts_front : {L : Type 0} (before after : Scene L) (at : Outside) (first text : List ℕ) → Gains before.sink at first →
    GainsFront at after.sink text → PutsFront (line_of before) (line_of after) (first ++ text) first
puts_front before after at first text g h = (
  text,
  refl,
  (
    (h.count, Appends-trans before.sink.bytes at.bytes after.sink.bytes first (take h.count text) g.gains h.gains),
    subst (λ (n : ℕ). Rose n after.sink.faults) g.still h.rose,
  ),
)

module _ {F : Type 0} (flash : Flash F) (part_of : F → Part) (chip : Chip) (stops : List ℕ) where
  abbrev words : Words (WireState F)
  words = wire_words flash part_of

  -- what lines make of each script that the host follows, of which nothing was said
  pub record Tells (host now : Hosted (WireState F)) (lines earlier : List (List ℕ)) (text first : List ℕ) (ending : Ending)
      (d e : Debugger) : Type 0 where
    pub tells : (s : Script) → s.debugger ≡ d → Follows waiting host s → s.said ≡ [] → let t = through true chip stops lines s in
        (t.debugger ≡ e) × AreTexts t.said text × (t.ending ≡ ending) × AreTexts (through true chip stops earlier s).said first ×
        (listens e.mode ≡ false → Good now.standing.link)

  -- a script was run
  pub record Ran (host now : Hosted (WireState F)) (end : ScriptEnd) (before after : Line) : Type 0 where
    pub lines : List (List ℕ)
    pub earlier : List (List ℕ)
    pub text : List ℕ
    pub first : List ℕ
    pub ending : Ending
    pub ends : EndsScript end before after lines earlier text first ending
    pub way : Way flash part_of chip stops host.standing.link now.standing.link (Tells host now lines earlier text first ending)
    pub spends : host.standing.link.allowed ≤ now.standing.link.allowed + frame_limit * length lines
    pub few : length lines ≤ input_limit + 1

  whole_tells : (host now : Hosted (WireState F)) (lines : List (List ℕ)) (text : List ℕ) (d e : Debugger) →
      LinesDo waiting chip stops host now lines text d e → Tells host now lines lines text text goes_on d e
  whole_tells host now lines text d e h = record {
    tells = λ s same follows none.
        let t = through true chip stops lines s in
        let u = h.do_so s same follows in
        let said = all_said s t text u.1 none in (
          u.0,
          said,
          u.2.going,
          said,
          λ off. absurd (true≢false (sym u.2.listening ∙ ap (λ (x : Debugger). listens x.mode) u.0 ∙ off)),
        );
  }

  whole_way : (lines : List (List ℕ)) (host now : Hosted (WireState F)) (text : List ℕ) → RunsAll words lines host text now →
      Way flash part_of chip stops host.standing.link now.standing.link (Tells host now lines lines text text goes_on)
  whole_way lines host now text r =
      less flash part_of chip stops host.standing.link now.standing.link (LinesDo waiting chip stops host now lines text)
      (Tells host now lines lines text text goes_on) (whole_tells host now lines text)
      (lines_go (WireState F) words waiting Same (gives flash part_of) chip stops (Way flash part_of chip stops)
      (stay flash part_of chip stops) (along flash part_of chip stops) (less flash part_of chip stops) (never_sends flash part_of) Good
      (λ a b same good. same.lost ∙ good)
      (λ number command a b valid size sent. answers_way flash part_of number command valid size a chip stops b sent) lines host now text r)

  -- how it stands behind the last line
  behind_way : (way : After) (now : Hosted (WireState F)) (t : Script) → WayIs waiting Good way now t →
      (t.ending ≡ ending_of way) × (listens t.debugger.mode ≡ false → Good now.standing.link)
  behind_way Goes now t w = (w.going, λ off. absurd (true≢false (sym w.listening ∙ off)))
  behind_way Quits now t w = (w.0, w.1)
  behind_way Fails now t w = (w.0, w.1)

  last_tells : (host now : Hosted (WireState F)) (lines : List (List ℕ)) (line first text : List ℕ) (way : After) (d e : Debugger) →
      LastDoes waiting Good chip stops host now lines line first text way d e →
      Tells host now (lines ++ line ∷ []) lines (first ++ text) first (ending_of way) d e
  last_tells host now lines line first text way d e h = record {
    tells = λ s same follows none.
        let t = through true chip stops (lines ++ line ∷ []) s in
        let u = h.does_so s same follows in
        let stands = behind_way way now t u.2 in (
          u.0,
          all_said s t (first ++ text) u.1 none,
          stands.0,
          all_said s (through true chip stops lines s) first u.3 none,
          λ off. stands.1 (ap (λ (x : Debugger). listens x.mode) u.0 ∙ off),
        );
  }

  last_way : (lines : List (List ℕ)) (line : List ℕ) (host middle now : Hosted (WireState F)) (first text : List ℕ) (way : After) →
      RunsAll words lines host first middle → Runs words line middle text now way →
      Way flash part_of chip stops host.standing.link now.standing.link
      (Tells host now (lines ++ line ∷ []) lines (first ++ text) first (ending_of way))
  last_way lines line host middle now first text way all r =
      less flash part_of chip stops host.standing.link now.standing.link
      (LastDoes waiting Good chip stops host now lines line first text way)
      (Tells host now (lines ++ line ∷ []) lines (first ++ text) first (ending_of way)) (last_tells host now lines line first text way)
      (last_goes (WireState F) words waiting Same (gives flash part_of) chip stops (Way flash part_of chip stops)
      (stay flash part_of chip stops) (along flash part_of chip stops) (less flash part_of chip stops) (never_sends flash part_of) Good
      (λ a b same good. same.lost ∙ good)
      (λ number command a b valid size sent. answers_way flash part_of number command valid size a chip stops b sent)
      lines line host middle now first text way all r)

  -- every line was run
  whole_ran : (before after : Scene (WireState F)) (end : ScriptEnd) (lines : List (List ℕ)) →
      (runs : RunsLines words before after lines) → length lines ≤ input_limit + 1 →
      EndsScript end (line_of before) (line_of after) lines lines runs.text runs.text goes_on →
      Ran before.host after.host end (line_of before) (line_of after)
  whole_ran before after end lines runs few ends = record {
    lines = lines;
    earlier = lines;
    text = runs.text;
    first = runs.text;
    ending = goes_on;
    ends = ends;
    way = whole_way lines before.host after.host runs.text runs.runs;
    spends = lines_few flash part_of lines before.host after.host runs.text runs.runs;
    few = few;
  }

  -- it ended at a line
  module _ (before after : Scene (WireState F)) where
    reads_to : (end : ScriptEnd) (s : Stops words before after end) →
        ReadsTo (line_of before) (line_of after) (s.lines ++ s.line ∷ []) s.lines
    reads_to end s = record {
      line = s.line;
      behind = s.behind;
      are = refl;
      taken = s.takes;
      most = s.limit;
      short = s.short;
      ended = s.ended;
      is_line = s.is_line;
    }

    stop_ends : (end : ScriptEnd) (s : Stops words before after end) (way : After) → Prints way (Some end) s.at after.sink s.text →
        EndsScript end (line_of before) (line_of after) (s.lines ++ s.line ∷ []) s.lines (s.first ++ s.text) s.first (ending_of way)
    stop_ends Done s Goes p = absurd p
    stop_ends Done s Quits p =
        (inr (reads_to Done s, refl), puts_last before after s.at s.first s.text s.gains p, s.still)
    stop_ends Done s Fails p = absurd p
    stop_ends Write s Goes p =
        (reads_to Write s, inl refl, puts_front before after s.at s.first s.text s.gains p, s.still)
    stop_ends Write s Quits p =
        (reads_to Write s, inr refl, puts_front before after s.at s.first s.text s.gains p, s.still)
    stop_ends Write s Fails p = absurd p
    stop_ends Link s Goes p = absurd p
    stop_ends Link s Quits p = absurd p
    stop_ends Link s Fails (inl p) =
        (reads_to Link s, refl, inl (puts_last before after s.at s.first s.text s.gains p), s.still)
    stop_ends Link s Fails (inr p) =
        (reads_to Link s, refl, inr (puts_front before after s.at s.first s.text s.gains p), s.still)
    stop_ends Read s Goes p = absurd p
    stop_ends Read s Quits p = absurd p
    stop_ends Read s Fails p = absurd p
    stop_ends TooLong s Goes p = absurd p
    stop_ends TooLong s Quits p = absurd p
    stop_ends TooLong s Fails p = absurd p

    stops_ran : (end : ScriptEnd) → Stops words before after end → Ran before.host after.host end (line_of before) (line_of after)
    stops_ran end s = record {
      lines = s.lines ++ s.line ∷ [];
      earlier = s.lines;
      text = s.first ++ s.text;
      first = s.first;
      ending = ending_of s.way;
      ends = stop_ends end s s.way s.prints;
      way = last_way s.lines s.line before.host s.middle after.host s.first s.text s.way s.runs_before s.runs;
      spends = omega (
        arith,
        lines_few flash part_of s.lines before.host s.middle s.first s.runs_before,
        line_few flash part_of s.line s.middle after.host s.text s.way s.runs,
        length-append s.lines (s.line ∷ []),
      );
      few = omega (
        arith,
        few_lines s.lines s.ended,
        s.limit,
        length-append (joined s.lines) s.line,
        length-append (joined s.lines ++ s.line) s.behind,
        length-append s.lines (s.line ∷ []),
      );
    }

    pub ran_by : (end : ScriptEnd) → EndsBy words before after end → Ran before.host after.host end (line_of before) (line_of after)
    ran_by Done (inl f) =
        let lines = with_last f.lines f.behind in
        whole_ran before after Done lines f.runs
        (omega (arith, few_with_last f.lines f.behind f.cut.ended, ap length f.cut.whole, f.limit)) (
          inl (
            record {
              read = f.read;
              ended = f.lines;
              behind = f.behind;
              taken = f.takes;
              most = f.limit;
              at_end = f.end;
              cut = f.cut;
              are = refl;
            },
            refl,
          ),
          puts_all before after f.runs.text f.runs.gains,
          f.still,
        )
    ran_by Done (inr s) = stops_ran Done s
    ran_by Write s = stops_ran Write s
    ran_by Link s = stops_ran Link s
    ran_by Read r =
        whole_ran before after Read r.runs.lines r.runs.runs
        (omega (
          arith,
          few_lines r.runs.lines r.runs.cut.ended,
          ap length r.runs.cut.whole,
          length-append (joined r.runs.lines) r.runs.behind,
          r.limit,
        )) (
          record {
            read = r.read;
            behind = r.runs.behind;
            taken = subst (λ (l : List ℕ). Consumes before.source.bytes after.source.bytes l) (sym (append-nil r.read)) r.takes;
            most = r.limit;
            cut = r.runs.cut;
          },
          refl,
          puts_all before after r.runs.runs.text r.runs.runs.gains,
          r.rose,
        )
    ran_by TooLong r =
        whole_ran before after TooLong r.runs.lines r.runs.runs
        (omega (
          arith,
          few_lines r.runs.lines r.runs.cut.ended,
          ap length r.runs.cut.whole,
          length-append (joined r.runs.lines) r.runs.behind,
          r.limit,
        )) (
          (
            r.byte,
            record { read = r.read; behind = r.runs.behind; taken = r.takes; most = omega (arith, r.limit); cut = r.runs.cut },
            r.limit,
          ),
          refl,
          puts_all before after r.runs.runs.text r.runs.runs.gains,
          r.still,
        )
