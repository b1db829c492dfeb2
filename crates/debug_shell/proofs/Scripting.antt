-- How a script ends.
use Rattle.std.proofs.Common.{◌≡◌, ℕ, ◌+◌, ◌-◌, ◌<◌, ◌≤◌, List, [], ◌∷◌, ◌++◌, Option, None, Some, length, take, get_or, refl, sym, ap, subst, ◌∙◌, inl, inr, append-nil, length-append, length-take, arith}
use Rattle.std.specs.Io.KnownBytes.{Consumes, IsAtEnd}
use Rattle.std.proofs.KnownBytes.{Consumes-nil, Consumes-trans}
use Rattle.std.proofs.lemmas.List.Elements.{All-nil}
use Rattle.ice_base.specs.Counts.{Rose}
use Rattle.host_session.specs.Words.{Words}
use Rattle.shell_spec.specs.Text.{IsEnded, joined, with_last}
use Rattle.shell_spec.specs.Words.{line_feed}
use Rattle.debug_shell.specs.Endings.{EndsBy, Finishes, RunsLines, RunsRead, Scene, Stops, input_limit}
use Rattle.debug_shell.specs.Printing.{Outside, Prints}
use Rattle.debug_shell.specs.Steps.{Goes as GoesOn, Printer, Puts, RunsLast, TakesOn, held_of}
use Rattle.debug_shell.specs.Transcript.{Runs}
use Rattle.debug_shell.specs.declared.script_end.After.{After}
use Rattle.debug_shell.specs.declared.script_end.After.TheVariants.{Goes, Quits, Fails}
use Rattle.debug_shell.specs.declared.script_end.ScriptEnd.{ScriptEnd}
use Rattle.debug_shell.specs.declared.script_end.ScriptEnd.TheVariants.{Done, Read, Write, Link, TooLong}
use Rattle.debug_shell.proofs.Going.{Gains-nil, Gains-trans, Goes-ends, Goes-more, Prints-none, Runs-held, RunsAll-append, RunsAll-one}
use Rattle.debug_shell.proofs.Holding.{held_of-none}

abbrev pub printer_of : {L : Type 0} → Scene L → Printer L
printer_of at = record { host = at.host; sink = at.sink }

-- these bytes were read, the lines that ended in them were run, and so many more may be read
pub record Going {L : Type 0} (words : Words L) (before after : Scene L) (held : List ℕ) (allowed : ℕ) : Type 0 where
  pub read : List ℕ
  pub takes : Consumes before.source.bytes after.source.bytes read
  pub size : length read + allowed ≡ input_limit
  pub still : after.source.faults ≡ before.source.faults
  pub goes : GoesOn words read (printer_of before) (printer_of after) held

pub Going-start : {L : Type 0} (words : Words L) (at : Scene L) → Going words at at [] input_limit
Going-start words at = record {
  read = [];
  takes = Consumes-nil at.source.bytes;
  size = omega arith;
  still = refl;
  goes = record {
    lines = [];
    behind = [];
    text = [];
    whole = refl;
    ended = All-nil IsEnded;
    unended = All-nil (λ byte. byte ≡ line_feed → ⊥);
    runs = (refl, refl);
    gains = Gains-nil at.sink;
    keeps = refl;
  };
}

pub Going-more : {L : Type 0} (words : Words L) (before middle after : Scene L) (held now : List ℕ) (allowed count : ℕ) (bytes : List ℕ)
    → Going words before middle held allowed → Consumes middle.source.bytes after.source.bytes bytes → length bytes ≡ count → count ≤ allowed
    → after.source.faults ≡ middle.source.faults → TakesOn words bytes (printer_of middle) (printer_of after) held now None → Going words before after now (allowed - count)
Going-more words before middle after held now allowed count bytes going takes size most still next =
    let goes = going.goes in
    record {
      read = going.read ++ bytes;
      takes = Consumes-trans before.source.bytes middle.source.bytes after.source.bytes going.read bytes going.takes takes;
      size = omega (arith, going.size, size, most, length-append going.read bytes);
      still = still ∙ going.still;
      goes = Goes-more words going.read bytes (printer_of before) (printer_of middle) (printer_of after) held now goes
          (next.takes goes.behind goes.unended goes.keeps);
    }

-- no other end comes at a line
Stops-ends : {L : Type 0} (words : Words L) (before after : Scene L) (end : ScriptEnd) → Stops words before after end → EndsBy words before after end
Stops-ends words before after Done stops = inr stops
Stops-ends words before after Write stops = stops
Stops-ends words before after Link stops = stops
Stops-ends words before after Read stops = absurd (never stops.way stops.at after.sink stops.text stops.prints)
  where
    never : (way : After) (sink now : Outside) (text : List ℕ) → Prints way (Some Read) sink now text → ⊥
    never Goes sink now text put = put
    never Quits sink now text put = put
    never Fails sink now text put = put
Stops-ends words before after TooLong stops = absurd (never stops.way stops.at after.sink stops.text stops.prints)
  where
    never : (way : After) (sink now : Outside) (text : List ℕ) → Prints way (Some TooLong) sink now text → ⊥
    never Goes sink now text put = put
    never Quits sink now text put = put
    never Fails sink now text put = put

pub Going-ends : {L : Type 0} (words : Words L) (before middle after : Scene L) (held now : List ℕ) (allowed : ℕ) (bytes : List ℕ) (end : ScriptEnd)
    → Going words before middle held allowed → Consumes middle.source.bytes after.source.bytes bytes → length bytes ≤ 512
    → length bytes ≤ allowed → after.source.faults ≡ middle.source.faults
    → TakesOn words bytes (printer_of middle) (printer_of after) held now (Some end) → EndsBy words before after end
Going-ends words before middle after held now allowed bytes end going takes short most still next =
    let goes = going.goes in
    let found = next.takes goes.behind goes.unended goes.keeps in
    let all = Goes-ends words going.read bytes (printer_of before) (printer_of middle) (printer_of after) held end goes found.0 in
    let stop = all.0 in
    let P : List ℕ → Type 0 = λ read. Consumes before.source.bytes after.source.bytes read in
    Stops-ends words before after end (record {
      lines = stop.lines;
      line = stop.line;
      behind = stop.behind;
      takes = subst P stop.whole (Consumes-trans before.source.bytes middle.source.bytes after.source.bytes going.read bytes going.takes takes);
      limit = omega (arith, ap length stop.whole, length-append going.read bytes, going.size, most);
      short = omega (arith, found.1, ap length all.1, short);
      still = still ∙ going.still;
      ended = stop.ended;
      is_line = inl stop.is_line;
      middle = stop.middle;
      first = stop.first;
      text = stop.text;
      way = stop.way;
      runs_before = stop.runs_before;
      runs = stop.runs;
      at = stop.at;
      gains = stop.gains;
      prints = stop.prints;
    })

-- nothing more came
taken : (a b c : Option (List ℕ)) (read : List ℕ) → Consumes a b read → Consumes b c [] → Consumes a c read
taken a b c read first none = let P : List ℕ → Type 0 = λ bytes. Consumes a c bytes in subst P (append-nil read) (Consumes-trans a b c read [] first none)

runs-read : {L : Type 0} (words : Words L) (before middle : Scene L) (source : Outside) (held : List ℕ) (allowed : ℕ)
    → (going : Going words before middle held allowed)
    → RunsRead words before (record { host = middle.host; source = source; sink = middle.sink }) going.read
runs-read words before middle source held allowed going = record {
  lines = going.goes.lines;
  behind = going.goes.behind;
  cut = record { ended = going.goes.ended; unended = going.goes.unended; whole = going.goes.whole };
  runs = record { text = going.goes.text; runs = going.goes.runs; gains = going.goes.gains };
}

pub Going-fault : {L : Type 0} (words : Words L) (before middle : Scene L) (source : Outside) (held : List ℕ) (allowed : ℕ)
    → Going words before middle held allowed → Consumes middle.source.bytes source.bytes [] → Rose middle.source.faults source.faults
    → EndsBy words before (record { host = middle.host; source = source; sink = middle.sink }) Read
Going-fault words before middle source held allowed going none rose = record {
  read = going.read;
  takes = taken before.source.bytes middle.source.bytes source.bytes going.read going.takes none;
  limit = omega (arith, going.size);
  rose = omega (arith, rose, going.still);
  runs = runs-read words before middle source held allowed going;
}

take-one : (buffer : List ℕ) (count : ℕ) → 0 < length buffer → count ≡ 1 → take count buffer ≡ get_or buffer 0 0 ∷ []
take-one [] count some one = absurd (omega arith)
take-one (byte ∷ buffer) count some one = let P : ℕ → Type 0 = λ n. take n (byte ∷ buffer) ≡ byte ∷ [] in subst P (sym one) refl

pub Going-long : {L : Type 0} (words : Words L) (before middle : Scene L) (source : Outside) (held : List ℕ) (allowed : ℕ) (buffer : List ℕ) (count : ℕ)
    → Going words before middle held allowed → allowed ≤ 0 → 0 < length buffer → 0 < count → count ≤ 1
    → Consumes middle.source.bytes source.bytes (take count buffer) → source.faults ≡ middle.source.faults
    → EndsBy words before (record { host = middle.host; source = source; sink = middle.sink }) TooLong
Going-long words before middle source held allowed buffer count going full some least most takes still =
    let P : List ℕ → Type 0 = λ bytes. Consumes before.source.bytes source.bytes (going.read ++ bytes) in
    record {
      read = going.read;
      byte = get_or buffer 0 0;
      takes = subst P (take-one buffer count some (omega (arith, least, most)))
          (Consumes-trans before.source.bytes middle.source.bytes source.bytes going.read (take count buffer) going.takes takes);
      limit = omega (arith, going.size, full);
      still = still ∙ going.still;
      runs = runs-read words before middle source held allowed going;
    }

last-none : (lines : List (List ℕ)) (behind : List ℕ) → behind ≡ [] → lines ≡ with_last lines behind
last-none lines [] none = refl
last-none lines (byte ∷ behind) none = absurd (omega (arith, ap length none))

last-some : (lines : List (List ℕ)) (behind : List ℕ) → 0 < length behind → lines ++ behind ∷ [] ≡ with_last lines behind
last-some lines [] some = absurd (omega arith)
last-some lines (byte ∷ behind) some = refl

-- the lines of all bytes, where the last one has this much run
finish : {L : Type 0} (words : Words L) (before middle after : Scene L) (held : List ℕ) (allowed : ℕ) (run : List (List ℕ)) (end : ScriptEnd)
    → (going : Going words before middle held allowed) → Consumes middle.source.bytes after.source.bytes [] → IsAtEnd after.source.bytes
    → after.source.faults ≡ middle.source.faults → RunsLines words before after run → run ≡ with_last going.goes.lines going.goes.behind → end ≡ Done → EndsBy words before after end
finish {L} words before middle after held allowed run end going none at_end still runs is done =
    let goes = going.goes in
    let P : List (List ℕ) → Type 0 = λ lines. RunsLines words before after lines in
    let Q : ScriptEnd → Type 0 = λ e. EndsBy words before after e in
    let all : Finishes words before after = record {
      read = going.read;
      lines = goes.lines;
      behind = goes.behind;
      takes = taken before.source.bytes middle.source.bytes after.source.bytes going.read going.takes none;
      limit = omega (arith, going.size);
      end = at_end;
      still = still ∙ going.still;
      cut = record { ended = goes.ended; unended = goes.unended; whole = goes.whole };
      runs = subst P is runs;
    } in
    subst Q (sym done) (inl all)

-- the line that is open at the end does what the front of it that is kept does
opened-runs : {L : Type 0} (words : Words L) (held opened : List ℕ) (before after : Printer L) (end : Option ScriptEnd) → held ≡ held_of opened
    → Puts (Runs words held) before after end → Puts (Runs words opened) before after end
opened-runs {L} words held opened before after end is puts =
    let P : List ℕ → Type 0 = λ front. Puts (Runs words front) before after end in Runs-held words opened before after end (subst P is puts)

pub Going-last : {L : Type 0} (words : Words L) (before middle after : Scene L) (held : List ℕ) (allowed : ℕ) (end : ScriptEnd)
    → Going words before middle held allowed → Consumes middle.source.bytes after.source.bytes [] → IsAtEnd after.source.bytes
    → after.source.faults ≡ middle.source.faults → RunsLast words held (printer_of middle) (printer_of after) end → EndsBy words before after end
Going-last {L} words before middle after held allowed end going none at_end still (inl (empty, same, done)) =
    let goes = going.goes in
    let P : Printer L → Type 0 = λ at. RunsLines words before (record { host = at.host; source = after.source; sink = at.sink }) goes.lines in
    let runs : P (printer_of middle) = record { text = goes.text; runs = goes.runs; gains = goes.gains } in
    finish words before middle after held allowed goes.lines end going none at_end still (subst P (sym same) runs)
    (last-none goes.lines goes.behind (held_of-none goes.behind (sym goes.keeps ∙ empty))) done
Going-last {L} words before middle after held allowed end going none at_end still (inr (inl (some, kept, done))) =
    let goes = going.goes in
    let puts = opened-runs words held goes.behind (printer_of middle) (printer_of after) None goes.keeps kept in
    let on = Prints-none puts.way middle.sink after.sink puts.text puts.prints in
    let P : After → Type 0 = λ way. Runs words goes.behind middle.host puts.text after.host way in
    let last = RunsAll-one words goes.behind middle.host after.host puts.text (subst P on.0 puts.does) in
    finish words before middle after held allowed (goes.lines ++ goes.behind ∷ []) end going none at_end still (record {
      text = goes.text ++ puts.text;
      runs = RunsAll-append words goes.lines (goes.behind ∷ []) before.host middle.host after.host goes.text puts.text goes.runs last;
      gains = Gains-trans before.sink middle.sink after.sink goes.text puts.text goes.gains on.1;
    }) (last-some goes.lines goes.behind (omega (arith, some, ap length goes.keeps, length-take 323 goes.behind))) done
Going-last {L} words before middle after held allowed end going none at_end still (inr (inr kept)) =
    let goes = going.goes in
    let puts = opened-runs words held goes.behind (printer_of middle) (printer_of after) (Some end) goes.keeps kept in
    let P : List ℕ → Type 0 = λ read. Consumes before.source.bytes after.source.bytes read in
    let whole : going.read ≡ joined goes.lines ++ goes.behind ++ [] = goes.whole ∙ sym (append-nil (joined goes.lines ++ goes.behind)) in
    Stops-ends words before after end (record {
      lines = goes.lines;
      line = goes.behind;
      behind = [];
      takes = subst P whole (taken before.source.bytes middle.source.bytes after.source.bytes going.read going.takes none);
      limit = omega (arith, ap length whole, going.size);
      short = omega arith;
      still = still ∙ going.still;
      ended = goes.ended;
      is_line = inr (goes.unended, refl, at_end);
      middle = middle.host;
      first = goes.text;
      text = puts.text;
      way = puts.way;
      runs_before = goes.runs;
      runs = puts.does;
      at = middle.sink;
      gains = goes.gains;
      prints = puts.prints;
    })
