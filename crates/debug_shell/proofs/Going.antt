-- How a script goes on.
use Rattle.std.proofs.Common.{◌≡◌, ℕ, ◌+◌, ◌<◌, ◌≤◌, List, [], ◌∷◌, ◌++◌, Option, None, Some, Result, length, take, drop, get_or, refl, sym, ap, subst, ◌∙◌, append_assoc, append-nil, length-append, arith}
use Rattle.std.specs.Prelude.{◌≢◌}
use Rattle.std.proofs.KnownBytes.{Appends-nil, Appends-trans}
use Rattle.std.proofs.lemmas.List.{take_all, take_more, take-append-drop}
use Rattle.std.proofs.lemmas.List.Elements.{All-append, All-nil, All-push, All-cons}
use Rattle.host_session.specs.Standing.{Hosted}
use Rattle.host_session.specs.Words.{Words}
use Rattle.shell_spec.specs.declared.error.LineError.{LineError}
use Rattle.shell_spec.specs.Lines.{Line}
use Rattle.shell_spec.specs.Text.{IsEnded, IsOpen, joined}
use Rattle.shell_spec.specs.Words.{line_feed}
use Rattle.debug_shell.specs.Printing.{Gains, Outside, Prints}
use Rattle.debug_shell.specs.Steps.{EndsWithin, Goes as GoesOn, Printer, Puts, TakesBytes, TakesOn, held_of}
use Rattle.debug_shell.specs.Transcript.{DoesRead, Runs, RunsAll}
use Rattle.debug_shell.specs.declared.script_end.After.{After}
use Rattle.debug_shell.specs.declared.script_end.After.TheVariants.{Goes, Quits, Fails}
use Rattle.debug_shell.specs.declared.script_end.ScriptEnd.{ScriptEnd}
use Rattle.debug_shell.proofs.Holding.{held_of-more, reading-held}

-- a line does what the front of it that is kept does
pub Runs-held : {L : Type 0} (words : Words L) (line : List ℕ) (before after : Printer L) (end : Option ScriptEnd)
    → Puts (Runs words (held_of line)) before after end → Puts (Runs words line) before after end
Runs-held words line before after end puts = record {
  text = puts.text;
  way = puts.way;
  does = let P : Result Line LineError → Type 0 = λ r. DoesRead words r before.host puts.text after.host puts.way in subst P (reading-held line) puts.does;
  prints = puts.prints;
}

pub joined-append : (lines more : List (List ℕ)) → joined (lines ++ more) ≡ joined lines ++ joined more
joined-append [] more = refl
joined-append (line ∷ lines) more = ap (λ (bytes : List ℕ). line ++ bytes) (joined-append lines more) ∙ sym (append_assoc line (joined lines) (joined more))

pub RunsAll-append : {L : Type 0} (words : Words L) (lines more : List (List ℕ)) (host middle now : Hosted L) (first later : List ℕ)
    → RunsAll words lines host first middle → RunsAll words more middle later now → RunsAll words (lines ++ more) host (first ++ later) now
RunsAll-append {L} words [] more host middle now first later done next =
    let P : List ℕ → Hosted L → Type 0 = λ text from. RunsAll words more from (text ++ later) now in
    let Q : Hosted L → Type 0 = λ from. RunsAll words more from later now in
    let here : P [] host = subst Q done.1 next in
    subst (λ (text : List ℕ). P text host) (sym done.0) here
RunsAll-append words (line ∷ lines) more host middle now first later done next = (
  done.0,
  done.1,
  done.2 ++ later,
  done.3,
  RunsAll-append words lines more done.0 middle now done.2 later done.4 next,
  ap (λ (text : List ℕ). text ++ later) done.5 ∙ append_assoc done.1 done.2 later,
)

pub RunsAll-one : {L : Type 0} (words : Words L) (line : List ℕ) (host now : Hosted L) (text : List ℕ) → Runs words line host text now Goes
    → RunsAll words (line ∷ []) host text now
RunsAll-one words line host now text runs = (now, text, [], runs, (refl, refl), sym (append-nil text))

-- a put that ends nothing is of a line that goes on
pub Prints-none : (way : After) (before after : Outside) (text : List ℕ) → Prints way None before after text
    → (way ≡ Goes) × Gains before after text
Prints-none Goes before after text put = (refl, put)
Prints-none Quits before after text put = absurd put
Prints-none Fails before after text put = absurd put

-- nothing is put, and texts one behind the other
pub Gains-nil : (at : Outside) → Gains at at []
Gains-nil at = record { gains = Appends-nil at.bytes; still = refl }

pub Gains-trans : (before middle after : Outside) (first text : List ℕ) → Gains before middle first → Gains middle after text
    → Gains before after (first ++ text)
Gains-trans before middle after first text one more = record {
  gains = Appends-trans before.bytes middle.bytes after.bytes first text one.gains more.gains;
  still = more.still ∙ one.still;
}

-- bytes behind those after which the script goes on
pub Goes-more : {L : Type 0} (words : Words L) (given more : List ℕ) (before middle after : Printer L) (held now : List ℕ)
    → (goes : GoesOn words given before middle held) → GoesOn words (goes.behind ++ more) middle after now
    → GoesOn words (given ++ more) before after now
Goes-more words given more before middle after held now goes next = record {
  lines = goes.lines ++ next.lines;
  behind = next.behind;
  text = goes.text ++ next.text;
  whole = ap (λ (bytes : List ℕ). bytes ++ more) goes.whole ∙ append_assoc (joined goes.lines) goes.behind more
      ∙ ap (λ (bytes : List ℕ). joined goes.lines ++ bytes) next.whole ∙ sym (append_assoc (joined goes.lines) (joined next.lines) next.behind)
      ∙ ap (λ (bytes : List ℕ). bytes ++ next.behind) (sym (joined-append goes.lines next.lines));
  ended = All-append IsEnded goes.lines next.lines goes.ended next.ended;
  unended = next.unended;
  runs = RunsAll-append words goes.lines next.lines before.host middle.host after.host goes.text next.text goes.runs next.runs;
  gains = Gains-trans before.sink middle.sink after.sink goes.text next.text goes.gains next.gains;
  keeps = next.keeps;
}

-- bytes behind them, at which it ends
pub Goes-ends : {L : Type 0} (words : Words L) (given more : List ℕ) (before middle after : Printer L) (held : List ℕ) (end : ScriptEnd)
    → (goes : GoesOn words given before middle held) → (stop : EndsWithin words (goes.behind ++ more) middle after end)
    → (all : EndsWithin words (given ++ more) before after end) × (all.behind ≡ stop.behind)
Goes-ends words given more before middle after held end goes stop = (
  record {
    lines = goes.lines ++ stop.lines;
    line = stop.line;
    behind = stop.behind;
    whole = ap (λ (bytes : List ℕ). bytes ++ more) goes.whole ∙ append_assoc (joined goes.lines) goes.behind more
        ∙ ap (λ (bytes : List ℕ). joined goes.lines ++ bytes) stop.whole ∙ sym (append_assoc (joined goes.lines) (joined stop.lines ++ stop.line) stop.behind)
        ∙ ap (λ (bytes : List ℕ). bytes ++ stop.behind) (sym (append_assoc (joined goes.lines) (joined stop.lines) stop.line)
        ∙ ap (λ (bytes : List ℕ). bytes ++ stop.line) (sym (joined-append goes.lines stop.lines)));
    ended = All-append IsEnded goes.lines stop.lines goes.ended stop.ended;
    is_line = stop.is_line;
    middle = stop.middle;
    first = goes.text ++ stop.first;
    text = stop.text;
    way = stop.way;
    runs_before = RunsAll-append words goes.lines stop.lines before.host middle.host stop.middle goes.text stop.first goes.runs stop.runs_before;
    runs = stop.runs;
    at = stop.at;
    gains = Gains-trans before.sink middle.sink stop.at goes.text stop.first goes.gains stop.gains;
    prints = stop.prints;
  },
  refl,
)

-- a byte that ends no line
pub byte-kept : {L : Type 0} (words : Words L) (byte : ℕ) (at : Printer L) (held now : List ℕ) → byte ≢ line_feed
    → now ≡ held_of (held ++ byte ∷ []) → TakesOn words (byte ∷ []) at at held now None
byte-kept words byte at held now other kept = record {
  takes = λ opened unended is. record {
    lines = [];
    behind = opened ++ byte ∷ [];
    text = [];
    whole = refl;
    ended = All-nil IsEnded;
    unended = All-push (λ b. b ≢ line_feed) opened byte unended other;
    runs = (refl, refl);
    gains = Gains-nil at.sink;
    keeps = kept ∙ held_of-more held opened (byte ∷ []) is;
  };
}

line-ends : {L : Type 0} (words : Words L) (opened now : List ℕ) (byte : ℕ) (before after : Printer L) (end : Option ScriptEnd)
    → IsOpen opened → byte ≡ line_feed → now ≡ [] → Puts (Runs words (opened ++ byte ∷ [])) before after end
    → TakesBytes words opened (byte ∷ []) before after now end
line-ends words opened now byte before after None unended feed clear puts =
    let line : List ℕ = opened ++ byte ∷ [] in
    let goes = Prints-none puts.way before.sink after.sink puts.text puts.prints in
    let runs : Runs words line before.host puts.text after.host Goes =
    let P : After → Type 0 = λ way. Runs words line before.host puts.text after.host way in subst P goes.0 puts.does in
    record {
      lines = line ∷ [];
      behind = [];
      text = puts.text;
      whole = sym (append-nil (line ++ []) ∙ append-nil line);
      ended = All-cons IsEnded line [] (record { front = opened; unended = unended; whole = ap (λ b. opened ++ b ∷ []) feed }) (All-nil IsEnded);
      unended = All-nil (λ b. b ≢ line_feed);
      runs = RunsAll-one words line before.host after.host puts.text runs;
      gains = goes.1;
      keeps = clear;
    }
line-ends words opened now byte before after (Some end) unended feed clear puts =
    let line : List ℕ = opened ++ byte ∷ [] in (
      record {
        lines = [];
        line = line;
        behind = [];
        whole = sym (append-nil line);
        ended = All-nil IsEnded;
        is_line = record { front = opened; unended = unended; whole = ap (λ b. opened ++ b ∷ []) feed };
        middle = before.host;
        first = [];
        text = puts.text;
        way = puts.way;
        runs_before = (refl, refl);
        runs = puts.does;
        at = before.sink;
        gains = Gains-nil before.sink;
        prints = puts.prints;
      },
      omega arith,
    )

-- a byte that ends a line
pub byte-ends : {L : Type 0} (words : Words L) (byte : ℕ) (before after : Printer L) (held kept now : List ℕ) (end : Option ScriptEnd)
    → byte ≡ line_feed → kept ≡ held_of (held ++ byte ∷ []) → now ≡ [] → Puts (Runs words kept) before after end
    → TakesOn words (byte ∷ []) before after held now end
byte-ends {L} words byte before after held kept now end feed keeps clear puts = record {
  takes = λ opened unended is.
      let P : List ℕ → Type 0 = λ front. Puts (Runs words front) before after end in
      line-ends words opened now byte before after end unended feed clear
      (Runs-held words (opened ++ byte ∷ []) before after end (subst P (keeps ∙ held_of-more held opened (byte ∷ []) is) puts));
}

-- no byte
pub none-taken : {L : Type 0} (words : Words L) (at : Printer L) (held : List ℕ) → TakesOn words [] at at held held None
none-taken words at held = record {
  takes = λ opened unended is. record {
    lines = [];
    behind = opened;
    text = [];
    whole = append-nil opened;
    ended = All-nil IsEnded;
    unended = unended;
    runs = (refl, refl);
    gains = Gains-nil at.sink;
    keeps = is;
  };
}

bytes-more : {L : Type 0} (words : Words L) (opened bytes more : List ℕ) (before middle after : Printer L) (held now : List ℕ) (end : Option ScriptEnd)
    → (goes : GoesOn words (opened ++ bytes) before middle held)
    → TakesBytes words goes.behind more middle after now end → TakesBytes words opened (bytes ++ more) before after now end
bytes-more words opened bytes more before middle after held now None goes next =
    let P : List ℕ → Type 0 = λ given. GoesOn words given before after now in
    subst P (append_assoc opened bytes more) (Goes-more words (opened ++ bytes) more before middle after held now goes next)
bytes-more {L} words opened bytes more before middle after held now (Some end) goes next =
    let all = Goes-ends words (opened ++ bytes) more before middle after held end goes next.0 in
    let P : List ℕ → Type 0 = λ given. (stop : EndsWithin words given before after end) × (length stop.behind < length (bytes ++ more)) in
    subst P (append_assoc opened bytes more) (all.0, omega (arith, next.1, ap length all.1, length-append bytes more))

-- more bytes behind those after which the script goes on
pub more-taken : {L : Type 0} (words : Words L) (bytes more : List ℕ) (before middle after : Printer L) (held kept now : List ℕ) (end : Option ScriptEnd)
    → TakesOn words bytes before middle held kept None → TakesOn words more middle after kept now end
    → TakesOn words (bytes ++ more) before after held now end
more-taken words bytes more before middle after held kept now end done next = record {
  takes = λ opened unended is.
      let goes = done.takes opened unended is in
      bytes-more words opened bytes more before middle after kept now end goes (next.takes goes.behind goes.unended goes.keeps);
}

-- more bytes behind those at which it ends
pub more-behind : {L : Type 0} (words : Words L) (bytes more : List ℕ) (before after : Printer L) (held now : List ℕ) (end : ScriptEnd)
    → TakesOn words bytes before after held now (Some end) → TakesOn words (bytes ++ more) before after held now (Some end)
more-behind words bytes more before after held now end done = record {
  takes = λ opened unended is.
      let found = done.takes opened unended is in
      let stop = found.0 in (
        record {
          lines = stop.lines;
          line = stop.line;
          behind = stop.behind ++ more;
          whole = sym (append_assoc opened bytes more) ∙ ap (λ (given : List ℕ). given ++ more) stop.whole
              ∙ append_assoc (joined stop.lines ++ stop.line) stop.behind more;
          ended = stop.ended;
          is_line = stop.is_line;
          middle = stop.middle;
          first = stop.first;
          text = stop.text;
          way = stop.way;
          runs_before = stop.runs_before;
          runs = stop.runs;
          at = stop.at;
          gains = stop.gains;
          prints = stop.prints;
        },
        omega (arith, found.1, length-append stop.behind more, length-append bytes more),
      );
}

-- the bytes of a chunk, one by one
pub chunk-more : {L : Type 0} (words : Words L) (chunk : List ℕ) (i : ℕ) (before middle after : Printer L) (held kept now : List ℕ)
    (end : Option ScriptEnd) → i < length chunk → TakesOn words (take i chunk) before middle held kept None
    → TakesOn words (get_or chunk i 0 ∷ []) middle after kept now end → TakesOn words (take (i + 1) chunk) before after held now end
chunk-more {L} words chunk i before middle after held kept now end inside done next =
    let P : List ℕ → Type 0 = λ bytes. TakesOn words bytes before after held now end in
    subst P (sym (take_more chunk i 0 inside)) (more-taken words (take i chunk) (get_or chunk i 0 ∷ []) before middle after held kept now end done next)

pub chunk-ends : {L : Type 0} (words : Words L) (chunk : List ℕ) (i : ℕ) (before middle after : Printer L) (held kept now : List ℕ)
    (end : ScriptEnd) → i < length chunk → TakesOn words (take i chunk) before middle held kept None
    → TakesOn words (get_or chunk i 0 ∷ []) middle after kept now (Some end) → TakesOn words chunk before after held now (Some end)
chunk-ends {L} words chunk i before middle after held kept now end inside done next =
    let P : List ℕ → Type 0 = λ bytes. TakesOn words bytes before after held now (Some end) in
    subst P (take-append-drop (i + 1) chunk) (more-behind words (take (i + 1) chunk) (drop (i + 1) chunk) before after held now end
    (chunk-more words chunk i before middle after held kept now (Some end) inside done next))

pub chunk-whole : {L : Type 0} (words : Words L) (chunk : List ℕ) (i : ℕ) (before after : Printer L) (held now : List ℕ)
    → length chunk ≤ i → TakesOn words (take i chunk) before after held now None → TakesOn words chunk before after held now None
chunk-whole {L} words chunk i before after held now all done =
    let P : List ℕ → Type 0 = λ bytes. TakesOn words bytes before after held now None in subst P (take_all i chunk all) done
