-- Scripts of the patched debugger and of the plain one.
use Rattle.std.proofs.Common.{◌≡◌, ℕ, Bool, true, false, List, [], ◌∷◌, ◌++◌}
use Rattle.std.proofs.Common.{length, map, drop, nat_lt, Option, Some, None, Result, Ok, Err}
use Rattle.std.proofs.Common.{if◌then◌else◌, refl, sym, ◌∙◌, ap, subst, append_assoc, append-nil}
use Rattle.std.proofs.lemmas.Bool.{and_parts}
use Rattle.part_spec.specs.Chip.{Chip, words_of}
use Rattle.line_spec.specs.Frames.{Frame}
use Rattle.line_spec.specs.Messages.{Command}
use Rattle.debug_spec.specs.Device.{Device}
use Rattle.debug_spec.specs.Debugger.{Debugger, opened}
use Rattle.debug_spec.specs.Running.{line_end}
use Rattle.debug_spec.specs.SessionLaws.{IsFit, IsSound, is_closed, LeavesProgram}
use Rattle.debug_spec.specs.CleanSessions.{clean_out}
use Rattle.debug_spec.proofs.Moving.{moves-line_end, opened_is_sound}
use Rattle.debug_spec.proofs.Sessions.{moves-over, replays_close}
use Rattle.shell_spec.specs.declared.error.LineError.{LineError}
use Rattle.shell_spec.specs.Lines.{Line}
use Rattle.shell_spec.specs.Reading.{reading}
use Rattle.shell_spec.specs.Sends.{command_of, is_wait}
use Rattle.shell_spec.specs.Sent.{number_behind, requests_of}
use Rattle.shell_spec.specs.Script.{Said, answer, events_full, Ending, goes_on, has_quit, has_failed, Script, begun, kept_limit, awaits}
use Rattle.shell_spec.specs.Script.{asked_in, told_back, sends, does, does_read, line_in, through, script, left_behind}
use Rattle.shell_spec.specs.Transcript.{AreTexts}
use Rattle.shell_spec.specs.CleanScripts.{clean_sent, clean_read, clean_line, clean_script, clean_said, BeginAlike, TranscriptsAgree}
use Rattle.shell_spec.proofs.RequestsAlike.{replies_same, request_same, settled_same}
use Rattle.shell_spec.proofs.Scripts.{keeps-line, keeps-through, scripts_are_sessions}
use Rattle.shell_spec.proofs.Texts.{same_texts, texts-append}

-- more is said behind this
abbrev Begins : List Said → List Said → Type 0
Begins first said = (more : List Said) × (said ≡ first ++ more)

begins-itself : (said : List Said) → Begins said said
begins-itself said = ([], sym (append-nil said))

begins-onward : (a b c : List Said) → Begins a b → Begins b c → Begins a c
begins-onward a b c first later =
    (first.0 ++ later.0, later.1 ∙ ap (λ (t : List Said). t ++ later.0) first.1 ∙ append_assoc a first.0 later.0)

module _ (part : Chip) (stops : List ℕ) where
  -- a script stays sound
  sound-line : (planted : Bool) (line : List ℕ) (s : Script) → IsSound part s.debugger →
      IsSound part (line_in planted part stops s.ending line s).debugger
  sound-line planted line s sound =
      keeps-line planted part stops (λ commands d. IsSound part d)
      (λ t command h. (moves-over planted part stops (asked_in t command ∷ []) t.debugger).sound h) s.ending line s sound

  -- what was said stays so
  awaits-says : (queue : List Frame) (s : Script) → Begins s.said (awaits queue s).said
  awaits-says [] s = (_, refl)
  awaits-says (frame ∷ frames) s = (_, refl)

  unsent-says : (waits : Bool) (s : Script) → Begins s.said (if waits then awaits s.queue s else s).said
  unsent-says true s = awaits-says s.queue s
  unsent-says false s = begins-itself s.said

  does-says : (planted : Bool) (line : Line) (command : Option Command) (s : Script) →
      Begins s.said (does planted part stops line command s).said
  does-says planted line None s = unsent-says (is_wait line) s
  does-says planted line (Some command) s = (_, refl)

  read-says : (planted : Bool) (read : Result Line LineError) (s : Script) → Begins s.said (does_read planted part stops read s).said
  read-says planted (Ok line) s = does-says planted line (command_of line) s
  read-says planted (Err error) s = (_, refl)

  line-says : (planted : Bool) (ending : Ending) (line : List ℕ) (s : Script) →
      Begins s.said (line_in planted part stops ending line s).said
  line-says planted goes_on line s = read-says planted (reading line) s
  line-says planted has_quit line s = begins-itself s.said
  line-says planted has_failed line s = begins-itself s.said

  through-says : (planted : Bool) (lines : List (List ℕ)) (s : Script) → Begins s.said (through planted part stops lines s).said
  through-says planted [] s = begins-itself s.said
  through-says planted (line ∷ lines) s =
      let t = line_in planted part stops s.ending line s in
      begins-onward s.said t.said (through planted part stops lines t).said (line-says planted s.ending line s)
      (through-says planted lines t)

  -- a line with which what runs is clean
  sends-same : (line : Line) (command : Command) (s : Script) → IsSound part s.debugger → clean_sent part stops (Some command) s ≡ true →
      sends true part stops line command s ≡ sends false part stops line command s
  sends-same line command s sound clean =
      ap (λ (d : Debugger). told_back line (drop (length s.debugger.sent) d.sent)
      (record s { commands = s.commands ++ command ∷ []; debugger = d }))
      (request_same part stops (asked_in s command) s.debugger sound clean)

  does-same : (line : Line) (command : Option Command) (s : Script) → IsSound part s.debugger → clean_sent part stops command s ≡ true →
      does true part stops line command s ≡ does false part stops line command s
  does-same line None s sound clean = refl
  does-same line (Some command) s sound clean = sends-same line command s sound clean

  read-same : (read : Result Line LineError) (s : Script) → IsSound part s.debugger → clean_read part stops read s ≡ true →
      does_read true part stops read s ≡ does_read false part stops read s
  read-same (Ok line) s sound clean = does-same line (command_of line) s sound clean
  read-same (Err error) s sound clean = refl

  line-same : (ending : Ending) (line : List ℕ) (s : Script) → IsSound part s.debugger → clean_line part stops ending line s ≡ true →
      line_in true part stops ending line s ≡ line_in false part stops ending line s
  line-same goes_on line s sound clean = read-same (reading line) s sound clean
  line-same has_quit line s sound clean = refl
  line-same has_failed line s sound clean = refl

  -- of any line the same is said
  does-said : (line : Line) (command : Option Command) (s : Script) → IsSound part s.debugger →
      (does true part stops line command s).said ≡ (does false part stops line command s).said
  does-said line None s sound = refl
  does-said line (Some command) s sound =
      ap (λ (replies : List Frame). s.said ++ (if nat_lt kept_limit (length s.queue) then events_full ∷ [] else map (answer line) replies))
      (replies_same part stops (number_behind (length s.commands)) command s.debugger sound)

  read-said : (read : Result Line LineError) (s : Script) → IsSound part s.debugger →
      (does_read true part stops read s).said ≡ (does_read false part stops read s).said
  read-said (Ok line) s sound = does-said line (command_of line) s sound
  read-said (Err error) s sound = refl

  line-said : (ending : Ending) (line : List ℕ) (s : Script) → IsSound part s.debugger →
      (line_in true part stops ending line s).said ≡ (line_in false part stops ending line s).said
  line-said goes_on line s sound = read-said (reading line) s sound
  line-said has_quit line s sound = refl
  line-said has_failed line s sound = refl

  -- clean scripts are the same, and what is left out behind them is clean
  clean-same : (lines : List (List ℕ)) (s : Script) → IsSound part s.debugger → clean_script part stops lines s ≡ true →
      (through true part stops lines s ≡ through false part stops lines s) ×
      (clean_out part stops (line_end part [] (through false part stops lines s).debugger) ≡ true)
  clean-same [] s sound clean = (refl, clean)
  clean-same (line ∷ lines) s sound clean =
      let t = line_in false part stops s.ending line s in
      let parts = and_parts (clean_line part stops s.ending line s) (clean_script part stops lines t) clean in
      let later = clean-same lines t (sound-line false line s sound) parts.1 in
      (ap (through true part stops lines) (line-same s.ending line s sound parts.0) ∙ later.0, later.1)

  -- both begin with what is said up to the first run that is not clean
  abbrev BothBegin : List Said → (lines : List (List ℕ)) → Script → Type 0
  BothBegin first lines s = Begins first (through true part stops lines s).said × Begins first (through false part stops lines s).said

  begin-alike : (lines : List (List ℕ)) (s : Script) → IsSound part s.debugger → BothBegin (clean_said part stops lines s) lines s
  begin-alike [] s sound = (begins-itself s.said, begins-itself s.said)
  begin-alike (line ∷ lines) s sound =
      by_clean (clean_line part stops s.ending line s) refl (begin-alike lines t (sound-line false line s sound))
    where
      t : Script
      t = line_in false part stops s.ending line s

      u : Script
      u = line_in true part stops s.ending line s

      by_clean : (b : Bool) → clean_line part stops s.ending line s ≡ b → BothBegin (clean_said part stops lines t) lines t →
          BothBegin (elim b [ true ↦ clean_said part stops lines t | false ↦ t.said ]) (line ∷ lines) s
      by_clean true clean both = (
        subst (λ (x : Script). Begins (clean_said part stops lines t) (through true part stops lines x).said)
            (sym (line-same s.ending line s sound clean)) both.0,
        both.1,
      )
      by_clean false unclean both = (
        subst (λ (said : List Said). Begins said (through true part stops lines u).said) (line-said s.ending line s sound)
            (through-says true lines u),
        through-says false lines t,
      )

-- the texts of what is said first begin both
begin_texts : (said all others : List Said) (text other : List ℕ) → Begins said all → Begins said others → AreTexts all text →
    AreTexts others other → BeginAlike said text other
begin_texts said all others text other first second texts other_texts =
    let one = texts-append said first.0 text (subst (λ (t : List Said). AreTexts t text) first.1 texts) in
    let two = texts-append said second.0 other (subst (λ (t : List Said). AreTexts t other) second.1 other_texts) in
    record {
      first = one.0;
      later = one.1;
      other_later = two.1;
      texts = one.2;
      text_begins = one.4;
      other_begins = two.4 ∙ ap (λ (t : List ℕ). t ++ two.1) (same_texts said two.0 one.0 two.2 one.2);
    }

module _ (part : Chip) (stops prog : List ℕ) (device : Device) (lines : List (List ℕ)) (full : length prog ≡ words_of part)
    (fit : IsFit part device) where
  abbrev start : Debugger
  start = opened part prog device

  sound_start : IsSound part start
  sound_start = (opened_is_sound part prog device full fit).0

  -- the debugger behind a clean script is the same
  ends-same : clean_script part stops lines (begun start) ≡ true →
      (script true part stops prog device lines ≡ script false part stops prog device lines) ×
      (left_behind true part stops (script true part stops prog device lines) ≡
      left_behind false part stops (script false part stops prog device lines))
  ends-same clean =
      let same = clean-same part stops lines (begun start) sound_start clean in
      let plain = script false part stops prog device lines in
      let end = line_end part [] plain.debugger in
      let sound : IsSound part plain.debugger =
      keeps-through false part stops (λ commands d. IsSound part d)
      (λ t command h. (moves-over false part stops (asked_in t command ∷ []) t.debugger).sound h) lines (begun start) sound_start in (
        same.0,
        ap (λ (s : Script). left_behind true part stops s) same.0 ∙
            settled_same part stops end.mode end ((moves-line_end part [] plain.debugger.mode plain.debugger).sound sound) same.1,
      )

  -- each is closed, and leaves its program
  closes : (planted : Bool) (end : Debugger) → end ≡ left_behind planted part stops (script planted part stops prog device lines) →
      (is_closed end.mode ≡ true) × LeavesProgram device end
  closes planted end is_end =
      let s = script planted part stops prog device lines in
      subst (λ (e : Debugger). (is_closed e.mode ≡ true) × LeavesProgram device e)
      (sym (is_end ∙ scripts_are_sessions planted part stops prog device lines))
      (replays_close planted part stops prog device (requests_of 0 s.commands) [] full fit)

pub transcripts_agree : TranscriptsAgree
transcripts_agree part stops prog device lines text plain_text ending plain_ending end plain_end full fit patched plain =
    let both = begin-alike part stops lines (begun (opened part prog device)) (sound_start part stops prog device lines full fit) in
    let shut = closes part stops prog device lines full fit true end patched.is_end in
    let plain_shut = closes part stops prog device lines full fit false plain_end plain.is_end in
    record {
      clean = λ clean. let same = ends-same part stops prog device lines full fit clean in (
        same_texts (script false part stops prog device lines).said text plain_text
            (subst (λ (s : Script). AreTexts s.said text) same.0 patched.texts) plain.texts,
        patched.is_ending ∙ ap (λ (s : Script). s.ending) same.0 ∙ sym plain.is_ending,
        patched.is_end ∙ same.1 ∙ sym plain.is_end,
      );
      first = begin_texts (clean_said part stops lines (begun (opened part prog device)))
          (script true part stops prog device lines).said (script false part stops prog device lines).said text plain_text both.0 both.1
          patched.texts plain.texts;
      closed = (shut.0, plain_shut.0);
      leaves = (shut.1, plain_shut.1);
    }
