-- How many bytes the lines of a script send at most.
use Rattle.std.proofs.Common.{◌≡◌, ℕ, suc, ◌+◌, ◌*◌, ◌≤◌, Bool, true, false, List, [], ◌∷◌, ◌++◌, length, ap, arith}
use Rattle.std.proofs.Common.{length-append, Option, None, Some}
use Rattle.std.specs.Prelude.{All, Result, Ok, Err}
use Rattle.part_spec.specs.declared.part.Part.{Part}
use Rattle.line_spec.specs.Frames.{body_limit}
use Rattle.line_spec.specs.Messages.{Command, command_body, ignored_written}
use Rattle.line_spec.proofs.FrameBytes.{length-bytes_of}
use Rattle.debug_spec.specs.Moved.{Flash}
use Rattle.host_session.specs.Standing.{Hosted}
use Rattle.host_session.specs.Words.{Sent}
use Rattle.host_session.specs.Calls.{command_bytes}
use Rattle.shell_spec.specs.declared.error.LineError.{LineError}
use Rattle.shell_spec.specs.Lines.{Line}
use Rattle.shell_spec.specs.Reading.{reading}
use Rattle.shell_spec.specs.Sends.{command_of, is_wait}
use Rattle.shell_spec.specs.Text.{IsEnded, joined, with_last}
use Rattle.debug_shell.specs.Transcript.{Asks, AwaitsOrIdles, DoesBy, DoesRead, Runs, RunsAll}
use Rattle.debug_shell.specs.declared.script_end.After.{After}
use Rattle.debug_shell.specs.declared.script_end.After.TheVariants.{Goes}
use Rattle.script_laws.proofs.Hosting.{asked_first, same_request, same_event}
use Rattle.ice_script.specs.Wires.{WireState, takes, waiting, wire_words}
use Rattle.ice_script.proofs.Ways.{Same, SendsIf, frame_limit, gives, never_sends}

-- no more than a frame was sent
abbrev pub SpendsFew : {F : Type 0} → Hosted (WireState F) → Hosted (WireState F) → Type 0
SpendsFew host now = host.standing.link.allowed ≤ now.standing.link.allowed + frame_limit

module _ {F : Type 0} (flash : Flash F) (part_of : F → Part) where
  sent_few : (number : ℕ) (command : Command) (a b : WireState F) → length (command_body command (ignored_written command)) ≤ body_limit →
      Sent (wire_words flash part_of) a (command_bytes number command) b → a.allowed ≤ b.allowed + frame_limit
  sent_few number command a b size sent = by_test (takes a (command_bytes number command)) sent.0
    where
      by_test : (t : Bool) → SendsIf flash part_of t a (command_bytes number command) b → a.allowed ≤ b.allowed + frame_limit
      by_test true h = omega (
        arith,
        h.1,
        length-bytes_of (record { number = number; body = command_body command (ignored_written command) }),
        size,
      )
      by_test false h = omega (arith, ap (λ (w : WireState F). w.allowed) h)

  command_few : (line : Line) (command : Command) (host now : Hosted (WireState F)) (text : List ℕ) (way : After) →
      Asks (wire_words flash part_of) line command host text now way → SpendsFew host now
  command_few line command host now text way r =
      let first = asked_first (wire_words flash part_of) host.number command host.standing r.result now.standing
      (λ link f. never_sends flash part_of host.standing.link (command_bytes host.number command) link f) r.requests in
      let same = same_request (WireState F) (wire_words flash part_of) waiting Same (gives flash part_of) host.number first.0 r.result
      now.standing first.2 in
      omega (arith, sent_few host.number command host.standing.link first.0.link r.size first.1.sent, same.allowed)

  still_few : (host now : Hosted (WireState F)) → now ≡ host → SpendsFew host now
  still_few host now same = omega (arith, ap (λ (h : Hosted (WireState F)). h.standing.link.allowed) same)

  unasked_few : (b : Bool) (host now : Hosted (WireState F)) (text : List ℕ) (way : After) →
      AwaitsOrIdles (wire_words flash part_of) b host text now way → SpendsFew host now
  unasked_few true host now text way r =
      let same = same_event (WireState F) (wire_words flash part_of) waiting Same (gives flash part_of) host.standing.kept host.standing
      r.result now.standing r.gives in
      omega (arith, same.allowed)
  unasked_few false host now text way r = still_few host now r.same

  by_few : (line : Line) (o : Option Command) (host now : Hosted (WireState F)) (text : List ℕ) (way : After) →
      DoesBy (wire_words flash part_of) line o host text now way → SpendsFew host now
  by_few line None host now text way r = unasked_few (is_wait line) host now text way r
  by_few line (Some command) host now text way r = command_few line command host now text way r

  read_few : (read : Result Line LineError) (host now : Hosted (WireState F)) (text : List ℕ) (way : After) →
      DoesRead (wire_words flash part_of) read host text now way → SpendsFew host now
  read_few (Ok line) host now text way r = by_few line (command_of line) host now text way r
  read_few (Err error) host now text way r = still_few host now r.same

  pub line_few : (line : List ℕ) (host now : Hosted (WireState F)) (text : List ℕ) (way : After) →
      Runs (wire_words flash part_of) line host text now way → SpendsFew host now
  line_few line host now text way r = read_few (reading line) host now text way r

  pub lines_few : (lines : List (List ℕ)) (host now : Hosted (WireState F)) (text : List ℕ) →
      RunsAll (wire_words flash part_of) lines host text now →
      host.standing.link.allowed ≤ now.standing.link.allowed + frame_limit * length lines
  lines_few [] host now text r = omega (arith, ap (λ (h : Hosted (WireState F)). h.standing.link.allowed) r.1)
  lines_few (line ∷ lines) host now text r =
      omega (arith, line_few line host r.0 r.1 Goes r.3, lines_few lines r.0 now r.2 r.4)

-- a line has a byte at least
pub few_lines : (lines : List (List ℕ)) → All IsEnded lines → length lines ≤ length (joined lines)
few_lines [] all = omega arith
few_lines (line ∷ lines) all =
    let first : IsEnded line = all 0 line (omega arith) in
    let more = few_lines lines (λ k d inside. all (suc k) d (omega (arith, inside))) in
    omega (arith, ap length first.whole, length-append first.front (10 ∷ []), length-append line (joined lines), more)

pub few_with_last : (lines : List (List ℕ)) (behind : List ℕ) → All IsEnded lines →
    length (with_last lines behind) ≤ length (joined lines ++ behind)
few_with_last lines [] all = omega (arith, few_lines lines all, length-append (joined lines) [])
few_with_last lines (byte ∷ behind) all = omega (
  arith,
  few_lines lines all,
  length-append (joined lines) (byte ∷ behind),
  length-append lines ((byte ∷ behind) ∷ []),
)
