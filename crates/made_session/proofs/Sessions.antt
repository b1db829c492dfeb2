-- A replay of the line of a made session is the made session.
use Rattle.std.proofs.Common.{◌≡◌, ℕ, ◌+◌, ◌≤◌, ◌⊎◌, inl, inr, Bool, true, false, not, Some, List, [], ◌++◌, length, fold}
use Rattle.std.proofs.Common.{sym, ap, subst, ◌∙◌, arith, append_assoc, append-nil, length-append}
use Rattle.std.specs.List.{flat_map}
use Rattle.part_spec.specs.declared.part.Part.{Part}
use Rattle.part_spec.specs.Chip.{Chip, chip_of}
use Rattle.line_spec.specs.Frames.{IsBytes, bytes_of}
use Rattle.debug_spec.specs.Device.{Device}
use Rattle.debug_spec.specs.Moved.{Flash, Moved}
use Rattle.debug_spec.specs.Debugger.{Debugger, closed, opened}
use Rattle.debug_spec.specs.Replay.{IsReplay, bytes_sent}
use Rattle.debug_spec.proofs.OneChunk.{one_replay}
use Rattle.run_control.specs.declared.job.Job.{Job}
use Rattle.ice_emul.specs.declared.emulator.Emulator.{Emulator}
use Rattle.ice_emul.specs.declared.session.Totals.{Totals}
use Rattle.ice_line.specs.Lines.{Line, line_at}
use Rattle.ice_replay.specs.Lines.{WritesLate}
use Rattle.ice_replay.specs.Endings.{EndsLine, ReplaysBy, ClosesBy, SignsBy, SignsOff, Replays, AreTotals}
use Rattle.ice_replay.specs.declared.session.End.{End}
use Rattle.ice_replay.specs.declared.session.End.TheVariants.{Okay, Flash as Fault, Read, Write, TooLong}
use Rattle.ice_replay.specs.declared.session.Replayed.{Replayed}
use Rattle.shell_spec.specs.Generator.{made_bytes, made_commands, made_program, made_session, made_stops, made_summary}
use Rattle.shell_spec.specs.Sent.{events_in, replies_in}
use Rattle.shell_spec.proofs.Made.{made_are_replays}
use Rattle.made_session.specs.Counting.{counted, start, summed_up}
use Rattle.made_session.specs.Making.{Makes, restored_by}
use Rattle.made_session.specs.declared.count.Count.{Count}
use Rattle.made_session.specs.declared.session.Made.{Made}
use Rattle.made_session.proofs.Sends.{made_sends}
use Rattle.made_session.proofs.Signing.{signed_off}
use Rattle.made_session.proofs.Sizes.{length-made, length-made_bytes}
use Rattle.made_session.proofs.Tallies.{tells}

-- no put failed, so all was told
all_told : (late : Bool) (told out : List ℕ) → WritesLate late (Some []) (Some told) 0 0 out → told ≡ out
all_told false told out all = all
all_told true told out front = absurd (omega (arith, front.1))

-- some front of the line was read, and these bytes were told
module _ (part : Chip) (seed count : ℕ) (few : count ≤ 100000) (bytes extra left_now told ahead out : List ℕ) (signed late : Bool) (valid : IsBytes bytes)
    (read : made_bytes seed count ≡ (bytes ++ extra) ++ left_now) where
  abbrev before : Line
  before = line_at (Some (made_bytes seed count)) 0 (Some []) 0

  abbrev after : Line
  after = line_at (Some left_now) 0 (Some told) 0

  abbrev prog : List ℕ
  prog = made_program part

  joined : bytes ++ (extra ++ left_now) ≡ made_bytes seed count
  joined = sym (append_assoc bytes extra left_now) ∙ sym read

  -- the session is the made one
  is_made : (device : Device) (last : Debugger) → (signed ≡ true) ⊎ ((extra ≡ []) × (left_now ≡ [])) →
      IsReplay true part made_stops prog device bytes last → SignsOff signed part made_stops prog device bytes →
      last ≡ made_session true part seed count device
  is_made device last (inl is_signed) own signs =
      signed_off true part made_stops prog device bytes (extra ++ left_now) (made_bytes seed count) signs.0 last
      (made_session true part seed count device) joined valid signs.1 (signs.2 ∙ ap not is_signed) own
      (made_are_replays true part seed count device)
  is_made device last (inr ended) own signs =
      let all : bytes ≡ made_bytes seed count =
      sym (append-nil bytes) ∙ ap (λ (t : List ℕ). bytes ++ t) (sym (ap (λ (t : List ℕ). t ++ left_now) ended.0 ∙ ended.1)) ∙ joined in
      one_replay true part made_stops prog device (made_bytes seed count) last (made_session true part seed count device)
      (subst (λ (t : List ℕ). IsReplay true part made_stops prog device t last) all own)
      (made_are_replays true part seed count device)

  -- how it ends, and what was told
  record Ended (end : End) (device : Device) (last : Debugger) : Type 0 where
    is : last ≡ made_session true part seed count device
    closes : last.mode ≡ closed (restored_by end)
    told_all : told ≡ out

  ended_by : (end : End) (device : Device) (last : Debugger) → EndsLine end signed late before after bytes extra ahead out →
      ReplaysBy end part made_stops prog device bytes last → ClosesBy end last.mode → SignsBy end signed late ahead part made_stops prog device bytes →
      Ended end device last
  ended_by Okay device last line own closes signs =
      record { is = is_made device last line.1 own signs; closes = closes; told_all = line.0 }
  ended_by Fault device last line own closes signs =
      record { is = is_made device last line.2 own signs.0; closes = closes; told_all = all_told late told out line.0 }
  ended_by Read device last line own closes signs = absurd (omega (arith, line.3))
  ended_by Write device last line own closes signs = absurd (omega (arith, line.2.1))
  ended_by TooLong device last line own closes signs =
      absurd (omega (arith, line.3, few, length-made_bytes seed count, ap length joined, length-append bytes (extra ++ left_now)))

-- the summary by what the bytes sent come to
same_summary : (part : Chip) (seed count : ℕ) (device : Device) (told : List ℕ) (given : Count) → count ≤ 100000 →
    bytes_sent (made_session true part seed count device) ≡ told → given ≡ fold counted start told →
    summed_up (count + 1) given.replies given.events given.check ≡ made_summary true part seed count device
same_summary part seed count device told given few sent is =
    let last = made_session true part seed count device in
    let all = made_sends true part seed count device in
    let counts = tells last.sent all.small (omega (arith, all.few, few)) in
    let same : given ≡ fold counted start (flat_map bytes_of last.sent) = is ∙ ap (fold counted start) (sym sent) in
    ap (λ (taken : ℕ). summed_up taken given.replies given.events given.check) (sym (length-made seed count)) ∙
    ap (λ (n : ℕ). summed_up (length (made_commands seed count)) n given.events given.check)
    (ap (λ (c : Count). c.replies) same ∙ counts.replies) ∙
    ap (λ (n : ℕ). summed_up (length (made_commands seed count)) (length (replies_in last.sent)) n given.check)
    (ap (λ (c : Count). c.events) same ∙ counts.events) ∙
    ap (summed_up (length (made_commands seed count)) (length (replies_in last.sent)) (length (events_in last.sent)))
    (ap (λ (c : Count). c.check) same ∙ counts.check)

module _ {F : Type 0} (flash : Flash F) (part_of : F → Part) (e : Emulator F) (own : Job F) (seed count : ℕ) (few : count ≤ 100000)
    (ran : Replayed F) (stops left_then left_now told_then told : List ℕ) (by_stops : stops ≡ made_stops)
    (at_start : left_then ≡ made_bytes seed count) (none : told_then ≡ [])
    (replayed : Replays flash part_of e own stops ran (line_at (Some left_then) 0 (Some told_then) 0) (line_at (Some left_now) 0 (Some told) 0))
    (given : Count) (counts : given ≡ fold counted start told) where
  abbrev Ran : (stops left_then told_then : List ℕ) → Type 0
  Ran numbers left_first told_first =
      Replays flash part_of e own numbers ran (line_at (Some left_first) 0 (Some told_first) 0) (line_at (Some left_now) 0 (Some told) 0)

  r : Ran made_stops (made_bytes seed count) []
  r =
      subst (λ (t : List ℕ). Ran made_stops (made_bytes seed count) t) none
      (subst (λ (t : List ℕ). Ran made_stops t told_then) at_start (subst (λ (t : List ℕ). Ran t left_then told_then) by_stops replayed))

  -- what was made of it
  pub makes : (result : Made F) → result.flash ≡ ran.flash → result.totals ≡ ran.totals → result.restored ≡ restored_by ran.end →
      result.summary.items ≡ summed_up (count + 1) given.replies given.events given.check →
      Makes flash part_of e own seed count result
  makes result same_flash same_totals restores line = record {
    asks = r.asks;
    moved = subst (λ (f : F). Moved flash own.flash r.asks f) (sym same_flash) r.moved;
    leads = λ device left stands answered.
        let part = chip_of e.tool.plan.part in
        let led = r.leads (made_program part) device left stands answered in
        let ended = ended_by part seed count few r.bytes r.extra left_now told r.ahead r.out r.signed r.late r.read.valid r.read.consumed ran.end device
        led.0 r.line led.1 led.2 led.3 in
        let Holds : Debugger → Type 0 = λ s. (s.mode ≡ closed result.restored) × (s.device.outcomes ≡ left) ×
        (s.device.asked ≡ (opened part (made_program part) device).device.asked ++ r.asks) ×
        (s.device.words ≡ flash.words result.flash) × AreTotals result.totals s in
        let all : Holds led.0 = (
          ended.closes ∙ ap closed (sym restores),
          led.5,
          led.6,
          led.7 ∙ ap flash.words (sym same_flash),
          subst (λ (t : Totals). AreTotals t led.0) (sym same_totals) led.8,
        ) in
        let made = subst Holds ended.is all in
        let sent : bytes_sent (made_session true part seed count device) ≡ told =
        ap bytes_sent (sym ended.is) ∙ led.4 ∙ sym ended.told_all in
        (made.0, made.1, made.2, made.3, made.4, line ∙ same_summary part seed count device told given few sent counts);
  }
