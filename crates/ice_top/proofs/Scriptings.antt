-- A script whose host has opened is one of the book, and ends so.
use Rattle.std.proofs.Common.{◌≡◌, ℕ, Bool, true, false, inl, inr, List, [], length}
use Rattle.std.proofs.Common.{refl, sym, ap, ◌∙◌, subst, arith}
use Rattle.part_spec.specs.declared.part.Part.{Part}
use Rattle.part_spec.specs.Chip.{Chip, chip_of, words_of}
use Rattle.debug_spec.specs.Moved.{Flash}
use Rattle.debug_spec.specs.Debugger.{Debugger}
use Rattle.debug_spec.specs.SessionLaws.{is_closed, LeavesProgram}
use Rattle.debug_spec.specs.Device.{Device}
use Rattle.debug_spec.proofs.Sessions.{replays_close}
use Rattle.shell_spec.specs.Script.{script}
use Rattle.shell_spec.specs.Sent.{requests_of}
use Rattle.shell_spec.proofs.Scripts.{scripts_are_sessions}
use Rattle.shell_spec.proofs.ScriptsAlike.{transcripts_agree}
use Rattle.debug_shell.specs.declared.script_end.ScriptEnd.{ScriptEnd}
use Rattle.debug_shell.specs.declared.script_end.ScriptEnd.TheVariants.{Done, Read as Unread, Write as Unsent, Link as Unanswered}
use Rattle.debug_shell.specs.declared.script_end.ScriptEnd.TheVariants.{TooLong as Long}
use Rattle.ice_emul.specs.Session.{Begins}
use Rattle.ice_emul.specs.declared.emulator.Emulator.{Emulator}
use Rattle.ice_line.specs.Lines.{Line, Writes}
use Rattle.ice_replay.specs.Endings.{AreTotals}
use Rattle.ice_script.specs.Scripts.{Scripts}
use Rattle.ice_script.specs.declared.session.Scripted.{Scripted as Ran}
use Rattle.ice_top.specs.Notes.{totals as totals_line}
use Rattle.ice_top.specs.Outside.{Ends, Outside, Loads}
use Rattle.ice_top.specs.Words.{script as script_form}
use Rattle.ice_top.specs.Replays.{device_of, DidNotBegin}
use Rattle.ice_top.specs.Scripts.{ScriptSession, Scripted, script_status, status_behind}
use Rattle.ice_top.specs.Plain.{IsScriptAsPlain}
use Rattle.ice_top.specs.Endings.{EndsAs}
use Rattle.ice_top.specs.Unopened.{IsUnopened}
use Rattle.ice_top.specs.declared.status.Status.{Status}
use Rattle.ice_top.specs.declared.status.Status.TheVariants.{Okay, Usage, Image, Loader, Read, Write, Flash as Unwritten, Memory, TooLong}
use Rattle.ice_top.specs.declared.status.Status.TheVariants.{NoThread, Link, Refuted}
use Rattle.ice_top.proofs.Dropping.{requests_drop_none}
use Rattle.ice_top.proofs.Sessions.{device_by, begun_on, same_line}

module _ {F : Type 0} (flash : Flash F) (part_of : F → Part) (program stops : List ℕ) (from : F) (e : Emulator F) (result : Ran F)
    (before after : Line) (size : length program ≡ words_of (chip_of (part_of from)))
    (whole : length (flash.words from) ≡ words_of (chip_of (part_of from))) (begun : Begins flash part_of program from e)
    (ran : Scripts flash e begun.own stops result before after) where
  abbrev Done_on : Part → Type 0
  Done_on p =
      (s : ScriptSession flash result.end result.signed result.restored (chip_of p) program stops before after from result.flash) ×
      AreTotals result.totals s.last

  script_session : Done_on (part_of from)
  script_session =
      let on = begun_on flash part_of program from e whole begun ran.asks result.flash ran.moved in
      let led = ran.leads program (device_of (flash.words from) on.asks) [] on.stands on.answered in
      subst Done_on begun.part (
        record {
          asks = on.asks;
          moved = on.moved;
          size = size ∙ ap (λ (p : Part). words_of (chip_of p)) (sym begun.part);
          fit = on.fit;
          opens = on.opens;
          lines = ran.lines;
          earlier = ran.earlier;
          text = ran.text;
          first = ran.first;
          ending = ran.ending;
          ends = ran.ends;
          last = led.0;
          scripted = led.1;
          device = device_by led.0.device (flash.words result.flash) on.asks [] led.4 (led.3 ∙ on.asked) led.2;
        },
        led.5,
      )

-- a script is a session over requests alone, which drops nothing, and is closed
module _ {F : Type 0} (flash : Flash F) (end : ScriptEnd) (signed restored : Bool) (part : Chip) (program stops : List ℕ)
    (before after : Line) (from to : F) (s : ScriptSession flash end signed restored part program stops before after from to) where
  abbrev device : Device
  device = device_of (flash.words from) s.asks

  drops_none : s.last.dropped ≡ 0
  drops_none =
      ap (λ (d : Debugger). d.dropped) (s.scripted.transcript.is_end ∙ scripts_are_sessions true part stops program device s.lines) ∙
      requests_drop_none part stops program device 0 (script true part stops program device s.lines).commands

  pub script_as_plain : IsScriptAsPlain flash end signed restored part program stops before after from to s
  script_as_plain plain_text plain_ending plain is =
      transcripts_agree part stops program device s.lines s.text plain_text s.ending plain_ending s.last plain s.size s.fit
      s.scripted.transcript is

  script_leaves : LeavesProgram device s.last
  script_leaves =
      let C : Debugger → Type 0 = λ d. (is_closed d.mode ≡ true) × LeavesProgram device d in
      let closes : C s.last = subst C (sym (s.scripted.transcript.is_end ∙ scripts_are_sessions true part stops program device s.lines))
      (replays_close true part stops program device (requests_of 0 (script true part stops program device s.lines).commands) []
      s.size s.fit) in
      closes.1

pub leaves_program : {F : Type 0} (flash : Flash F) (end : ScriptEnd) (signed : Bool) (part : Chip) (program stops : List ℕ)
    (before after : Line) (from to : F) (s : ScriptSession flash end signed true part program stops before after from to) →
    flash.words to ≡ s.last.prog
leaves_program flash end signed part program stops before after from to s =
    sym (ap (λ (d : Device). d.words) s.device) ∙
    (script_leaves flash end signed true part program stops before after from to s).restored s.scripted.closes

-- a script whose host has opened, is run, and is noted
pub Scripted-ran : {F : Type 0} (flash : Flash F) (part_of : F → Part) (program stops : List ℕ) (from : F) (e : Emulator F)
    (result : Ran F) (noted : Bool) (text : List ℕ) (status : Status) (before after : Ends) →
    length program ≡ words_of (chip_of (part_of from)) → length (flash.words from) ≡ words_of (chip_of (part_of from)) →
    (begun : Begins flash part_of program from e) → Scripts flash e begun.own stops result before.line after.line →
    text ≡ totals_line result.totals.cycles result.totals.steps result.totals.writes result.totals.dropped →
    Writes noted before.noted after.noted before.notes_faults after.notes_faults text →
    status ≡ script_status result.end result.signed result.restored noted →
    Scripted flash status (chip_of (part_of from)) program stops before after from result.flash
Scripted-ran flash part_of program stops from e result noted text status before after size whole begun ran said wrote is =
    let done = script_session flash part_of program stops from e result before.line after.line size whole begun ran in
    let none = drops_none flash result.end result.signed result.restored (chip_of (part_of from)) program stops before.line after.line
    from result.flash done.0 in
    let Wrote : List ℕ → Type 0 = λ x. Writes noted before.noted after.noted before.notes_faults after.notes_faults x in
    inl (record {
      end = result.end;
      signed = result.signed;
      restored = result.restored;
      noted = noted;
      session = done.0;
      is = is;
      notes = subst Wrote (said ∙ same_line result.totals done.0.last done.1 (omega (arith, none))) wrote;
    })

-- the part of the words is the part of the flash
pub Scripted-part : {F : Type 0} (flash : Flash F) (status : Status) (said part : Part) (program stops : List ℕ) (before after : Ends)
    (from to : F) → said ≡ part → Scripted flash status (chip_of part) program stops before after from to →
    Scripted flash status (chip_of said) program stops before after from to
Scripted-part flash status said part program stops before after from to same ran =
    subst (λ (p : Part). Scripted flash status (chip_of p) program stops before after from to) (sym same) ran

-- a session opened
is_opened : Status → Bool
is_opened Okay = true
is_opened Usage = false
is_opened Image = false
is_opened Loader = false
is_opened Read = true
is_opened Write = true
is_opened Unwritten = true
is_opened Memory = false
is_opened TooLong = true
is_opened NoThread = false
is_opened Link = true
is_opened Refuted = false

-- where a script has a status
opened_behind : (end : ScriptEnd) (noted : Bool) → is_opened (status_behind end noted) ≡ true
unfolding is_opened
opened_behind Done true = refl
opened_behind Done false = refl
opened_behind Unread noted = refl
opened_behind Unsent noted = refl
opened_behind Unanswered noted = refl
opened_behind Long noted = refl

opened_by : (end : ScriptEnd) (signed restored noted : Bool) → is_opened (script_status end signed restored noted) ≡ true
unfolding is_opened
opened_by end signed true noted = opened_behind end noted
opened_by end true false noted = refl
opened_by Done false false noted = refl
opened_by Unread false false noted = refl
opened_by Unsent false false noted = refl
opened_by Unanswered false false noted = refl
opened_by Long false false noted = refl

-- so it is none of a call of which no session opened
never_shut : (status : Status) → is_opened status ≡ true → IsUnopened status → ⊥
unfolding is_opened
never_shut Okay o u = u
never_shut Usage o u = cc
never_shut Image o u = cc
never_shut Loader o u = cc
never_shut Read o u = u
never_shut Write o u = u
never_shut Unwritten o u = u
never_shut Memory o u = cc
never_shut TooLong o u = u
never_shut NoThread o u = u
never_shut Link o u = u
never_shut Refuted o u = u

pub never_unopened : (status : Status) (end : ScriptEnd) (signed restored noted : Bool) → status ≡ script_status end signed restored noted →
    IsUnopened status → ⊥
never_unopened status end signed restored noted is =
    never_shut status (ap is_opened is ∙ opened_by end signed restored noted)

-- and no session of a script ends by these
module _ {F : Type 0} (flash : Flash F) (part : Chip) (program stops : List ℕ) (before after : Ends) (from to : F) where
  never : (status : Status) → is_opened status ≡ false → DidNotBegin flash status part program before after from to ≡ ⊥ →
      Scripted flash status part program stops before after from to → ⊥
  never status shut none (inl r) =
      let open_too : is_opened status ≡ true = ap is_opened r.is ∙ opened_by r.end r.signed r.restored r.noted in
      cc
  never status shut none (inr d) = subst (λ (t : Type 0). t) none d

  only_begun : Scripted flash Memory part program stops before after from to → DidNotBegin flash Memory part program before after from to
  unfolding is_opened
  only_begun (inl r) =
      let open_too : is_opened Memory ≡ true = ap is_opened r.is ∙ opened_by r.end r.signed r.restored r.noted in
      absurd cc
  only_begun (inr d) = d

-- a script of a program
pub EndsAs-script : {F : Type 0} (flash : Flash F) (status : Status) (image stops program : List ℕ) (part : Part) (before after : Outside)
    (from to : F) → Loads before.contents part image program → after.loader_faults ≡ before.loader_faults →
    Scripted flash status (chip_of part) program stops before.ends after.ends from to →
    EndsAs flash status (script_form image stops) part before after from to
unfolding is_opened
EndsAs-script flash Okay image stops program part before after from to l f r =
    record { program = program; loads = l; loader = f; ends = r }
EndsAs-script flash Read image stops program part before after from to l f r =
    record { program = program; loads = l; loader = f; ends = r }
EndsAs-script flash Write image stops program part before after from to l f r =
    record { program = program; loads = l; loader = f; ends = r }
EndsAs-script flash TooLong image stops program part before after from to l f r =
    record { program = program; loads = l; loader = f; ends = r }
EndsAs-script flash Unwritten image stops program part before after from to l f r =
    record { program = program; loads = l; loader = f; ends = r }
EndsAs-script flash Link image stops program part before after from to l f r =
    record { program = program; loads = l; loader = f; ends = r }
EndsAs-script flash NoThread image stops program part before after from to l f r =
    record { program = program; loads = l; loader = f; ends = r }
EndsAs-script flash Refuted image stops program part before after from to l f r =
    record { program = program; loads = l; loader = f; ends = r }
EndsAs-script flash Memory image stops program part before after from to l f r =
    only_begun flash (chip_of part) program stops before.ends after.ends from to r
EndsAs-script flash Usage image stops program part before after from to l f r =
    never flash (chip_of part) program stops before.ends after.ends from to Usage refl refl r
EndsAs-script flash Image image stops program part before after from to l f r =
    absurd (never flash (chip_of part) program stops before.ends after.ends from to Image refl refl r)
EndsAs-script flash Loader image stops program part before after from to l f r =
    absurd (never flash (chip_of part) program stops before.ends after.ends from to Loader refl refl r)

pub never_no_thread_script : {F : Type 0} (flash : Flash F) (part : Chip) (program stops : List ℕ) (before after : Ends) (from to : F) →
    Scripted flash NoThread part program stops before after from to → ⊥
unfolding is_opened
never_no_thread_script flash part program stops before after from to = never flash part program stops before after from to NoThread refl refl
