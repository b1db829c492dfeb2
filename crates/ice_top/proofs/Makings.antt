-- A made session that has begun, and how the call ends with it.
use Rattle.std.proofs.Common.{◌≡◌, ℕ, ◌<◌, ◌≤◌, ◌^◌, Bool, true, false, inl, inr, List, [], ◌++◌, refl, sym, ap, ◌∙◌, subst, arith}
use Rattle.std.specs.Prelude.{codes, length}
use Rattle.part_spec.specs.declared.part.Part.{Part}
use Rattle.part_spec.specs.Chip.{Chip, chip_of, words_of}
use Rattle.debug_spec.specs.Device.{Asked, Device}
use Rattle.debug_spec.specs.Moved.{Flash}
use Rattle.debug_spec.specs.PageLaws.{AreAnswered}
use Rattle.debug_spec.specs.Opening.{IsOpened}
use Rattle.debug_spec.specs.Debugger.{closed, opened}
use Rattle.debug_spec.specs.SessionLaws.{LeavesProgram}
use Rattle.debug_spec.proofs.Sessions.{replays_close}
use Rattle.shell_spec.specs.Generator.{made_commands, made_program, made_stops, made_summary}
use Rattle.shell_spec.specs.Sent.{requests_of}
use Rattle.shell_spec.proofs.Made.{made_are_replays}
use Rattle.ice_emul.specs.Session.{Begins}
use Rattle.ice_emul.specs.Standing.{StandsFor, held}
use Rattle.ice_emul.specs.declared.emulator.Emulator.{Emulator}
use Rattle.ice_line.specs.Lines.{Writes}
use Rattle.ice_replay.specs.Endings.{AreTotals}
use Rattle.made_session.specs.Making.{Makes}
use Rattle.made_session.specs.declared.session.Made.{Made}
use Rattle.made_session.proofs.Sizes.{length-made_bytes}
use Rattle.ice_top.specs.Notes.{line, totals as totals_line}
use Rattle.ice_top.specs.Outside.{Ends, Noted}
use Rattle.ice_top.specs.Replays.{device_of, line_of_totals, DidNotBegin}
use Rattle.ice_top.specs.Makings.{made_by, MadeSession, status_by, MadeBy}
use Rattle.ice_top.specs.declared.status.Status.{Status}
use Rattle.ice_top.specs.declared.status.Status.TheVariants.{Okay, Usage, Image, Loader, Read, Write, Flash as Unwritten, Memory, TooLong}
use Rattle.ice_top.specs.declared.status.Status.TheVariants.{NoThread, Link, Refuted}
use Rattle.ice_top.proofs.Dropping.{replay_drops}
use Rattle.ice_top.proofs.Sessions.{begun_on, device_by, Noted-writes, same_line}

-- what is made of it: the session, its summary, and its totals
pub record Made_so {F : Type 0} (flash : Flash F) (part : Chip) (seed count : ℕ) (from : F) (result : Made F) : Type 0 where
  pub session : MadeSession flash result.restored part seed count from result.flash
  pub summary : result.summary.items ≡ made_summary true part seed count (device_of (flash.words from) session.asks)
  pub totals : AreTotals result.totals (made_by flash part seed count from session.asks)

module _ {F : Type 0} (flash : Flash F) (part_of : F → Part) (from : F) (e : Emulator F) (seed count : ℕ) (result : Made F)
    (whole : length (flash.words from) ≡ words_of (chip_of (part_of from)))
    (size : length (made_program (chip_of (part_of from))) ≡ words_of (chip_of (part_of from)))
    (begun : Begins flash part_of (made_program (chip_of (part_of from))) from e)
    (makes : Makes flash part_of e begun.own seed count result) where
  abbrev Done : Part → Type 0
  Done p = Made_so flash (chip_of p) seed count from result

  -- it is one of the book
  pub made_so : Done (part_of from)
  made_so =
      let on = begun_on flash part_of (made_program (chip_of (part_of from))) from e whole begun makes.asks result.flash makes.moved in
      let chip : Chip = chip_of e.tool.plan.part in
      let device : Device = device_of (flash.words from) on.asks in
      let stands : StandsFor flash (held e begun.own) (record { held = []; state = opened chip (made_program chip) device }) =
      subst (λ (p : Part). StandsFor flash (held e begun.own) (record { held = []; state = opened chip (made_program (chip_of p)) device }))
      (sym begun.part) on.stands in
      let answered : AreAnswered (opened chip (made_program chip) device).device.outcomes makes.asks [] =
      subst (λ (p : Part). AreAnswered (opened chip (made_program (chip_of p)) device).device.outcomes makes.asks []) (sym begun.part)
      on.answered in
      let asked : (opened chip (made_program chip) device).device.asked ++ makes.asks ≡ on.asks =
      subst (λ (p : Part). (opened chip (made_program (chip_of p)) device).device.asked ++ makes.asks ≡ on.asks) (sym begun.part) on.asked in
      let full : length (made_program chip) ≡ words_of chip =
      subst (λ (p : Part). length (made_program (chip_of p)) ≡ words_of (chip_of p)) (sym begun.part) size in
      let led = makes.leads device [] stands answered in
      let leaves : LeavesProgram device (made_by flash chip seed count from on.asks) =
      (replays_close true chip made_stops (made_program chip) device (requests_of 0 (made_commands seed count)) [] full on.fit).1 in
      subst Done begun.part (record {
        session = record {
          asks = on.asks;
          moved = on.moved;
          fit = on.fit;
          opens = subst (λ (p : Part). IsOpened chip (made_program (chip_of p)) device) (sym begun.part) on.opens;
          closes = led.0;
          device = device_by (made_by flash chip seed count from on.asks).device (flash.words result.flash) on.asks [] led.3
              (led.2 ∙ asked) led.1;
          leaves = λ well. sym led.3 ∙ leaves.restored (led.0 ∙ ap closed well);
        };
        summary = led.5;
        totals = led.4;
      })

-- nothing that counts is dropped
few_made : {F : Type 0} (flash : Flash F) (part : Chip) (seed count : ℕ) (from : F) (asks : List Asked) → count ≤ 100000 →
    (made_by flash part seed count from asks).dropped < 2 ^ 64
few_made flash part seed count from asks few =
    let device : Device = device_of (flash.words from) asks in
    let drops = replay_drops part made_stops (made_program part) device _ (made_by flash part seed count from asks)
    (made_are_replays true part seed count device) in
    omega (arith, drops, length-made_bytes seed count, few)

-- how the call ends with it
made_ends : {F : Type 0} (flash : Flash F) (restored summed noted : Bool) (part : Chip) (seed count : ℕ) (before after : Ends) (from to : F) →
    (s : MadeSession flash restored part seed count from to) →
    Writes summed before.line.written after.line.written before.line.sink_faults after.line.sink_faults
    (made_summary true part seed count (device_of (flash.words from) s.asks)) →
    (after.line.left ≡ before.line.left) × (after.line.source_faults ≡ before.line.source_faults) →
    Writes noted before.noted after.noted before.notes_faults after.notes_faults
    (line_of_totals (made_by flash part seed count from s.asks)) →
    MadeBy flash (status_by restored summed noted) part seed count before after from to
made_ends flash false true noted part seed count before after from to s w still n = inl (s, inl (w, still), Noted-writes noted _ _ _ _ _ n)
made_ends flash false false noted part seed count before after from to s w still n = inl (s, inr (w, still), Noted-writes noted _ _ _ _ _ n)
made_ends flash true false noted part seed count before after from to s w still n = (s, inl ((w, still), Noted-writes noted _ _ _ _ _ n))
made_ends flash true true false part seed count before after from to s w still n = (s, inr ((w, still), n.1, n.0))
made_ends flash true true true part seed count before after from to s w still n = (s, (w, still), n)

pub MadeBy-session : {F : Type 0} (flash : Flash F) (part_of : F → Part) (from : F) (e : Emulator F) (seed count : ℕ) (result : Made F)
    (summed noted : Bool) (summary text : List ℕ) (status : Status) (before after : Ends) →
    length (flash.words from) ≡ words_of (chip_of (part_of from)) →
    length (made_program (chip_of (part_of from))) ≡ words_of (chip_of (part_of from)) → count ≤ 100000 →
    (begun : Begins flash part_of (made_program (chip_of (part_of from))) from e) → Makes flash part_of e begun.own seed count result →
    summary ≡ result.summary.items →
    Writes summed before.line.written after.line.written before.line.sink_faults after.line.sink_faults summary →
    (after.line.left ≡ before.line.left) × (after.line.source_faults ≡ before.line.source_faults) →
    text ≡ totals_line result.totals.cycles result.totals.steps result.totals.writes result.totals.dropped →
    Writes noted before.noted after.noted before.notes_faults after.notes_faults text →
    status ≡ status_by result.restored summed noted →
    MadeBy flash status (chip_of (part_of from)) seed count before after from result.flash
MadeBy-session flash part_of from e seed count result summed noted summary text status before after whole size few begun makes sums
    wrote still said notes is =
    let chip : Chip = chip_of (part_of from) in
    let m = made_so flash part_of from e seed count result whole size begun makes in
    let Summed : List ℕ → Type 0 = λ x.
    Writes summed before.line.written after.line.written before.line.sink_faults after.line.sink_faults x in
    let Told : List ℕ → Type 0 = λ x. Writes noted before.noted after.noted before.notes_faults after.notes_faults x in
    let small = few_made flash chip seed count from m.session.asks few in
    subst (λ (x : Status). MadeBy flash x chip seed count before after from result.flash) (sym is)
    (made_ends flash result.restored summed noted chip seed count before after from result.flash m.session
    (subst Summed (sums ∙ m.summary) wrote) still
    (subst Told (said ∙ same_line result.totals (made_by flash chip seed count from m.session.asks) m.totals small) notes))

-- no session was made
pub MadeBy-not : {F : Type 0} (flash : Flash F) (status : Status) (part : Chip) (seed count : ℕ) (before after : Ends) (from to : F) →
    DidNotBegin flash status part (made_program part) before after from to → MadeBy flash status part seed count before after from to
MadeBy-not flash Memory part seed count before after from to d = d
MadeBy-not flash Unwritten part seed count before after from to d = inr d
MadeBy-not flash Okay part seed count before after from to d = absurd d
MadeBy-not flash Usage part seed count before after from to d = absurd d
MadeBy-not flash Image part seed count before after from to d = absurd d
MadeBy-not flash Loader part seed count before after from to d = absurd d
MadeBy-not flash Read part seed count before after from to d = absurd d
MadeBy-not flash Write part seed count before after from to d = absurd d
MadeBy-not flash TooLong part seed count before after from to d = absurd d
MadeBy-not flash NoThread part seed count before after from to d = absurd d
MadeBy-not flash Link part seed count before after from to d = absurd d
MadeBy-not flash Refuted part seed count before after from to d = absurd d

-- the part of the words is the part of the flash
pub MadeBy-part : {F : Type 0} (flash : Flash F) (status : Status) (said part : Part) (seed count : ℕ) (before after : Ends)
    (from to : F) → said ≡ part → MadeBy flash status (chip_of part) seed count before after from to →
    MadeBy flash status (chip_of said) seed count before after from to
MadeBy-part flash status said part seed count before after from to same made =
    subst (λ (p : Part). MadeBy flash status (chip_of p) seed count before after from to) (sym same) made

-- there was no memory for its program
pub MadeBy-memory : {F : Type 0} (flash : Flash F) (status : Status) (part : Chip) (seed count : ℕ) (before after : Ends) (from : F) →
    after.line ≡ before.line → Noted before.noted after.noted before.notes_faults after.notes_faults (line (codes "memory")) →
    status ≡ Memory → MadeBy flash status part seed count before after from from
MadeBy-memory flash status part seed count before after from still noted is =
    subst (λ (x : Status). MadeBy flash x part seed count before after from from) (sym is) ((still, noted), refl)
