-- A session with a client that has begun and is served is one of the book, and ends so.
use Rattle.std.proofs.Common.{◌≡◌, ◌⊎◌, ℕ, ◌≤◌, Bool, true, false, inl, inr, List, [], ◌∷◌, ◌++◌, map, Option, None, Some}
use Rattle.std.proofs.Common.{refl, sym, ap, ◌∙◌, subst, arith}
use Rattle.std.specs.Prelude.{length, codes, ⊤}
use Rattle.std.specs.List.{All}
use Rattle.std.proofs.lemmas.List.Elements.{All-nil, All-cons}
use Rattle.part_spec.specs.declared.part.Part.{Part}
use Rattle.part_spec.specs.Chip.{Chip, chip_of, words_of}
use Rattle.debug_spec.specs.Device.{Outcome, made, failed, denied, IsOutcome, Asked, write, launch, outcome_of, Device}
use Rattle.debug_spec.specs.Moved.{Flash, Moved}
use Rattle.debug_spec.specs.Opening.{opening}
use Rattle.debug_spec.specs.Replay.{bytes_sent}
use Rattle.ice_base.specs.Counts.{Rose}
use Rattle.ice_emul.specs.Session.{Begins}
use Rattle.ice_emul.specs.declared.emulator.Emulator.{Emulator}
use Rattle.ice_emul.specs.declared.session.Totals.{Totals}
use Rattle.ice_inbox.specs.Ends.{Taken}
use Rattle.ice_inbox.specs.declared.inbox.Note.{Note}
use Rattle.ice_serve.specs.Endings.{EndsBy, ClosesBy, WritesEnd, AreTotals, counts}
use Rattle.ice_serve.specs.Inbox.{notes_of}
use Rattle.ice_serve.specs.Outside.{Outside as Both, outside as place, MovesBoth}
use Rattle.ice_serve.specs.Serving.{threads, RoseBy, Serves as ServesNotes}
use Rattle.ice_serve.specs.declared.notes.End.{End}
use Rattle.ice_serve.specs.declared.notes.End.TheVariants.{Okay as Whole, Flash as Unrestored, Read as Unread, Write as Unsent}
use Rattle.ice_serve.specs.declared.notes.End.TheVariants.{TooLong as Long}
use Rattle.ice_serve.proofs.Both.{both_flash, both_onward}
use Rattle.ice_top.specs.Notes.{line}
use Rattle.ice_top.specs.Opening.{Unread as IsUnread, status_of, line_of}
use Rattle.ice_top.specs.Outside.{NotesStill, NotesLine, NotOpened}
use Rattle.ice_top.specs.declared.opening.Unopened.{Unopened}
use Rattle.ice_top.proofs.Openings.{EndsOnImage-refused}
use Rattle.ice_top.specs.Replays.{device_of, DidNotBegin}
use Rattle.ice_top.specs.Endings.{EndsOnImage}
use Rattle.ice_top.specs.Outside.{Loads}
use Rattle.ice_top.specs.Words.{Says, serving, SaysNoServe}
use Rattle.ice_top.specs.Servings.{Around, ServedSession, ServedRan, status_for, HasNoThread, DidNotServe, RanServed, IsNotServed, ServesBy}
use Rattle.ice_top.specs.declared.status.Status.{Status}
use Rattle.ice_top.specs.declared.status.Status.TheVariants.{Okay, Usage, Image, Loader, Read, Write, Flash as Unwritten, Memory, TooLong}
use Rattle.ice_top.specs.declared.status.Status.TheVariants.{NoThread, Link, Refuted}
use Rattle.ice_top.proofs.Sessions.{device_by, begun_so}

module _ {F : Type 0} (flash : Flash F) where
  -- each page write that failed left the words of a page
  both_fits : (from to : Both F) (asks : List Asked) → MovesBoth flash from asks to → All IsOutcome (map outcome_of asks)
  both_fits from to [] h = All-nil IsOutcome
  both_fits from to (write page content made ∷ asks) h =
      All-cons IsOutcome made (map outcome_of asks) tt (both_fits (place h.0 from.faults) to asks h.2)
  both_fits from to (write page content (failed left) ∷ asks) h =
      All-cons IsOutcome (failed left) (map outcome_of asks) h.1.fits.size (both_fits (place h.0 from.faults) to asks h.2)
  both_fits from to (write page content denied ∷ asks) h = absurd h.1.fits
  both_fits from to (launch made ∷ asks) h =
      All-cons IsOutcome made (map outcome_of asks) tt (both_fits (place from.flash h.0) to asks h.2)
  both_fits from to (launch (failed left) ∷ asks) h = absurd h.1
  both_fits from to (launch denied ∷ asks) h =
      All-cons IsOutcome denied (map outcome_of asks) tt (both_fits (place from.flash h.0) to asks h.2)

module _ {F : Type 0} (flash : Flash F) (part_of : F → Part) (program : List ℕ) (from to : F) (e : Emulator F) (end : End)
    (taken : List Note) (given : Totals) (before after : Around)
    (size : length program ≡ words_of (chip_of (part_of from)))
    (whole : length (flash.words from) ≡ words_of (chip_of (part_of from))) (begun : Begins flash part_of program from e)
    (ran : ServesNotes flash part_of e begun.own taken end to given
    (counts before.outside.ends.line.written before.outside.ends.line.sink_faults before.targets.faults)
    (counts after.outside.ends.line.written after.outside.ends.line.sink_faults after.targets.faults)
    before.targets.threads after.targets.threads) where
  abbrev Done : Part → Type 0
  Done p = (s : ServedSession flash end (chip_of p) program taken before after from to) × AreTotals given s.last.state

  pub served : Done (part_of from)
  served =
      let goes = ran.served.goes in
      let asks : List Asked = begun.asks ++ goes.asks in
      let Moves : List Asked → Type 0 = λ x. MovesBoth flash (place from before.targets.faults) x (place to after.targets.faults) in
      let opened : MovesBoth flash (place from before.targets.faults) begun.asks (place begun.own.flash before.targets.faults) =
      both_flash flash from begun.own.flash before.targets.faults before.targets.faults begun.asks (omega arith) begun.moved in
      let moved : Moves asks = both_onward flash from begun.own.flash before.targets.faults before.targets.faults begun.asks goes.asks
      (place to after.targets.faults) opened goes.moved in
      let on = begun_so flash part_of program from e whole begun goes.asks Moves moved
      (both_fits flash (place from before.targets.faults) (place to after.targets.faults) asks moved) in
      let led = goes.leads program (device_of (flash.words from) on.asks) [] on.stands on.answered in
      subst Done begun.part (
        record {
          asks = on.asks;
          moved = on.moved;
          size = size ∙ ap (λ (p : Part). words_of (chip_of p)) (sym begun.part);
          fit = on.fit;
          opens = on.opens;
          notes = ran.served.notes;
          later = ran.served.later;
          whole = ran.served.whole;
          last = led.0;
          goes = led.1;
          closes = led.2;
          writes = subst (λ (bytes : List ℕ). WritesEnd end before.outside.ends.line.written after.outside.ends.line.written
              before.outside.ends.line.sink_faults after.outside.ends.line.sink_faults bytes) (sym led.3) goes.writes;
          device = device_by led.0.state.device (flash.words to) on.asks [] led.6 (led.5 ∙ on.asked) led.4;
          threads = subst (λ (n : ℕ). RoseBy n before.targets.threads after.targets.threads) (sym led.8) ran.rose;
        },
        led.7,
      )

  -- and a call that served it
  pub ServedRan-of : (status : Status) → status ≡ status_for end → RoseBy 1 before.lines.threads after.lines.threads →
      NotesStill before.outside.ends after.outside.ends →
      ServedRan flash status (chip_of (part_of from)) program taken given before after from to
  ServedRan-of status is lines notes = record {
    end = end;
    session = served.0;
    is = is;
    totals = served.1;
    lines = lines;
    notes = notes;
  }

-- what was served has its notes and totals
pub RanServed-some : {F : Type 0} (flash : Flash F) (status : Status) (part : Chip) (program : List ℕ) (pass : Option Taken)
    (given : Option Totals) (notes : Taken) (totals : Totals) (before after : Around) (from to : F) → pass ≡ Some notes →
    given ≡ Some totals → ServedRan flash status part program notes.taken totals before after from to →
    RanServed flash status part program pass given before after from to
RanServed-some flash status part program pass given notes totals before after from to is gave ran =
    subst (λ (p : Option Taken). RanServed flash status part program p given before after from to) (sym is)
    (subst (λ (t : Option Totals). RanServed flash status part program (Some notes) t before after from to) (sym gave) ran)

-- and what was not has none
pub RanServed-none : {F : Type 0} (flash : Flash F) (status : Status) (part : Chip) (program : List ℕ) (pass : Option Taken)
    (given : Option Totals) (before after : Around) (from to : F) → pass ≡ None → given ≡ None →
    RanServed flash status part program None None before after from to → RanServed flash status part program pass given before after from to
RanServed-none flash status part program pass given before after from to is gave not =
    subst (λ (p : Option Taken). RanServed flash status part program p given before after from to) (sym is)
    (subst (λ (t : Option Totals). RanServed flash status part program None t before after from to) (sym gave) not)

-- the line has no thread, and the flash was made the program
pub HasNoThread-of : {F : Type 0} (flash : Flash F) (part_of : F → Part) (program : List ℕ) (e : Emulator F) (before after : Around)
    (from to : F) → (begun : Begins flash part_of program from e) → to ≡ begun.own.flash →
    NotOpened before.outside.ends after.outside.ends (line (codes "thread")) → Rose before.lines.faults after.lines.faults →
    HasNoThread flash program before after from to
HasNoThread-of flash part_of program e before after from to begun same noted rose = record {
  flash_is = record {
    asks = begun.asks;
    moved = subst (λ (f : _). Moved flash from begun.asks f) (sym same) begun.moved;
    words = ap flash.words same ∙ begun.words;
  };
  noted = noted;
  cause = rose;
}

-- what a session with a client ends by
abbrev CanEnd : Status → Type 0
CanEnd Okay = ⊤
CanEnd Read = ⊤
CanEnd Write = ⊤
CanEnd Unwritten = ⊤
CanEnd TooLong = ⊤
CanEnd Usage = ⊥
CanEnd Image = ⊥
CanEnd Loader = ⊥
CanEnd Memory = ⊥
CanEnd NoThread = ⊥
CanEnd Link = ⊥
CanEnd Refuted = ⊥

can_end : (end : End) (status : Status) → status ≡ status_for end → CanEnd status
can_end Whole status is = subst CanEnd (sym is) tt
can_end Unrestored status is = subst CanEnd (sym is) tt
can_end Unread status is = subst CanEnd (sym is) tt
can_end Unsent status is = subst CanEnd (sym is) tt
can_end Long status is = subst CanEnd (sym is) tt

-- and what one that was not served ends by
abbrev CanFail : Status → Type 0
CanFail Memory = ⊤
CanFail Unwritten = ⊤
CanFail NoThread = ⊤
CanFail Okay = ⊥
CanFail Read = ⊥
CanFail Write = ⊥
CanFail TooLong = ⊥
CanFail Usage = ⊥
CanFail Image = ⊥
CanFail Loader = ⊥
CanFail Link = ⊥
CanFail Refuted = ⊥

module _ {F : Type 0} (flash : Flash F) (part : Part) (image : List ℕ) (before after : Around) (from to : F) where
  can_fail : (status : Status) (program : List ℕ) → DidNotServe flash status (chip_of part) program before after from to → CanFail status
  can_fail status program (inr h) = subst CanFail (sym h.0) tt
  can_fail Memory program (inl h) = tt
  can_fail Unwritten program (inl h) = tt
  can_fail NoThread program (inl h) = tt
  can_fail Okay program (inl h) = absurd h
  can_fail Read program (inl h) = absurd h
  can_fail Write program (inl h) = absurd h
  can_fail TooLong program (inl h) = absurd h
  can_fail Usage program (inl h) = absurd h
  can_fail Image program (inl h) = absurd h
  can_fail Loader program (inl h) = absurd h
  can_fail Link program (inl h) = absurd h
  can_fail Refuted program (inl h) = absurd h

  -- a call that has a program ends by one or the other
  can_come : (status : Status) (program : List ℕ) (pass : Option Taken) (given : Option Totals) →
      RanServed flash status (chip_of part) program pass given before after from to → CanEnd status ⊎ CanFail status
  can_come status program (Some pass) (Some given) ran = inl (can_end ran.end status ran.is)
  can_come status program None None not = inr (can_fail status program not)
  can_come status program (Some pass) None ran = absurd ran
  can_come status program None (Some given) ran = absurd ran

  neither : CanEnd Usage ⊎ CanFail Usage → ⊥
  neither (inl h) = h
  neither (inr h) = h

  neither_image : CanEnd Image ⊎ CanFail Image → ⊥
  neither_image (inl h) = h
  neither_image (inr h) = h

  neither_loader : CanEnd Loader ⊎ CanFail Loader → ⊥
  neither_loader (inl h) = h
  neither_loader (inr h) = h

  neither_link : CanEnd Link ⊎ CanFail Link → ⊥
  neither_link (inl h) = h
  neither_link (inr h) = h

  neither_refuted : CanEnd Refuted ⊎ CanFail Refuted → ⊥
  neither_refuted (inl h) = h
  neither_refuted (inr h) = h

  never_link : (program : List ℕ) (pass : Option Taken) (given : Option Totals) →
      RanServed flash Link (chip_of part) program pass given before after from to → ⊥
  never_link program pass given r = neither_link (can_come Link program pass given r)

  never_refuted : (program : List ℕ) (pass : Option Taken) (given : Option Totals) →
      RanServed flash Refuted (chip_of part) program pass given before after from to → ⊥
  never_refuted program pass given r = neither_refuted (can_come Refuted program pass given r)

  -- there was no memory
  no_memory : (program : List ℕ) (pass : Option Taken) (given : Option Totals) →
      RanServed flash Memory (chip_of part) program pass given before after from to →
      NotOpened before.outside.ends after.outside.ends (line (codes "memory")) × ((to ≡ from) × IsNotServed pass given)
  no_memory program (Some pass) (Some given) ran = absurd (can_end ran.end Memory ran.is)
  no_memory program None None (inl h) = (h.0, (h.1, (refl, refl)))
  no_memory program None None (inr h) = cc (h.0)
  no_memory program (Some pass) None ran = absurd ran
  no_memory program None (Some given) ran = absurd ran

  module _ (program : List ℕ) (pass : Option Taken) (given : Option Totals) where
    abbrev EndsServed : Status → Type 0
    EndsServed status = EndsOnImage status part image before.outside after.outside ((to ≡ from) × IsNotServed pass given)
        (λ status program. RanServed flash status (chip_of part) program pass given before after from to)

    -- a session that was served or not
    pub EndsServed-ran : (status : Status) → Loads before.outside.contents part image program →
        after.outside.loader_faults ≡ before.outside.loader_faults →
        RanServed flash status (chip_of part) program pass given before after from to → EndsServed status
    EndsServed-ran Okay l f r = record { program = program; loads = l; loader = f; ends = r }
    EndsServed-ran Read l f r = record { program = program; loads = l; loader = f; ends = r }
    EndsServed-ran Write l f r = record { program = program; loads = l; loader = f; ends = r }
    EndsServed-ran TooLong l f r = record { program = program; loads = l; loader = f; ends = r }
    EndsServed-ran Unwritten l f r = record { program = program; loads = l; loader = f; ends = r }
    EndsServed-ran NoThread l f r = record { program = program; loads = l; loader = f; ends = r }
    EndsServed-ran Memory l f r = no_memory program pass given r
    EndsServed-ran Usage l f r = absurd (neither (can_come Usage program pass given r))
    EndsServed-ran Image l f r = absurd (neither_image (can_come Image program pass given r))
    EndsServed-ran Loader l f r = absurd (neither_loader (can_come Loader program pass given r))
    EndsServed-ran Link l f r = absurd (neither_link (can_come Link program pass given r))
    EndsServed-ran Refuted l f r = absurd (never_refuted program pass given r)

    -- of a call that the words say
    pub ServesBy-ends : (status : Status) (words : List (List ℕ)) (port : ℕ) → Says words (serving port image) part → EndsServed status →
        ServesBy flash status words pass given before after from to
    ServesBy-ends Okay words port says e = record { port = port; image = image; part = part; says = says; ends = e }
    ServesBy-ends Read words port says e = record { port = port; image = image; part = part; says = says; ends = e }
    ServesBy-ends Write words port says e = record { port = port; image = image; part = part; says = says; ends = e }
    ServesBy-ends TooLong words port says e = record { port = port; image = image; part = part; says = says; ends = e }
    ServesBy-ends Unwritten words port says e = record { port = port; image = image; part = part; says = says; ends = e }
    ServesBy-ends NoThread words port says e = record { port = port; image = image; part = part; says = says; ends = e }
    ServesBy-ends Memory words port says e = record { port = port; image = image; part = part; says = says; ends = e }
    ServesBy-ends Image words port says e = record { port = port; image = image; part = part; says = says; ends = e }
    ServesBy-ends Loader words port says e = record { port = port; image = image; part = part; says = says; ends = e }
    ServesBy-ends Usage words port says e = absurd e
    ServesBy-ends Link words port says e = absurd (never_link e.program pass given e.ends)
    ServesBy-ends Refuted words port says e = absurd (never_refuted e.program pass given e.ends)

-- words that say none
pub ServesBy-usage : {F : Type 0} (flash : Flash F) (status : Status) (words : List (List ℕ)) (pass : Option Taken)
    (given : Option Totals) (before after : Around) (from to : F) → status ≡ Usage → SaysNoServe words →
    NotOpened before.outside.ends after.outside.ends (line (codes "usage")) → to ≡ from → IsNotServed pass given →
    ServesBy flash status words pass given before after from to
ServesBy-usage flash status words pass given before after from to is none noted same not =
    let Ended : Status → Type 0 = λ x. ServesBy flash x words pass given before after from to in
    subst Ended (sym is) (none, noted, same, not)

-- an image that gives no program
pub ServesBy-refused : {F : Type 0} (flash : Flash F) (status : Status) (words : List (List ℕ)) (port : ℕ) (image : List ℕ) (part : Part)
    (pass : Option Taken) (given : Option Totals) (before after : Around) (from to : F) (why : Unopened) →
    Says words (serving port image) part →
    IsUnread before.outside.contents before.outside.loader_faults after.outside.loader_faults part image why → status ≡ status_of why →
    after.outside.ends.line ≡ before.outside.ends.line → NotesLine before.outside.ends after.outside.ends (line_of why) → to ≡ from →
    IsNotServed pass given → ServesBy flash status words pass given before after from to
ServesBy-refused flash status words port image part pass given before after from to why says unread is still noted same not =
    let Ended : Status → Type 0 = λ x. ServesBy flash x words pass given before after from to in
    subst Ended (sym is) (ServesBy-ends flash part image before after from to [] pass given (status_of why) words port says
    (EndsOnImage-refused part image before.outside after.outside ((to ≡ from) × IsNotServed pass given)
    (λ status program. RanServed flash status (chip_of part) program pass given before after from to) why unread still noted (same, not)))

-- a program of the part that the words say
pub RanServed-at : {F : Type 0} (flash : Flash F) (status : Status) (part other : Part) (program same : List ℕ) (pass : Option Taken)
    (given : Option Totals) (before after : Around) (from to : F) → part ≡ other → program ≡ same →
    RanServed flash status (chip_of other) program pass given before after from to →
    RanServed flash status (chip_of part) same pass given before after from to
RanServed-at flash status part other program same pass given before after from to is one ran =
    subst (λ (p : Part). RanServed flash status (chip_of p) same pass given before after from to) (sym is)
    (subst (λ (l : List ℕ). RanServed flash status (chip_of other) l pass given before after from to) one ran)
