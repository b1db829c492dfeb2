-- What the code does where the device makes all that is asked for, put together from what its parts do.
use Rattle.std.proofs.Common.{◌≡◌, ℕ, Bool, true, false, List, [], Option, None, Result, Ok, if◌then◌else◌, refl, sym, ap, ◌∙◌, subst}
use Rattle.part_spec.specs.declared.part.Part.{Part}
use Rattle.part_spec.specs.Chip.{Chip, chip_of}
use Rattle.avr_spec.specs.Kept.{Kept}
use Rattle.avr_spec.specs.Step.{ahead, go_on}
use Rattle.line_spec.specs.Messages.{okay, refused, response_body, enter_programming, break_at, event_body}
use Rattle.line_spec.specs.Hearing.{event_number}
use Rattle.line_spec.specs.declared.refusal.Refusal.TheVariants.{Failed, IllegalMcuState}
use Rattle.debug_spec.specs.Stop.{Cause, by_step, undefined, cause_code}
use Rattle.debug_spec.specs.Run.{is_undefined}
use Rattle.debug_spec.specs.Patch.{without, patch}
use Rattle.debug_spec.specs.Device.{Device, synced}
use Rattle.debug_spec.specs.Programming.{Programmed}
use Rattle.debug_spec.specs.Debugger.{Mode, stopped, launching, running, programming, leaving, closed, Debugger, targets_by, replied, told}
use Rattle.debug_spec.specs.Running.{restored, left_in, prepared, single_stepped, step_told}
use Rattle.debug_spec.specs.Commands.{allowed, answered, carried_out}
use Rattle.ice_msg.specs.Reading.{asked}
use Rattle.ice_msg.specs.declared.command.Command.{Command}
use Rattle.ice_msg.specs.declared.bad.Bad.{Bad}
use Rattle.ice_answer.specs.Values.{request_of}
use Rattle.debug_spec.specs.MemoryTypes.{programming_told}
use Rattle.ice_answer.specs.Kept.{ToolState, kept_tool, takes_requests}
use Rattle.ice_answer.specs.Does.{At, at, IsAt, Does, Sends}
use Rattle.ice_answer.proofs.Doing.{sending, does-send, told_behind}
use Rattle.ice_verify.specs.Well.{IsGood, DoesWell}
use Rattle.ice_verify.specs.Going.{SteppedBy}
use Rattle.ice_verify.specs.Standing.{at_of, with_program}
use Rattle.ice_verify.specs.declared.plain.Plain.{Plain}
use Rattle.ice_verify.proofs.Good.{synced_made, IsProgrammed}

-- what asks nothing of the device
pub well : (change : Chip → Debugger → Debugger) (a b : At) → Does change a b → DoesWell change a b
well change a b does = λ part before s e good.
    let done = does part before s e in
    (done.0, ap (λ (d : Device). d.outcomes) done.1.device ∙ good)

-- in other words
pub well_in_words : (part : Part) (before : List ℕ) (b : At) (x y : Debugger) → x ≡ y → IsAt part before b x × IsGood x →
    IsAt part before b y × IsGood y
well_in_words part before b x y same h = subst (λ (t : Debugger). IsAt part before b t × IsGood t) same h

pub same_well : (g h : Chip → Debugger → Debugger) (a b : At) →
    ((part : Part) (before : List ℕ) (s : Debugger) → IsAt part before a s → IsGood s → g (chip_of part) s ≡ h (chip_of part) s) →
    DoesWell g a b → DoesWell h a b
same_well g h a b same does = λ part before s e good.
    well_in_words part before b (g (chip_of part) s) (h (chip_of part) s) (same part before s e good) (does part before s e good)

-- one change behind another
pub then_well : (f g h : Chip → Debugger → Debugger) (a b c : At) →
    ((part : Part) (before : List ℕ) (s : Debugger) → IsAt part before a s → IsGood s → g (chip_of part) (f (chip_of part) s) ≡ h (chip_of part) s) →
    DoesWell f a b → DoesWell g b c → DoesWell h a c
then_well f g h a b c same first next = λ part before s e good.
    let one = first part before s e good in
    let two = next part before (f (chip_of part) s) one.0 one.1 in
    well_in_words part before c (g (chip_of part) (f (chip_of part) s)) (h (chip_of part) s) (same part before s e good) two

-- one of two, told which
pub yes_elim : {T : Type 0} (b : Bool) (x y : T) → b ≡ true → x ≡ elim b [ true ↦ x | false ↦ y ]
yes_elim true x y h = refl
yes_elim false x y h = cc

-- a frame is sent behind a change
pub sent_well : (number : ℕ) (body out more : List ℕ) (tool : ToolState) (core : Kept) (comparators : List (Option ℕ)) →
    Sends number body out more → (part : Part) (before : List ℕ) (t : Debugger) → IsAt part before (at tool core comparators out) t → IsGood t →
    IsAt part before (at tool core comparators more) (sending number body (chip_of part) t) × IsGood (sending number body (chip_of part) t)
sent_well number body out more tool core comparators sends part before t e good =
    ((does-send number body out more tool core comparators sends part before t e).0, good)

-- the tool in other words
pub tool_well : (tool now : ToolState) (core : Kept) (comparators : List (Option ℕ)) (sent before : List ℕ) (part : Part) (t : Debugger) →
    now ≡ tool → IsAt part before (at tool core comparators sent) t × IsGood t → IsAt part before (at now core comparators sent) t × IsGood t
tool_well tool now core comparators sent before part t is h =
    subst (λ (k : ToolState). IsAt part before (at k core comparators sent) t × IsGood t) (sym is) h

-- a run is prepared
pub prepared_well : (number : ℕ) (run_to : Option ℕ) (tool : ToolState) (core : Kept) (comparators : List (Option ℕ)) (sent : List ℕ) →
    DoesWell (λ part. prepared part number run_to) (at tool core comparators sent)
    (at (record tool { mode = launching number; run_to = run_to; stop_asked = false }) core comparators sent)
prepared_well number run_to tool core comparators sent = λ part before s e good.
    let tried = synced (chip_of part) (patch s.prog (without s.machine.pc (targets_by run_to s.soft))) s.device in
    let made = synced_made (chip_of part) (patch s.prog (without s.machine.pc (targets_by run_to s.soft))) s.device good in
    let t : Debugger = record s { mode = launching number; run_to = run_to; device = tried.device; stop_asked = false } in
    well_in_words part before (at (record tool { mode = launching number; run_to = run_to; stop_asked = false }) core comparators sent) t
    (prepared (chip_of part) number run_to s)
    (yes_elim tried.ok t (replied number (refused Failed) (record s { device = tried.device; run_to = None })) made.ok) (
      record {
        tool = ap (λ (k : ToolState). record k { mode = launching number; run_to = run_to; stop_asked = false }) e.tool;
        core = e.core;
        comparators = e.comparators;
        sent = e.sent;
      },
      made.good,
    )

-- the flash begins to be programmed
pub entered_well : (number : ℕ) (tool : ToolState) (core : Kept) (comparators : List (Option ℕ)) (out more : List ℕ) →
    Sends number (response_body okay) out more → DoesWell (λ part. carried_out false part number enter_programming) (at tool core comparators out)
    (at (record tool { mode = programming; plan = record tool.plan { soft = [] } }) core comparators more)
entered_well number tool core comparators out more sends = λ part before s e good.
    let tried = synced (chip_of part) s.prog s.device in
    let made = synced_made (chip_of part) s.prog s.device good in
    let t : Debugger = record s { mode = programming; soft = []; device = tried.device } in
    let b = at (record tool { mode = programming; plan = record tool.plan { soft = [] } }) core comparators more in
    well_in_words part before b (replied number okay t) (carried_out false (chip_of part) number enter_programming s)
    (yes_elim tried.ok (replied number okay t) (replied number (refused Failed) (record s { device = tried.device })) made.ok)
    (sent_well number (response_body okay) out more (record tool { mode = programming; plan = record tool.plan { soft = [] } }) core comparators sends
    part before t
    (record {
      tool = ap (λ (k : ToolState). record k { mode = programming; plan = record k.plan { soft = [] } }) e.tool;
      core = e.core;
      comparators = e.comparators;
      sent = e.sent;
    }) made.good)

-- the session is closed
pub closed_well : (tool : ToolState) (core : Kept) (comparators : List (Option ℕ)) (sent : List ℕ) →
    DoesWell (λ part. restored part) (at tool core comparators sent) (at (record tool { mode = closed true }) core comparators sent)
closed_well tool core comparators sent = λ part before s e good.
    let tried = synced (chip_of part) s.prog s.device in
    let made = synced_made (chip_of part) s.prog s.device good in (
      record {
        tool = ap (λ (k : ToolState). record k { mode = closed true }) e.tool ∙
            ap (λ (b : Bool). record (kept_tool part s) { mode = closed b }) (sym made.ok);
        core = e.core;
        comparators = e.comparators;
        sent = e.sent;
      },
      made.good,
    )

-- the session ends at once where the target is at home
pub left_at_home : (part : Chip) (m : Mode) (s : Debugger) → takes_requests m ≡ true → restored part s ≡ left_in part m s
left_at_home part stopped s h = refl
left_at_home part (launching number) s h = cc
left_at_home part running s h = cc
left_at_home part programming s h = refl
left_at_home part leaving s h = cc
left_at_home part (closed done) s h = cc

-- pages were programmed, and the frame is answered so
pub programmed_well : (number : ℕ) (done : Programmed) (prog : List ℕ) (p : Plain) (out more : List ℕ) → Sends number (response_body okay) out more →
    IsProgrammed done prog → (part : Part) (before : List ℕ) (s : Debugger) → IsAt part before (at_of p out) s →
    IsAt part before (at_of (with_program prog p) more) (programming_told number done s) × IsGood (programming_told number done s)
programmed_well number done prog p out more sends made part before s e =
    let t : Debugger = record s { prog = done.prog; device = done.device } in
    well_in_words part before (at_of (with_program prog p) more) (replied number okay t) (programming_told number done s)
    (ap (λ (b : Bool). replied number (if b then okay else refused Failed) t) (sym made.ok))
    (sent_well number (response_body okay) out more (with_program prog p).tool p.core p.comparators sends part before t
    (record {
      tool = ap (λ (k : ToolState). record k { plan = record k.plan { prog = prog } }) e.tool ∙
          ap (λ (q : List ℕ). record (kept_tool part s) { plan = record (kept_tool part s).plan { prog = q } }) (sym made.prog_is);
      core = e.core;
      comparators = e.comparators;
      sent = e.sent;
    }) made.good)

-- the same, told what the code then is
pub programmed_so : (number : ℕ) (done : Programmed) (prog : List ℕ) (p now : Plain) (out more : List ℕ) → Sends number (response_body okay) out more →
    IsProgrammed done prog → now ≡ with_program prog p → (part : Part) (before : List ℕ) (s : Debugger) → IsAt part before (at_of p out) s →
    IsAt part before (at_of now more) (programming_told number done s) × IsGood (programming_told number done s)
programmed_so number done prog p now out more sends made is part before s e =
    subst (λ (q : Plain). IsAt part before (at_of q more) (programming_told number done s) × IsGood (programming_told number done s)) (sym is)
    (programmed_well number done prog p out more sends made part before s e)

-- a command is carried out, told which it is
pub commanded_well : (command wanted : Command) (number : ℕ) (a b : At) → command ≡ wanted →
    DoesWell (λ part. carried_out false part number (asked wanted)) a b → DoesWell (λ part. carried_out false part number (asked command)) a b
commanded_well command wanted number a b is does =
    subst (λ (k : Command). DoesWell (λ part. carried_out false part number (asked k)) a b) (sym is) does

-- one that asks nothing of the device
pub asking_well : (command wanted : Command) (number : ℕ) (a b : At) → command ≡ wanted →
    Does (λ part. carried_out false part number (asked wanted)) a b → DoesWell (λ part. carried_out false part number (asked command)) a b
asking_well command wanted number a b is does =
    commanded_well command wanted number a b is (well (λ part. carried_out false part number (asked wanted)) a b does)

-- a command that the mode allows
pub allowed_well : (given : Result Command Bad) (number : ℕ) (command : Command) → given ≡ Ok command → (tool : ToolState) (core : Kept)
    (comparators : List (Option ℕ)) (out : List ℕ) (b : At) → allowed tool.mode (asked command) ≡ true →
    DoesWell (λ part. carried_out false part number (asked command)) (at tool core comparators out) b →
    DoesWell (λ part. answered false part number (request_of given)) (at tool core comparators out) b
allowed_well given number command is tool core comparators out b some does =
    same_well (λ part. carried_out false part number (asked command)) (λ part. answered false part number (request_of given))
    (at tool core comparators out) b
    (λ part before s e good.
    yes_elim (allowed s.mode (asked command)) (carried_out false (chip_of part) number (asked command) s)
    (replied number (refused IllegalMcuState) s) (ap (λ (k : ToolState). allowed k.mode (asked command)) (sym e.tool) ∙ some) ∙
    ap (λ (r : Result Command Bad). answered false (chip_of part) number (request_of r) s) (sym is))
    does

-- a single step is made and told
pub single_well : (number : ℕ) (cause : Cause) (pc : ℕ) (tool : ToolState) (core now : Kept) (comparators : List (Option ℕ))
    (out middle more : List ℕ) → pc ≡ now.pc → Sends number (response_body okay) out middle →
    Sends event_number (event_body (break_at pc (cause_code cause))) middle more → (part : Part) (before : List ℕ) (s : Debugger) →
    IsAt part before (at tool core comparators out) s → IsGood s →
    SteppedBy (is_undefined (ahead (chip_of part) s.machine s.prog)) (chip_of part) s.machine s.prog cause now →
    IsAt part before (at tool now comparators more) (single_stepped false (chip_of part) number s) ×
    IsGood (single_stepped false (chip_of part) number s)
single_well number cause pc tool core now comparators out middle more here replies tells part before s e good stepped =
    let tried = synced (chip_of part) (patch s.prog (without s.machine.pc s.soft)) s.device in
    let made = synced_made (chip_of part) (patch s.prog (without s.machine.pc s.soft)) s.device good in
    let t0 : Debugger = record s { device = tried.device } in
    let t1 : Debugger = replied number okay t0 in
    let one = sent_well number (response_body okay) out middle tool core comparators replies part before t0
    (record { tool = e.tool; core = e.core; comparators = e.comparators; sent = e.sent }) made.good in
    well_in_words part before (at tool now comparators more) (step_told false (chip_of part) t1) (single_stepped false (chip_of part) number s)
    (yes_elim tried.ok (step_told false (chip_of part) t1) (replied number (refused Failed) t0) made.ok)
    (by_ahead (is_undefined (ahead (chip_of part) s.machine s.prog)) t1 one.0 made.good stepped)
  where
    tell : (t : Debugger) (why : Cause) → cause ≡ why → t.device.outcomes ≡ [] → IsAt part before (at tool now comparators middle) t →
        IsAt part before (at tool now comparators more) (told why t) × IsGood (told why t)
    tell t why is well_ at_t =
        let done = told_behind cause pc middle more tool now comparators here tells part before t t (at_t, record { device = refl; launches = refl }) in
        well_in_words part before (at tool now comparators more) (told cause t) (told why t) (ap (λ (k : Cause). told k t) is) (done.0, well_)

    by_ahead : (u : Bool) (t : Debugger) → IsAt part before (at tool core comparators middle) t → t.device.outcomes ≡ [] →
        SteppedBy u (chip_of part) t.machine t.prog cause now →
        IsAt part before (at tool now comparators more)
        (elim u [ true ↦ told undefined t | false ↦ told by_step (record t { machine = go_on (chip_of part) t.machine t.prog }) ]) ×
        IsGood (elim u [ true ↦ told undefined t | false ↦ told by_step (record t { machine = go_on (chip_of part) t.machine t.prog }) ])
    by_ahead true t at_t well_ h = tell t undefined h.0 well_
        (record { tool = at_t.tool; core = h.1; comparators = at_t.comparators; sent = at_t.sent })
    by_ahead false t at_t well_ h = tell (record t { machine = go_on (chip_of part) t.machine t.prog }) by_step h.0 well_
        (record { tool = at_t.tool; core = h.1; comparators = at_t.comparators; sent = at_t.sent })
