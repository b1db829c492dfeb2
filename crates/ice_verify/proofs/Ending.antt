-- How a session ends, and a run.
use Rattle.std.proofs.Common.{◌≡◌, ℕ, Bool, true, false, List, length, Option, None, refl, sym, ap, ◌∙◌, subst}
use Rattle.part_spec.specs.declared.part.Part.{Part}
use Rattle.part_spec.specs.Chip.{Chip, chip_of}
use Rattle.avr_spec.specs.Kept.{Kept}
use Rattle.line_spec.specs.Messages.{break_at, event_body}
use Rattle.line_spec.specs.Hearing.{event_number}
use Rattle.debug_spec.specs.Stop.{Cause, cause_code}
use Rattle.debug_spec.specs.Run.{End}
use Rattle.debug_spec.specs.Debugger.{Mode, stopped, launching, running, programming, leaving, closed, Debugger, listens, is_out, told, dropping}
use Rattle.debug_spec.specs.Running.{restored, left, left_in, line_end, stopped_at, ended_in}
use Rattle.debug_spec.specs.SessionLaws.{is_closed}
use Rattle.ice_answer.specs.Kept.{ToolState, kept_tool, prepared_number, dropping_held}
use Rattle.ice_answer.specs.Does.{at, IsAt, Sends}
use Rattle.ice_answer.proofs.Doing.{told_behind}
use Rattle.ice_verify.specs.Well.{IsGood, DoesWell}
use Rattle.ice_verify.specs.Standing.{at_of}
use Rattle.ice_verify.specs.declared.plain.Plain.{Plain}
use Rattle.ice_verify.proofs.DoingWell.{closed_well, well_in_words}
use Rattle.ice_verify.proofs.HearingWell.{drops-count}

no_way : false ≡ true → ⊥
no_way h = cc

-- the session ends at once
abbrev pub closes_at_once : Mode → Bool
closes_at_once stopped = true
closes_at_once (launching number) = false
closes_at_once running = false
closes_at_once programming = true
closes_at_once leaving = false
closes_at_once (closed restored) = false

-- the session is closed in a mode in which the target is at home
pub left_closed : (m : Mode) (p now : Plain) (sent : List ℕ) → p.tool.mode ≡ m → closes_at_once m ≡ true →
    now ≡ record p { tool = record p.tool { mode = closed true } } → DoesWell (λ part. left part) (at_of p sent) (at_of now sent)
left_closed m p now sent is closes ends = λ part before s e good.
    let mode : s.mode ≡ m = ap (λ (k : ToolState). k.mode) (sym e.tool) ∙ is in
    let done = closed_well p.tool p.core p.comparators sent part before s e good in
    well_in_words part before (at_of now sent) (restored (chip_of part) s) (left (chip_of part) s)
    (left_restores m (chip_of part) s closes ∙ ap (λ (k : Mode). left_in (chip_of part) k s) (sym mode))
    (subst (λ (q : Plain). IsAt part before (at_of q sent) (restored (chip_of part) s) × IsGood (restored (chip_of part) s)) (sym ends) done)
  where
    left_restores : (k : Mode) (chip : Chip) (s : Debugger) → closes_at_once k ≡ true → restored chip s ≡ left_in chip k s
    left_restores stopped chip s h = refl
    left_restores (launching number) chip s h = cc
    left_restores running chip s h = cc
    left_restores programming chip s h = refl
    left_restores leaving chip s h = cc
    left_restores (closed done) chip s h = cc

-- a run that is out is asked to stop
pub left_leaving : (p now : Plain) (sent : List ℕ) → p.tool.mode ≡ running →
    now ≡ record p { tool = record p.tool { mode = leaving; stop_asked = true } } → DoesWell (λ part. left part) (at_of p sent) (at_of now sent)
left_leaving p now sent is ends = λ part before s e good.
    let mode : s.mode ≡ running = ap (λ (k : ToolState). k.mode) (sym e.tool) ∙ is in
    let t : Debugger = record s { mode = leaving; stop_asked = true } in
    well_in_words part before (at_of now sent) t (left (chip_of part) s) (ap (λ (k : Mode). left_in (chip_of part) k s) (sym mode))
    (subst (λ (q : Plain). IsAt part before (at_of q sent) t × IsGood t) (sym ends) (
      record {
        tool = ap (λ (k : ToolState). record k { mode = leaving; stop_asked = true }) e.tool;
        core = e.core;
        comparators = e.comparators;
        sent = e.sent;
      },
      good,
    ))

-- a session that is left already
pub left_already : (p : Plain) (sent : List ℕ) → p.tool.mode ≡ leaving → DoesWell (λ part. left part) (at_of p sent) (at_of p sent)
left_already p sent is = λ part before s e good.
    let mode : s.mode ≡ leaving = ap (λ (k : ToolState). k.mode) (sym e.tool) ∙ is in
    well_in_words part before (at_of p sent) s (left (chip_of part) s) (ap (λ (k : Mode). left_in (chip_of part) k s) (sym mode)) (e, good)

-- the end of the line, in a mode that is calm and not closed
pub line_end_is : (part : Chip) (held : List ℕ) (s : Debugger) → prepared_number s.mode ≡ None → is_closed s.mode ≡ false →
    left part (elim (listens s.mode) [ true ↦ dropping (length held) s | false ↦ s ]) ≡ line_end part held s
line_end_is part held s calm open_ = by_mode s.mode refl calm open_
  where
    by_listens : (b : Bool) → (b ≡ false → s.mode ≡ leaving) →
        left part (elim b [ true ↦ dropping (length held) s | false ↦ s ]) ≡ elim b [ true ↦ left part (dropping (length held) s) | false ↦ s ]
    by_listens true h = refl
    by_listens false h = ap (λ (k : Mode). left_in part k s) (h refl)

    by_mode : (m : Mode) → s.mode ≡ m → prepared_number m ≡ None → is_closed m ≡ false →
        left part (elim (listens s.mode) [ true ↦ dropping (length held) s | false ↦ s ]) ≡ line_end part held s
    by_mode stopped is c o = by_listens (listens s.mode) (λ h. absurd (no_way (sym h ∙ ap listens is)))
    by_mode (launching number) is c o = absurd (apart c)
      where
        apart : prepared_number (launching number) ≡ None → ⊥
        apart k = cc
    by_mode running is c o = by_listens (listens s.mode) (λ h. absurd (no_way (sym h ∙ ap listens is)))
    by_mode programming is c o = by_listens (listens s.mode) (λ h. absurd (no_way (sym h ∙ ap listens is)))
    by_mode leaving is c o = by_listens (listens s.mode) (λ h. is)
    by_mode (closed done) is c o = absurd (no_way (sym o))

pub dropping_held_is : (b : Bool) (part : Part) (tool : ToolState) (s : Debugger) (count : ℕ) → tool ≡ kept_tool part s →
    dropping_held b count tool ≡ kept_tool part (elim b [ true ↦ dropping count s | false ↦ s ])
dropping_held_is true part tool s count e = drops-count part count tool s e
dropping_held_is false part tool s count e = e

-- a run ends, told or with the session
pub ended_running : (part : Chip) (m : Mode) (e : End) (s : Debugger) → listens m ≡ true → is_out m ≡ true →
    told e.cause (record (stopped_at false part e s) { mode = stopped; run_to = None }) ≡ ended_in false part m e s
ended_running part stopped e s h k = cc
ended_running part (launching number) e s h k = cc
ended_running part running e s h k = refl
ended_running part programming e s h k = cc
ended_running part leaving e s h k = cc
ended_running part (closed done) e s h k = cc

pub ended_leaving : (part : Chip) (m : Mode) (e : End) (s : Debugger) → listens m ≡ false → is_out m ≡ true →
    restored part (stopped_at false part e s) ≡ ended_in false part m e s
ended_leaving part stopped e s h k = cc
ended_leaving part (launching number) e s h k = cc
ended_leaving part running e s h k = cc
ended_leaving part programming e s h k = cc
ended_leaving part leaving e s h k = refl
ended_leaving part (closed done) e s h k = cc

-- a run's end is told
pub told_well : (cause : Cause) (pc : ℕ) (tool : ToolState) (core : Kept) (comparators : List (Option ℕ)) (out more : List ℕ) → pc ≡ core.pc →
    Sends event_number (event_body (break_at pc (cause_code cause))) out more → (part : Part) (before : List ℕ) (t : Debugger) →
    IsAt part before (at tool core comparators out) t → IsGood t →
    IsAt part before (at (record tool { mode = stopped; run_to = None }) core comparators more) (told cause (record t { mode = stopped; run_to = None })) ×
    IsGood (told cause (record t { mode = stopped; run_to = None }))
told_well cause pc tool core comparators out more here sends part before t e good =
    let u : Debugger = record t { mode = stopped; run_to = None } in
    let at_u : IsAt part before (at (record tool { mode = stopped; run_to = None }) core comparators out) u = record {
      tool = ap (λ (k : ToolState). record k { mode = stopped; run_to = None }) e.tool;
      core = e.core;
      comparators = e.comparators;
      sent = e.sent;
    } in (
      (told_behind cause pc out more (record tool { mode = stopped; run_to = None }) core comparators here sends part before u u
          (at_u, record { device = refl; launches = refl })).0,
      good,
    )
