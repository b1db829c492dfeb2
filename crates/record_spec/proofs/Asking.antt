-- What the commands of the debugger leave: a run with which the session ends was asked to stop.
use Rattle.std.proofs.Common.{◌≡◌, ℕ, cond, Bool, true, false}
use Rattle.std.proofs.Common.{Option, None, refl}
use Rattle.std.specs.Prelude.{⊤}
use Rattle.part_spec.specs.Chip.{Chip}
use Rattle.avr_spec.specs.Step.{ahead}
use Rattle.line_spec.specs.declared.refusal.Refusal.TheVariants.{Failed}
use Rattle.line_spec.specs.Messages.{okay, refused}
use Rattle.debug_spec.specs.Patch.{without, patch}
use Rattle.debug_spec.specs.Stop.{by_step, undefined}
use Rattle.debug_spec.specs.Run.{stepped, is_undefined}
use Rattle.debug_spec.specs.Device.{synced}
use Rattle.debug_spec.specs.Debugger.{Mode, stopped, launching, running, programming, leaving, closed, Debugger}
use Rattle.debug_spec.specs.Debugger.{targets_by, replied, told}
use Rattle.debug_spec.specs.Running.{left, prepared, step_of, step_told, single_stepped}
use Rattle.debug_spec.proofs.Soundness.{at}

-- a run with which the session ends was asked to stop
abbrev pub IsAsked : Mode → Bool → Type 0
IsAsked stopped asked = ⊤
IsAsked (launching number) asked = ⊤
IsAsked running asked = ⊤
IsAsked programming asked = ⊤
IsAsked leaving asked = asked ≡ true
IsAsked (closed restored) asked = ⊤

-- and no run waits for its launch
abbrev pub Rests : Mode → Bool → Type 0
Rests stopped asked = ⊤
Rests (launching number) asked = ⊥
Rests running asked = ⊤
Rests programming asked = ⊤
Rests leaving asked = asked ≡ true
Rests (closed restored) asked = ⊤

abbrev pub AskedOf : Debugger → Type 0
AskedOf s = IsAsked s.mode s.stop_asked

abbrev pub RestsOf : Debugger → Type 0
RestsOf s = Rests s.mode s.stop_asked

-- a test decides between two states
pub asked-if : (b : Bool) (x y : Debugger) → AskedOf x → AskedOf y → AskedOf (cond b x y)
asked-if true x y h k = h
asked-if false x y h k = k

pub asked-by : (b : Bool) (x y : Debugger) → AskedOf x → AskedOf y → AskedOf (elim b [ true ↦ x | false ↦ y ])
asked-by true x y h k = h
asked-by false x y h k = k

pub asked-asks : (m : Mode) → IsAsked m true
asked-asks stopped = tt
asked-asks (launching number) = tt
asked-asks running = tt
asked-asks programming = tt
asked-asks leaving = refl
asked-asks (closed restored) = tt

module _ (planted : Bool) (part : Chip) (frame : ℕ) where
  pub asked-left : (m : Mode) (s : Debugger) → AskedOf (at m s) → AskedOf (left part (at m s))
  asked-left stopped s h = tt
  asked-left (launching number) s h = tt
  asked-left running s h = refl
  asked-left programming s h = tt
  asked-left leaving s h = h
  asked-left (closed restored) s h = tt

  pub asked-prepared : (to : Option ℕ) (s : Debugger) → AskedOf s → AskedOf (prepared part frame to s)
  asked-prepared to s h =
      let tried = synced part (patch s.prog (without s.machine.pc (targets_by to s.soft))) s.device in
      asked-by tried.ok (record s { mode = launching frame; run_to = to; device = tried.device; stop_asked = false })
      (replied frame (refused Failed) (record s { device = tried.device; run_to = None })) tt h

  asked-step : (s : Debugger) → AskedOf s → AskedOf (step_told planted part s)
  asked-step s h =
      let r = step_of planted s in
      asked-by (is_undefined (ahead part r.start r.first)) (told undefined s) (told by_step (record s { machine = stepped part r })) h h

  pub asked-single : (s : Debugger) → AskedOf s → AskedOf (single_stepped planted part frame s)
  asked-single s h =
      let tried = synced part (patch s.prog (without s.machine.pc s.soft)) s.device in
      let t = replied frame okay (record s { device = tried.device }) in
      asked-by tried.ok (step_told planted part t) (replied frame (refused Failed) (record s { device = tried.device })) (asked-step t h) h
