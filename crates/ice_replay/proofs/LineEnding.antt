-- The end of the line: it sends nothing, and makes what was taken a replay.
use Rattle.std.proofs.Common.{◌≡◌, ℕ, ◌⊎◌, inl, inr, Bool, true, false, List, [], ◌∷◌, ◌++◌, map, Option, Some, None}
use Rattle.std.proofs.Common.{refl, sym, ap, ◌∙◌, subst, append-nil}
use Rattle.part_spec.specs.Chip.{Chip}
use Rattle.line_spec.specs.Frames.{IsBytes}
use Rattle.line_spec.specs.Cut.{Item, whole, junk}
use Rattle.debug_spec.specs.Run.{End}
use Rattle.debug_spec.specs.Device.{Device}
use Rattle.debug_spec.specs.Debugger.{Mode, running, leaving, Debugger, opened, listens}
use Rattle.debug_spec.specs.Running.{line_end}
use Rattle.debug_spec.specs.Replay.{steps_for, end_now, ended_if, settled, IsReplay, bytes_sent}
use Rattle.debug_spec.specs.Schedule.{Session, line_ended}
use Rattle.debug_spec.specs.Take.{TakesFrame, TakesNone, IsTake, launched_then}
use Rattle.debug_spec.specs.TakeReplays.{IsReplayed, settled_then}
use Rattle.debug_spec.proofs.Soundness.{at}
use Rattle.debug_spec.proofs.Sessions.{EitherBy}
use Rattle.debug_spec.proofs.TakeReplayLemmas.{listens-settled, replays_go_on}
use Rattle.ice_replay.specs.Steps.{TakesSo, IsStep}
use Rattle.ice_replay.specs.Replaying.{IsWhole, IsCut, Ends}
use Rattle.ice_replay.specs.Endings.{IsCutBehind}
use Rattle.ice_replay.specs.declared.settle.Came.{Came}
use Rattle.ice_replay.specs.declared.settle.Came.TheVariants.{Nothing, Frame, Closed}

module _ (part : Chip) (stops : List ℕ) where
  -- the debugger once the line has ended
  abbrev ended : Session → Debugger
  ended s = (settled_then true part stops (line_ended part s)).state

  -- a run that is left ends with nothing sent
  left_silent : (o : Option End) (s : Debugger) → bytes_sent (ended_if true part o (at leaving s)) ≡ bytes_sent s
  left_silent None s = refl
  left_silent (Some e) s = refl

  silent_by : (held : List ℕ) (m : Mode) (s : Debugger) →
      bytes_sent (settled true part stops (line_end part held (at m s))) ≡ bytes_sent s
  silent_by held running s =
      let t = line_end part held (at running s) in left_silent (end_now true part (steps_for stops t.launches) t) t
  silent_by held leaving s = left_silent (end_now true part (steps_for stops s.launches) (at leaving s)) (at leaving s)
  silent_by held _ s = refl

  -- the end of the line sends nothing
  pub silent : (s : Session) → bytes_sent (settled_then true part stops (line_ended part s)).state ≡ bytes_sent s.state
  silent s = silent_by s.held s.state.mode s.state

  deaf_by : (held : List ℕ) (m : Mode) (s : Debugger) → listens (line_end part held (at m s)).mode ≡ false
  deaf_by held running s = refl
  deaf_by held _ s = refl

  -- a session whose line has ended does not listen
  pub deaf : (s : Session) → listens (settled_then true part stops (line_ended part s)).state.mode ≡ false
  deaf s =
      let t = line_end part s.held s.state in listens-settled true part stops t.mode t ∙ deaf_by s.held s.state.mode s.state

  pub mode_closed : (closed : Bool) (bytes : List ℕ) (before after : Session) →
      Ends part stops (IsWhole closed part stops bytes) before after → listens after.state.mode ≡ false
  mode_closed closed bytes before after ends = ap (λ (s : Debugger). listens s.mode) ends.is ∙ deaf ends.between

-- what is whole is a replay
pub whole_replays : (closed : Bool) (part : Chip) (stops prog bytes : List ℕ) (device : Device) (after : Session) → IsBytes bytes →
    Ends part stops (IsWhole closed part stops bytes) (record { held = []; state = opened part prog device }) after →
    IsReplay true part stops prog device bytes after.state
whole_replays closed part stops prog bytes device after valid ends =
    let w = ends.goes in
    subst (λ (s : Debugger). IsReplay true part stops prog device bytes s) (sym ends.is)
    (replays_go_on.ends true part stops prog bytes device ends.between valid w.replayed w.partial w.quiet)

-- what is cut short is a replay cut short behind the last of its bytes
pub cut_replays : (part : Chip) (stops prog bytes ahead : List ℕ) (device : Device) (after : Session) →
    Ends part stops (IsCut part stops bytes ahead) (record { held = []; state = opened part prog device }) after →
    (items : List Item) × IsCutBehind part stops prog device bytes items after.state
cut_replays part stops prog bytes ahead device after ends =
    let c = ends.goes.completes in
    let frame : TakesFrame true part c.used c.middle c.step.between = c.step.takes in
    let items : List Item = c.replayed.items ++ (map junk frame.ahead ++ whole frame.frame ∷ []) in
    let last : after.state ≡ ended part stops (settled_then true part stops (launched_then c.step.between)) =
    ends.is ∙ ap (ended part stops) c.step.is in
    let short : IsCutBehind part stops prog device ((c.first ++ c.used) ++ []) items after.state =
    subst (λ (s : Debugger). IsCutBehind part stops prog device ((c.first ++ c.used) ++ []) items s) (sym last)
    (replays_go_on.cut_short true part stops prog c.first c.used [] device c.middle c.step.between c.replayed c.step.listening
    c.step.quiet frame) in (
      items,
      subst (λ (x : List ℕ). IsCutBehind part stops prog device x items after.state)
          (append-nil (c.first ++ c.used) ∙ sym c.split) short,
    )

-- what a step takes is one take
one_take : (came : Came) (part : Chip) (used left : List ℕ) (before between : Session) → TakesSo came part used left before between →
    TakesFrame true part used before between ⊎ TakesNone used left before between
one_take Nothing part used left before between t = inr t
one_take Frame part used left before between t = inl t
one_take (Closed restored) part used left before between t = inl t

-- a step goes on with the replay
pub step_replays : (came : Came) (part : Chip) (stops used left : List ℕ) (before after : Session) →
    IsStep came part stops used left before after →
    IsReplayed true part stops used before after × (settled true part stops after.state ≡ after.state)
step_replays came part stops used left before after step =
    let taken : IsTake true part used left before step.between =
    subst (λ (b : Bool). EitherBy b (TakesFrame true part used before step.between ⊎ TakesNone used left before step.between)
    ((left ≡ []) × (step.between ≡ before))) (sym step.listening) (one_take came part used left before step.between step.takes) in
    subst (λ (s : Session). IsReplayed true part stops used before s × (settled true part stops s.state ≡ s.state)) (sym step.is)
    (replays_go_on.by_take true part stops used left before step.between step.listening step.quiet taken)
