-- The end that is taken is the one that comes now.
use Rattle.std.proofs.Common.{◌≡◌, ℕ, Bool, true, false, List, Option, Some, None, refl, sym, ap}
use Rattle.std.specs.Prelude.{is_some}
use Rattle.part_spec.specs.Chip.{Chip}
use Rattle.debug_spec.specs.Run.{End, end_within}
use Rattle.debug_spec.specs.Debugger.{Mode, stopped, launching, running, programming, leaving, closed, Debugger, is_out, run_out}
use Rattle.debug_spec.specs.Running.{replant_failed, run_ended}
use Rattle.debug_spec.specs.Replay.{steps_for, ended_if, settled_in, settled}
use Rattle.debug_spec.proofs.RunEnds.{forced_by}
use Rattle.debug_spec.proofs.Sessions.{end_by_ask}
use Rattle.ice_emul.specs.Coming.{EndsBy}

ends_so : (part : Chip) (s : Debugger) (o : Option End) (asked by_itself : Bool) (n : ℕ) (end : End) → forced_by o n ≡ end →
    is_some o ≡ by_itself → (by_itself ≡ false → asked ≡ true) → ended_if true part (end_by_ask o asked n) s ≡ run_ended true part end s
ends_so part s (Some x) asked by_itself n end is some late = ap (λ (y : End). run_ended true part y s) is
ends_so part s None true by_itself n end is some late = ap (λ (y : End). run_ended true part y s) is
ends_so part s None false by_itself n end is some late = absurd (no_ask (late (sym some)))
  where
    no_ask : false ≡ true → ⊥
    no_ask h = cc

-- a run that is out ends now, by itself within its steps or forced behind them, where a stop is asked for
pub ends_now : (part : Chip) (stops : List ℕ) (s : Debugger) (end : End) (by_itself : Bool) → is_out s.mode ≡ true →
    EndsBy (steps_for stops s.launches) by_itself part s end → (by_itself ≡ false → s.stop_asked ≡ true) →
    settled true part stops s ≡ run_ended true part end s
ends_now part stops s end by_itself out is late = by_mode s.mode refl out
  where
    ended : ended_if true part (end_by_ask (end_within part (run_out true s) (replant_failed s) (steps_for stops s.launches)) s.stop_asked
        (steps_for stops s.launches)) s ≡ run_ended true part end s
    ended = ends_so part s (end_within part (run_out true s) (replant_failed s) (steps_for stops s.launches)) s.stop_asked by_itself
        (steps_for stops s.launches) end is.0 is.1 late

    by_mode : (m : Mode) → s.mode ≡ m → is_out m ≡ true → settled_in true part stops m s ≡ run_ended true part end s
    by_mode stopped same out = cc
    by_mode (launching number) same out = cc
    by_mode running same out = ended
    by_mode programming same out = cc
    by_mode leaving same out = ended
    by_mode (closed restored) same out = cc
