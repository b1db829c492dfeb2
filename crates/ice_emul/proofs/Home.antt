-- The session ends at once where the target is at home.
use Rattle.std.proofs.Common.{◌≡◌, true, refl}
use Rattle.part_spec.specs.Chip.{Chip}
use Rattle.debug_spec.specs.Debugger.{Mode, stopped, launching, running, programming, leaving, closed, Debugger}
use Rattle.debug_spec.specs.Running.{restored, left_in}
use Rattle.ice_answer.specs.Kept.{takes_requests}

pub left_at_home : (part : Chip) (m : Mode) (s : Debugger) → takes_requests m ≡ true → restored part s ≡ left_in part m s
left_at_home part stopped s h = refl
left_at_home part (launching number) s h = cc
left_at_home part running s h = cc
left_at_home part programming s h = refl
left_at_home part leaving s h = cc
left_at_home part (closed done) s h = cc
