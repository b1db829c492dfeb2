use Rattle.std.proofs.Common.{Option, ℕ, refl, sym, ap, subst}
use Rattle.line_spec.proofs.Bytes.{IsBytes-along, IsBytes-drop}
use Rattle.ice_recv.specs.Received.{Received}
use Rattle.ice_recv.specs.Receiving.{Stands}
use Rattle.ice_recv.proofs.Founds.{none_waits}
use Rattle.ice_recv.proofs.Markings.{AreMarks-dropped}
use Rattle.ice_recv.proofs.receiver.Receiver.next_counted.Goals as goal

pub returns-in-None-clause-hands : goal.returns-in-None-clause-hands
returns-in-None-clause-hands c = (
  none_waits _ _ _ _ c.in-None.is c.self.invariant.stands (ap (λ (r : Received). r.held) c.self.view_is),
  refl,
)

pub settle-self-inside-requires-clause-marks : goal.settle-self-inside-requires-clause-marks
settle-self-inside-requires-clause-marks c =
    let P : Option ℕ → Type 0 = λ waiting. Stands waiting c.self.inside.scan c.self.inside.held.items in
    AreMarks-dropped _ _ _ _ c.in-Some.size c.drop_marks.ensures.items c.drop_front.ensures.items
    (subst P c.in-Some.is c.self.invariant.stands).2 c.self.invariant.marks

pub settle-self-inside-requires-clause-bytes : goal.settle-self-inside-requires-clause-bytes
settle-self-inside-requires-clause-bytes c =
    IsBytes-along _ _ (sym c.drop_front.ensures.items) (IsBytes-drop c.in-Some.size _ c.self.invariant.bytes)
