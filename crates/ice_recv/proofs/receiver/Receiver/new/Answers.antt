use Rattle.std.proofs.Common.{ℕ, List, sym, subst, ap, ◌∙◌, length, arith}
use Rattle.line_spec.specs.Frames.{IsPartial}
use Rattle.line_spec.proofs.Bytes.{IsBytes-along, IsBytes-nil}
use Rattle.line_spec.proofs.Cuts.{IsPartial-nil}
use Rattle.ice_frame.specs.Scans.{scan_of}
use Rattle.circular_buffer.specs.Buffer.{Buffer}
use Rattle.ice_recv.proofs.Markings.{AreMarks-empty}
use Rattle.ice_recv.proofs.receiver.Receiver.new.Goals as goal

pub invariant_of-result : goal.invariant_of-result
invariant_of-result c =
    let P : List ℕ → Type 0 = λ held. IsPartial held in
    let items = ap (λ (b : Buffer ℕ). b.items) c.in_ok-held.ensures in
    record {
      stands = (subst P (sym items) IsPartial-nil, c.start.ensures ∙ ap (λ (t : List ℕ). scan_of t) (sym items));
      fits = omega (arith, ap length items);
      room = ap (λ (b : Buffer ℕ). b.capacity) c.in_ok-held.ensures;
      bytes = IsBytes-along _ _ (sym items) IsBytes-nil;
      marks = AreMarks-empty _ _ (ap (λ (b : Buffer ℕ). b.items) c.in_ok-marks.ensures);
      marks_room = ap (λ (b : Buffer ℕ). b.capacity) c.in_ok-marks.ensures;
    }
