use Rattle.std.proofs.Common.{ℕ, false, inr, length, sym, ap, ◌∙◌, subst, arith}
use Rattle.part_spec.specs.Chip.{chip_of}
use Rattle.debug_spec.specs.Commands.{item}
use Rattle.ice_frame.specs.Front.{frame_of}
use Rattle.ice_recv.specs.Received.{Received}
use Rattle.ice_recv.specs.Receiving.{counted}
use Rattle.ice_recv.specs.Handing.{Takes}
use Rattle.ice_verify.specs.declared.verifier.Verifier.{Verifier}
use Rattle.ice_verify.proofs.Following.{counted_so, good_so, sent_as}
use Rattle.ice_verify.proofs.verifier.Verifier.take_waiting.Goals as goal

pub returns-in-Some-clause-takes : goal.returns-in-Some-clause-takes
returns-in-Some-clause-takes c =
    let rest = c.count_since.ensures.rest in
    let takes = subst (λ (r : Received). Takes c.args.self.now.receiver (frame_of c.in-Some.frame) r) (sym (ap (λ (v : Verifier). v.receiver) rest))
    c.in-Some.ensures in
    let hears = c.hear.ensures.hears in inr (record {
      frame = frame_of c.in-Some.frame;
      takes = takes;
      heard = hears.0;
      hears = hears.1;
      does = λ part before s e good.
          let one = hears.2 part before s e good in
          let x = item false (chip_of part) hears.0 s in
          let more : ℕ = length takes.2.items in
          let from = c.dropped-counted.result in
          let rose = sym (ap (λ (v : Verifier). v.receiver.dropped) rest) ∙ takes.2.count ∙ ap (λ (n : ℕ). counted n more) (sym c.dropped-counted.ensures) in
          let two = counted_so part before c.hear.new.self c.count_since.new.self.plain c.hear.new.out.items x from _ more one.0
          (omega (arith, c.dropped-counted.type_inv)) rose c.count_since.ensures.plain in
          c.launch_if_prepared.ensures.does part before _
          (sent_as part before c.count_since.new.self.plain c.hear.new.out.items _ _ (ap (λ (v : Verifier). v.sent.items) rest) two)
          (good_so more x one.1);
    })
