use Rattle.std.proofs.Common.{Bool, [], ◌∷◌, get_or, inl, inr, ap, subst, length, length-append, arith}
use Rattle.std.proofs.lemmas.List.{take_more}
use Rattle.ice_recv.specs.Received.{Received}
use Rattle.ice_recv.proofs.Settlings.{Drops-size}
use Rattle.ice_recv.proofs.Feedings.{IsFed, IsFed-looks, IsFed-more, IsFed-size, taken_none, none_taken}
use Rattle.ice_recv.proofs.receiver.Receiver.feed_counted.Goals as goal

pub take_byte-waiting-requires-clause-least : goal.take_byte-waiting-requires-clause-least
take_byte-waiting-requires-clause-least c =
    omega (
      arith,
      c.bytes.invariant.cost,
      c.bytes.invariant.within,
      c.requires,
      IsFed-size _ _ _ _ _ c.bytes.invariant.fed c.bytes.invariant.within,
      ap (λ (r : Received). length r.held) c.self.view_is,
      c.self.invariant.fits,
    )

pub bytes-preserved : goal.bytes-preserved
bytes-preserved c =
    let P : Bool → Type 0 = λ waiting. IsFed c.args.self.now c.args.bytes.now c.bytes.taken waiting c.bytes.self in
    let before = c.bytes.invariant.fed in
    let step = c.take_byte-waiting.ensures.settles in
    let after = IsFed-more _ _ _ _ _ _ _ (subst P c.if-not-waiting.true before)
    (take_more c.args.bytes.now c.bytes.taken 0 (omega (arith, c.bytes-test.true))) step in
    record {
      fed = after;
      within = omega (arith, c.bytes-test.true);
      cost = omega (
        arith,
        c.bytes.invariant.cost,
        c.take_byte-waiting.ensures.cost,
        IsFed-size _ _ _ _ _ before c.bytes.invariant.within,
        IsFed-size _ _ _ _ _ after (omega (arith, c.bytes-test.true)),
        Drops-size _ _ _ step.drops,
        length-append c.bytes.self.held (get_or c.args.bytes.now c.bytes.taken 0 ∷ []),
      );
    }

pub returns-else-not-waiting-clause-none : goal.returns-else-not-waiting-clause-none
returns-else-not-waiting-clause-none c = (
  taken_none _ _ _ _ _ c.bytes.invariant.fed (inr c.if-not-waiting.false),
  none_taken _ _ _ _ _ c.bytes.invariant.fed c.bytes.invariant.within,
)

pub returns-else-not-waiting-clause-looks : goal.returns-else-not-waiting-clause-looks
returns-else-not-waiting-clause-looks c =
    IsFed-looks _ _ _ _ _ _ _ c.bytes.invariant.fed (omega (arith, ap (λ (r : Received). length r.held) c.self.view_is, c.self.invariant.fits))
    (omega (arith, c.self.ranges, ap (λ (r : Received). r.dropped) c.self.view_is)) c.bytes.invariant.within c.requires.length c.bytes.invariant.cost

pub returns-after-bytes-clause-none : goal.returns-after-bytes-clause-none
returns-after-bytes-clause-none c = (
  taken_none _ _ _ _ _ c.bytes.invariant.fed (inl (λ e. omega (arith, e, c.bytes-test.false))),
  none_taken _ _ _ _ _ c.bytes.invariant.fed c.bytes.invariant.within,
)

pub returns-after-bytes-clause-looks : goal.returns-after-bytes-clause-looks
returns-after-bytes-clause-looks c =
    IsFed-looks _ _ _ _ _ _ _ c.bytes.invariant.fed (omega (arith, ap (λ (r : Received). length r.held) c.self.view_is, c.self.invariant.fits))
    (omega (arith, c.self.ranges, ap (λ (r : Received). r.dropped) c.self.view_is)) c.bytes.invariant.within c.requires.length c.bytes.invariant.cost
