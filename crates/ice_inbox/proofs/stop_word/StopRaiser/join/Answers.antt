use Rattle.std.proofs.Common.{◌≡◌, ◌≤◌, ℕ, rules, ap, arith, ◌∙◌, sym, subst}
use Rattle.std.specs.Prelude.{Contains}
use Rattle.atomic_table.specs.Seated.{TableId}
use Rattle.ice_inbox.specs.declared.stop_word.Side.{Side}
use Rattle.ice_inbox.specs.Standing.{kept_more, KeptIsRaised}
use Rattle.ice_inbox.specs.Stopping.{Raising, Looking}
use Rattle.ice_inbox.specs.StopInside.{raised_by, IsRaiserSide}
use Rattle.ice_inbox.proofs.Stops.{returns, checks, IsRaiserSide-kept_more, seen_was_raised}
use Rattle.ice_inbox.proofs.stop_word.StopRaiser.join.Goals as goal

pub join_seat-requires : goal.join_seat-requires
join_seat-requires c =
    let at : c.self.inside.seat.table_id ≡ c.deref.result.now.shared.table_id = search rules in
    let same = ap (λ (l : Looking). l.word) c.looker.view_is ∙ c.requires ∙ sym (ap (λ (r : Raising). r.word) c.self.view_is) in (
      at,
      same ∙ at,
      c.looker.invariant.empty,
      omega (arith, c.self.invariant.one, ap (λ (id : TableId). id.words) at),
      returns _ _ _ _ c.self.invariant.side c.looker.invariant.side,
    )

pub load-requires : goal.load-requires
load-requires c =
    let at : c.join_seat.new.seat.table_id ≡ c.deref-2.result.now.shared.table_id = search rules in
    let kept_is = IsRaiserSide-kept_more _ _ c.self.invariant.side in
    let is : IsRaiserSide c.join_seat.new.seat.me.0 = subst IsRaiserSide (λ i. (sym c.join_seat.ensures.2 i).0) kept_is in (
      at,
      omega (arith, c.self.invariant.one, ap (λ (id : TableId). id.words) at, ap (λ (id : TableId). id.words) c.join_seat.ensures.0),
      checks _ _ _ _ is,
    )

pub returns-clause-seen : goal.returns-clause-seen
returns-clause-seen c =
    let kept : c.join_seat.new.seat.me.0 ≡ kept_more c.self.inside.seat.me.0 c.looker.inside.seat.me.0 = λ i. (c.join_seat.ensures.2 i).0 in
    let side = (λ i. (c.load.ensures.2.0 i).0) ∙ kept in
    let checked = subst KeptIsRaised kept c.load.ensures.2.1 in
    let seen = ap (λ (l : Looking). l.seen) c.looker.view_is in
    subst (λ (y : Side × ℕ). 1 ≤ y.1 → Contains (raised_by y.0) y.1) (λ i. (sym side i, seen i))
    (seen_was_raised _ _ c.self.invariant.side c.looker.invariant.side checked)
