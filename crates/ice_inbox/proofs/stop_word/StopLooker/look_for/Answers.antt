use Rattle.std.proofs.Common.{◌≡◌, rules, ap, arith}
use Rattle.atomic_table.specs.Seated.{TableId}
use Rattle.ice_inbox.proofs.Stops.{looks}
use Rattle.ice_inbox.proofs.stop_word.StopLooker.look_for.Goals as goal

pub load-found-requires : goal.load-found-requires
load-found-requires c =
    let at : c.self.inside.seat.table_id ≡ c.deref.result.now.shared.table_id = search rules in
    (at, omega (arith, c.self.invariant.one, ap (λ (id : TableId). id.words) at), looks _ _ _ _ c.self.invariant.side)
