use Rattle.std.proofs.Common.{◌≡◌, rules, ap, arith}
use Rattle.atomic_table.specs.Seated.{TableId}
use Rattle.ice_inbox.proofs.Stops.{leaves}
use Rattle.ice_inbox.proofs.stop_word.StopRaiser.split.Goals as goal

pub split_seat-seat-requires : goal.split_seat-seat-requires
split_seat-seat-requires c =
    let at : c.self.inside.seat.table_id ≡ c.deref.result.now.shared.table_id = search rules in
    (at, omega (arith, c.self.invariant.one, ap (λ (id : TableId). id.words) at), leaves _ _)
