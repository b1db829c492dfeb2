use Rattle.std.proofs.Common.{◌≡◌, rules, ap, arith}
use Rattle.atomic_table.specs.Seated.{TableId}
use Rattle.ice_inbox.proofs.Stops.{raises}
use Rattle.ice_inbox.proofs.stop_word.StopRaiser.raise.Goals as goal

pub swap-requires : goal.swap-requires
swap-requires c =
    let at : c.self.inside.seat.table_id ≡ c.deref.result.now.shared.table_id = search rules in
    (at, omega (arith, c.self.invariant.one, ap (λ (id : TableId). id.words) at), raises _ _ _ _ _ c.self.invariant.side)
