use Rattle.std.proofs.Common.{◌≡◌, Option, Some, refl, subst}
use Rattle.ice_inbox.specs.Threads.{MayGive}
use Rattle.ice_inbox.proofs.threaded.ThreadedRunner.collect.Goals as goal

pub returns-clause-gives : goal.returns-clause-gives
returns-clause-gives g c =
    let was : Some c.in-Some.ticket ≡ c.args.self.now.ticket = c.in-Some.ensures.value in
    subst (λ (o : Option g.row.P-Ticket.Denot). MayGive g.P.Spawner.allows o c.join-done.result.done) was
    (c.join-done.result, c.join-done.ensures.gives, refl)
