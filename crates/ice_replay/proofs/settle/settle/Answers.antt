use Rattle.ice_replay.proofs.settle.settle.Goals as goal

pub returns-clause-settles : goal.returns-clause-settles
returns-clause-settles g c = λ job number by_itself pend is came.
    (c.take-taken.result.next, c.take-taken.ensures.ends job is number by_itself pend (came c.collect-done.result c.collect-done.ensures.gives))
