use Rattle.std.proofs.Common.{Ok, Err, subst, sym, ap}
use Rattle.ice_base.specs.Spawning.{IsBeginning}
use Rattle.ice_base.proofs.fn_spawner.FnSpawnerSpawner.start.Goals as goal

pub returns-in-Ok-clause-gives : goal.returns-in-Ok-clause-gives
returns-in-Ok-clause-gives g c =
    let sound = subst (λ begin. IsBeginning g.W.Work.gives g.T.Joins.allows (λ work. g.F.Fn.pre begin (work, tt)) (λ work answer. g.F.Fn.post begin (work, tt) answer))
    (sym (ap (λ s. s.begin) c.self.view_is)) c.requires.sound in
    (sound c.args.work).1 (Ok c.in-Ok.ticket) c.in-Ok.ensures

pub returns-in-Err-clause-back : goal.returns-in-Err-clause-back
returns-in-Err-clause-back g c =
    let sound = subst (λ begin. IsBeginning g.W.Work.gives g.T.Joins.allows (λ work. g.F.Fn.pre begin (work, tt)) (λ work answer. g.F.Fn.post begin (work, tt) answer))
    (sym (ap (λ s. s.begin) c.self.view_is)) c.requires.sound in
    (sound c.args.work).1 (Err c.in-Err.work) c.in-Err.ensures

pub returns-in-Ok-clause-sound : goal.returns-in-Ok-clause-sound
returns-in-Ok-clause-sound g c = rw (ap (λ s. s.begin) c.self.view_is) c.requires.sound

pub returns-in-Err-clause-sound : goal.returns-in-Err-clause-sound
returns-in-Err-clause-sound g c = rw (ap (λ s. s.begin) c.self.view_is) c.requires.sound
