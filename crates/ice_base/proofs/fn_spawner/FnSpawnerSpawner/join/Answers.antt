use Rattle.std.proofs.Common.{ap}
use Rattle.ice_base.proofs.fn_spawner.FnSpawnerSpawner.join.Goals as goal

pub returns-clause-sound : goal.returns-clause-sound
returns-clause-sound g c = rw (ap (λ s. s.begin) c.self.view_is) c.requires.sound
