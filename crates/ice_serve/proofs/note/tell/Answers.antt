use Rattle.flash_patch.specs.Asking.{seen}
use Rattle.ice_serve.specs.Keeping.{seen_as}
use Rattle.ice_serve.proofs.HaltNotes.{nothing_told}
use Rattle.ice_serve.proofs.note.tell.Goals as goal

pub returns-then-write_some-clause-tells : goal.returns-then-write_some-clause-tells
returns-then-write_some-clause-tells g c = λ job kept. nothing_told (seen g.F.Flash.words g.F.Flash.journal g.F.Flash.faults g.F.Flash.writes) g.F.Flash.part c.args.emulator.now job (seen_as (g.X.Runner.is_out c.args.runner.now) (g.X.Runner.raised c.args.runner.now) (g.X.Runner.may_give c.args.runner.now) (g.X.Runner.launches c.args.runner.now) (g.X.Runner.collects c.args.runner.now) (g.X.Runner.faults c.args.runner.now)) kept
