use Rattle.avr_spec.specs.Memory.{pushed_pc}
use Rattle.avr_core.proofs.state.Core.enter.Goals as goal

pub returns : goal.returns
returns c = λ part p h. c.go_to.ensures part (pushed_pc part p) (c.push_pc.ensures part p h)
