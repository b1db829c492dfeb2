use Rattle.debug_spec.proofs.DeviceRunLemmas.{device_makes_runs}
use Rattle.debug_spec.proofs.laws.the_device_makes_the_run.Goals as goal

pub returns : goal.returns
returns c = device_makes_runs
