use Rattle.std.proofs.Common.{refl}
use Rattle.ice_top.proofs.Openings.{EndsOnImage-refused}
use Rattle.ice_top.proofs.Scriptings.{EndsAs-script}
use Rattle.ice_top.proofs.script.script_image.Goals as goal

pub returns-in-Ok-clause-ends : goal.returns-in-Ok-clause-ends
returns-in-Ok-clause-ends g c = EndsAs-script _ _ _ _ _ _ _ _ _ _ c.in-Ok.ensures.loads c.in-Ok.ensures.still c.begin.ensures.ran

pub returns-in-Err-clause-ends : goal.returns-in-Err-clause-ends
returns-in-Err-clause-ends g c =
    rw c.refuse.ensures.status (EndsOnImage-refused _ _ _ _ _ _ c.in-Err.why c.in-Err.ensures.loads refl c.refuse.ensures.noted refl)
