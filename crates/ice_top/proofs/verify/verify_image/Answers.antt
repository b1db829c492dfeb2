use Rattle.std.proofs.Common.{refl}
use Rattle.ice_top.proofs.Openings.{EndsOnImage-checked, EndsOnImage-refused}
use Rattle.ice_top.proofs.verify.verify_image.Goals as goal

pub returns-in-Err-clause-ends : goal.returns-in-Err-clause-ends
returns-in-Err-clause-ends g c =
    rw c.refuse.ensures.status (EndsOnImage-refused _ _ _ _ _ _ c.in-Err.why c.in-Err.ensures.loads refl c.refuse.ensures.noted tt)
