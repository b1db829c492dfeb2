use Rattle.std.proofs.Common.{refl}
use Rattle.ice_top.proofs.Openings.{EndsOnImage-listed, EndsOnImage-refused}
use Rattle.ice_top.proofs.program.list_image.Goals as goal

pub returns-in-Ok-clause-ends : goal.returns-in-Ok-clause-ends
returns-in-Ok-clause-ends g c = λ left source_faults.
    rw c.status_of.ensures (EndsOnImage-listed _ _ _ _ _ _ c.in-Ok.ensures.loads c.in-Ok.ensures.still
    (rw (← c.as_slice.ensures.value) c.list_program.ensures.writes) (refl, refl) (refl, refl))

pub returns-in-Err-clause-ends : goal.returns-in-Err-clause-ends
returns-in-Err-clause-ends g c = λ left source_faults.
    rw c.refuse.ensures.status (EndsOnImage-refused _ _ _ _ _ _ c.in-Err.why c.in-Err.ensures.loads refl c.refuse.ensures.noted tt)
