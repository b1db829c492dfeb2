use Rattle.std.proofs.Common.{refl, arith}
use Rattle.hex.specs.Hex.{encode_with}
use Rattle.record_spec.specs.inside.Examples.{sign_off_bytes, okay_bytes}
use Rattle.record_spec.proofs.ByteLists.{are_bytes}
use Rattle.record_spec.proofs.rows.lines_of_a_sign_off.Goals as goal

pub returns-clause-comes : goal.returns-clause-comes
unfolding encode_with
returns-clause-comes c = (omega arith, omega arith, are_bytes sign_off_bytes refl, refl)

pub returns-clause-out : goal.returns-clause-out
unfolding encode_with
returns-clause-out c = (are_bytes okay_bytes refl, refl)
