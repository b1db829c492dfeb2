use Rattle.std.proofs.Common.{refl}
use Rattle.hex.specs.Hex.{encode_with}
use Rattle.shell_spec.proofs.values.texts_of_answers.Goals as goal

pub returns-clause-short : goal.returns-clause-short
unfolding encode_with
returns-clause-short c = refl

pub returns-clause-dumped : goal.returns-clause-dumped
unfolding encode_with
returns-clause-dumped c = refl

pub returns-clause-lines : goal.returns-clause-lines
unfolding encode_with
returns-clause-lines c = refl

pub returns-clause-addresses : goal.returns-clause-addresses
unfolding encode_with
returns-clause-addresses c = refl
