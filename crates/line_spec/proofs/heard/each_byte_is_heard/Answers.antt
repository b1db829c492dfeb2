use Rattle.line_spec.proofs.HeardLemmas.{each_byte_is_heard}
use Rattle.line_spec.proofs.heard.each_byte_is_heard.Goals as goal

pub returns : goal.returns
returns c = each_byte_is_heard
