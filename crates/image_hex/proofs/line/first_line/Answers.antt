use Rattle.std.proofs.Common.{◌+◌, sym, ◌∙◌}
use Rattle.std.proofs.lemmas.List.{take_rest}
use Rattle.image_hex.proofs.Cutting.{lines_of-ended, lines_of-endless}
use Rattle.image_hex.proofs.line.first_line.Goals as goal

pub returns-in-Some-clause-lines : goal.returns-in-Some-clause-lines
returns-in-Some-clause-lines c =
    rw (take_rest c.args.text.now (c.in-Some.end + 1), c.unended.ensures)
    (lines_of-ended c.args.text.now c.in-Some.end (sym c.end_of.ensures.at ∙ c.in-Some.is))

pub returns-in-None-clause-lines : goal.returns-in-None-clause-lines
returns-in-None-clause-lines c = lines_of-endless c.args.text.now c.requires (sym c.end_of.ensures.at ∙ c.in-None.is)
