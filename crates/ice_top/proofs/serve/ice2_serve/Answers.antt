use Rattle.std.proofs.Common.{refl, ap, ◌∙◌}
use Rattle.std.specs.Prelude.{length}
use Rattle.part_spec.specs.Chip.{chip_of, words_of}
use Rattle.ice_top.specs.Words.{serving}
use Rattle.ice_top.proofs.ServedPlainly.{plain_where}
use Rattle.ice_top.proofs.Servings.{ServesBy-ends, EndsServed-ran, RanServed-at, ServesBy-refused}
use Rattle.ice_top.proofs.serve.ice2_serve.Goals as goal

pub begin-requires-clause-size : goal.begin-requires-clause-size
begin-requires-clause-size g c =
    ap length c.as_slice.ensures.value ∙ c.in-Ok.ensures.size ∙ ap (λ p. words_of (chip_of p))
    (c.requires.part (serving c.in-Some.ensures.0 c.in-Some.field-0.image.now) c.in-Some.field-0.part c.in-Some.ensures.1)

pub returns-in-Ok-clause-ends : goal.returns-in-Ok-clause-ends
returns-in-Ok-clause-ends g c =
    ServesBy-ends _ c.in-Some.field-0.part c.in-Some.field-0.image.now _ _ _ _ c.in-Ok.program.items _ _ _ _ c.in-Some.ensures.0 c.in-Some.ensures.1
    (EndsServed-ran _ c.in-Some.field-0.part c.in-Some.field-0.image.now _ _ _ _ c.in-Ok.program.items _ _ _ c.in-Ok.ensures.loads c.in-Ok.ensures.still
    (RanServed-at _ _ c.in-Some.field-0.part (g.F.Flash.part c.args.flash) c.as_slice.result.now c.in-Ok.program.items _ _ _ _ _ _
    (c.requires.part (serving c.in-Some.ensures.0 c.in-Some.field-0.image.now) c.in-Some.field-0.part c.in-Some.ensures.1) c.as_slice.ensures.value
    (c.begin.ensures.ran (g.L.Loader.contents c.args.loader.now) (g.L.Loader.contents c.load.new.loader)
    (g.L.Loader.faults c.args.loader.now) (g.L.Loader.faults c.load.new.loader))))

pub returns-in-Ok-clause-plain : goal.returns-in-Ok-clause-plain
returns-in-Ok-clause-plain g c = plain_where _ c.begin.result.pass _ _ _ _

pub returns-in-Err-clause-ends : goal.returns-in-Err-clause-ends
returns-in-Err-clause-ends g c =
    ServesBy-refused _ _ _ c.in-Some.ensures.0 c.in-Some.field-0.image.now c.in-Some.field-0.part _ _ _ _ _ _ c.in-Err.why c.in-Some.ensures.1
    c.in-Err.ensures.loads (c.unopened-in-Err.ensures.status ∙ c.refuse.ensures.status) (cc c.unopened-in-Err.ensures.source)
    c.refuse.ensures.noted c.unopened-in-Err.ensures.flash (c.unopened-in-Err.ensures.pass, c.unopened-in-Err.ensures.totals)
