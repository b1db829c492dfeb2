use Rattle.std.proofs.Common.{ℕ, List, slice_index_or, ap, ◌∙◌, arith}
use Rattle.run_control.proofs.Numbers.{number_of}
use Rattle.run_control.proofs.inline.Inline.steps.Goals as goal

pub returns-clause-number : goal.returns-clause-number
returns-clause-number g c =
    let some = c.requires.0 in
    ap (λ (stops : List ℕ). slice_index_or stops c.min.result 0) c.deref.ensures.0 ∙
    number_of c.args.self.now.stops.items c.args.self.now.launches c.min.result (omega (arith, c.min.ensures, c.len.ensures.value, some))
    (λ h. omega (arith, c.min.ensures, c.len.ensures.value, some, h)) (λ h. omega (arith, c.min.ensures, c.len.ensures.value, some, h))
