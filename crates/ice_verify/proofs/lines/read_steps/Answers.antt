use Rattle.std.proofs.Common.{◌≡◌, ℕ, ◌+◌, List, [], ◌∷◌, ◌++◌, take, get_or, sym, ap, ◌∙◌, arith}
use Rattle.std.proofs.lemmas.List.{take_more}
use Rattle.std.specs.List.{list_all}
use Rattle.record_spec.specs.Lines.{is_digit, number_on}
use Rattle.ice_verify.specs.Told.{counted}
use Rattle.ice_verify.proofs.Texts.{number_more, counted_more, tested_more}
use Rattle.ice_verify.proofs.lines.read_steps.Goals as goal

pub digits-preserved : goal.digits-preserved
digits-preserved c =
    let digits = c.args.digits.now in
    let index = c.digits.digit-index in
    let digit = get_or digits index 0 in
    let more : take (index + 1) digits ≡ take index digits ++ digit ∷ [] = take_more digits index 0 c.digits-test.true in record {
      number = counted_more c.digits.number (number_on 0 (take index digits)) digit c.min-number.result c.digits.invariant.number
          (omega (arith, c.min-number.ensures, c.from.ensures)) ∙
          sym (ap (λ (t : List ℕ). counted (number_on 0 t)) more ∙ ap counted (number_more 0 (take index digits) digit));
      each = ap (list_all is_digit) more ∙
          tested_more (take index digits) digit c.digits.invariant.each (omega (arith, c.if-digit-lt48.false)) (omega (arith, c.if-digit-gt57.false));
    }
