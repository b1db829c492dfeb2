use Rattle.std.proofs.Common.{◌≡◌, ◌/◌, ◌^◌, drop}
use Rattle.std.specs.Prelude.{◌==◌, count_by}
use Rattle.avr_asm.proofs.fields.halved.Given as goal

abbrev pub invariant-letters : goal.invariant-letters
invariant-letters l =
    l.half / 2 ^ count_by (λ other. other == l.letter) (drop l.other-index l.behind) ≡ l.value / 2 ^ count_by (λ other. other == l.letter) l.behind
