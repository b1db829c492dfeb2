use Rattle.std.proofs.Common.{◌≡◌, ◌≤◌, ◌*◌, ◌^◌, drop}
use Rattle.std.specs.Prelude.{◌==◌, count_by}
use Rattle.avr_asm.proofs.meanings.limit_of.Given as goal

abbrev pub invariant-letters : goal.invariant-letters
invariant-letters l = record {
  so_far : l.limit * 2 ^ count_by (λ other. other == l.letter) (drop l.other-index l.letters) ≡ 2 ^ count_by (λ other. other == l.letter) l.letters;
  small : l.limit ≤ 2 ^ l.other-index;
}
