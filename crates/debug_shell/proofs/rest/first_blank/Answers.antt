use Rattle.std.proofs.Common.{◌≡◌, ℕ, length, Some, None, List, ◌≤◌, not, sym, arith}
use Rattle.std.specs.Prelude.{position}
use Rattle.std.specs.List.{position_or_len}
use Rattle.std.proofs.lemmas.List.Sums.{prefix_len-le-length}
use Rattle.std.proofs.lemmas.Grind.{common_steps}
use Rattle.shell_spec.specs.Words.{is_blank}
use Rattle.debug_shell.proofs.rest.first_blank.Goals as goal

found : (bytes : List ℕ) (end : ℕ) → position is_blank bytes ≡ Some end → end ≡ position_or_len is_blank bytes
found bytes end is = grind (arith, common_steps)

none : (bytes : List ℕ) → position is_blank bytes ≡ None → length bytes ≡ position_or_len is_blank bytes
none bytes is =
    let short : position_or_len is_blank bytes ≤ length bytes = prefix_len-le-length (λ byte. not (is_blank byte)) bytes in
    let long : length bytes ≤ position_or_len is_blank bytes = grind (arith, common_steps) in
    omega (arith, short, long)

pub returns-in-Some-clause-at : goal.returns-in-Some-clause-at
returns-in-Some-clause-at c = found c.args.bytes.now c.in-Some.end (sym c.in-Some.ensures.at)

pub returns-in-None-clause-at : goal.returns-in-None-clause-at
returns-in-None-clause-at c = none c.args.bytes.now (sym c.in-None.ensures.at)
