use Rattle.std.proofs.Common.{List, ℕ, [], ◌∷◌, ◌++◌, ◌≤◌, length, sym, ◌∙◌, length-append, arith}
use Rattle.std.proofs.lemmas.List.{take_all, take-append-le}
use Rattle.debug_shell.proofs.script.keep.Goals as goal

pub returns-then-len-lt-HELD_LIMIT : goal.returns-then-len-lt-HELD_LIMIT
returns-then-len-lt-HELD_LIMIT c =
    c.push.ensures.items ∙ sym (take_all 323 (c.args.held.now.items ++ c.args.byte ∷ [])
    (omega (arith, length-append c.args.held.now.items (c.args.byte ∷ []), c.len.ensures, c.if-len-lt-HELD_LIMIT.true)))

pub returns-else-len-lt-HELD_LIMIT : goal.returns-else-len-lt-HELD_LIMIT
returns-else-len-lt-HELD_LIMIT c =
    let held : List ℕ = c.args.held.now.items in
    let full : 323 ≤ length held = omega (arith, c.len.ensures.value, c.if-len-lt-HELD_LIMIT.false) in
    sym (take-append-le 323 held (c.args.byte ∷ []) full ∙ take_all 323 held (omega (arith, c.len.ensures.value, c.len.ensures.fits)))
