use Rattle.std.proofs.Common.{rules, ◌≡◌, ◌≤◌, length, take, drop, sym, ap, ◌∙◌}
use Rattle.std.proofs.lemmas.List.{take-append-drop}
use Rattle.std.proofs.KnownBytes.{prepend_known-read}
use Rattle.std.specs.Io.KnownBytes.{prepend_known}
use Rattle.ice_base.proofs.Lists.{take_front}
use Rattle.ice_base.proofs.std_source.StdSourceSource.read.Goals as goal

pub returns-in-Ok-clause-through : goal.returns-in-Ok-clause-through
returns-in-Ok-clause-through g c =
    let before = prepend_known c.args.self.now.1 (g.R.Read.remaining c.args.self.now.0) in
    let ready = c.read_ahead.new.self in
    let n = c.give.result in
    let fits : n ≤ length ready.1 = search rules in
    let parted = sym (take-append-drop n ready.1) in
    let taken = (prepend_known-read before (g.R.Read.remaining ready.0) ready.1 (drop n ready.1) (take n ready.1) ⊥ c.read_ahead.ensures.bytes parted (λ none. absurd none)).0 in
    let front : take n c.give.new.buf ≡ take n ready.1 = ap (λ l. take n l) c.give.ensures.buf ∙ take_front ready.1 (drop n c.args.buf.now) n fits in
    rw (c.give.ensures.ahead, c.give.ensures.reader, front) taken
