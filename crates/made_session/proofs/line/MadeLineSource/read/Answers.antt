use Rattle.std.proofs.Common.{rules, ℕ, List, ◌≡◌, ◌+◌, ◌≤◌, ◌++◌, length, take, drop, sym, ap, ◌∙◌}
use Rattle.std.specs.List.{flat_map}
use Rattle.line_spec.specs.Frames.{bytes_of}
use Rattle.shell_spec.specs.Sent.{frames_of}
use Rattle.made_session.specs.Coming.{coming}
use Rattle.made_session.proofs.Comings.{left_given}
use Rattle.made_session.proofs.line.MadeLineSource.read.Goals as goal

pub returns-clause-bytes : goal.returns-clause-bytes
returns-clause-bytes c =
    let line = c.go_on.new.self in
    let count = c.min-count.result in
    let fits : line.given + count ≤ length line.frame.items = search rules in
    let here : c.copy_from_slice.new.self ≡ take count (drop line.given line.frame.items) = search rules in
    sym c.go_on.ensures.left ∙
    left_given line.frame.items (drop count c.args.buf.now) (flat_map bytes_of (frames_of line.made (coming line.seed line.to_come))) line.given count fits ∙
    ap (λ (t : List ℕ). take count (t ++ drop count c.args.buf.now) ++ (drop (line.given + count) line.frame.items ++
    flat_map bytes_of (frames_of line.made (coming line.seed line.to_come)))) (sym here)
